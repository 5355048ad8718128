-- Marks that are written category by category, as far as there is room.
use Rattle.std.proofs.Common.{◌≡◌, ◌≢◌, ℕ, ◌+◌, ◌<◌, ◌≤◌, ◌==◌, List, Bool, false, not, sym, ap, ◌∙◌, arith, length}
use Rattle.std.proofs.Common.{map, get_or, set, subst, get_or-set_same, get_or-set_other}
use Rattle.std.specs.List.{range_with_len}
use Rattle.std.proofs.lemmas.List.FromFn.{fill_by_all}
use Rattle.std.proofs.Math.ListN.{length-set}
use borrow.Author.Count.{below_more}

-- the first categories are marked by these words
pub record MarkedTo (word : ℕ → ℕ) (n : ℕ) (won : List Bool) : Type 0 where
  pub each : (k : ℕ) → k < n → k < length won → get_or won k false ≡ not (word k == 0)

-- before the first category none is
pub marked_none : (word : ℕ → ℕ) (won : List Bool) → MarkedTo word 0 won
marked_none word won = record { each = λ k h room. absurd (omega (arith, h)) }

-- one category more
pub marked_more : {word : ℕ → ℕ} {n : ℕ} {won next : List Bool} → MarkedTo word n won → (value : ℕ) →
    value ≡ word n → next ≡ set won n (not (value == 0)) → MarkedTo word (n + 1) next
marked_more {word = word} {n = n} {won = won} m value is next_is =
    subst (λ (xs : List Bool). MarkedTo word (n + 1) xs) (sym next_is) record {
      each = below_more (λ (k : ℕ). k < length (set won n (not (value == 0))) →
          get_or (set won n (not (value == 0))) k false ≡ not (word k == 0)) n
          (λ k h room. let other : k ≢ n = omega (arith, h) in
          get_or-set_other won n k (not (value == 0)) false other
          ∙ m.each k h (omega (arith, room, length-set won n (not (value == 0)))))
          (λ room. get_or-set_same won n (not (value == 0)) false
          (omega (arith, room, length-set won n (not (value == 0)))) ∙ ap (λ (w : ℕ). not (w == 0)) is);
    }

-- all categories that there is room for
pub all_marked : {word : ℕ → ℕ} {n : ℕ} {won : List Bool} (room : ℕ) → MarkedTo word n won → length won ≡ room →
    room ≤ n → won ≡ map (λ k. not (word k == 0)) (range_with_len 0 room)
all_marked {word = word} {won = won} room m len few =
    fill_by_all (λ k. not (word k == 0)) won room false len
    (λ k h. m.each k (omega (arith, h, few)) (omega (arith, h, len)))

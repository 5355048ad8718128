-- Pairs that are inserted.
use Rattle.std.proofs.Common.{◌≡◌, ℕ, ◌+◌, ◌<◌, ◌≤◌, ◌==◌, ◌||◌, List, [], ◌∷◌, ◌++◌, length, get_or, Bool, true}
use Rattle.std.proofs.Common.{◌⊎◌, false, cond, not, refl, sym, ◌∙◌, ap, subst, inl, inr, true≢false, arith}
use Rattle.std.specs.List.{list_any, position_or_len}
use Rattle.std.proofs.lemmas.Bool.{cases_lt, and_from, eq-eqb}
use Rattle.std.proofs.lemmas.List.{get_or_append_left, length-append}
use Rattle.std.proofs.Math.Seq.{get_or-append_seam}
use Rattle.std.proofs.lemmas.List.Folds.{list_any-append}
use Rattle.indexmap.specs.IndexSet.{insert_key}
use Rattle.state_parts.specs.Keys.{KeyAt, same_pair, AreLower, AreDistinct, has_entry}
use Rattle.state_parts.proofs.Keys.{key_grows}

-- a pair compares as one with itself
pub same_itself : (pair : ℕ × ℕ) → same_pair pair pair ≡ true
same_itself pair =
    and_from (pair.0 == pair.0) (pair.1 == pair.1) (eq-eqb pair.0 pair.0 refl) (eq-eqb pair.1 pair.1 refl)

-- a pair that isn't among the others has the next number
new_at : (pairs : List (ℕ × ℕ)) (pair : ℕ × ℕ) → list_any (same_pair pair) pairs ≡ false
    → KeyAt same_pair (pairs ++ pair ∷ []) pair (length pairs + 1)
new_at pairs pair none = record {
  there = list_any-append (same_pair pair) pairs (pair ∷ [])
      ∙ (λ i. none i || (same_itself pair i || false));
  at = ap (λ n. n + 1) (sym (place_after pairs none));
}
  where
    place_after : (ps : List (ℕ × ℕ)) → list_any (same_pair pair) ps ≡ false
        → position_or_len (same_pair pair) (ps ++ pair ∷ []) ≡ length ps
    place_after [] none = ap (λ b. cond (not b) 1 0) (same_itself pair)
    place_after (p ∷ ps) none = by (same_pair pair p) (place_after ps) none
      where
        by : (b : Bool) → (list_any (same_pair pair) ps ≡ false
            → position_or_len (same_pair pair) (ps ++ pair ∷ []) ≡ length ps)
            → (b || list_any (same_pair pair) ps) ≡ false
            → cond (not b) (1 + position_or_len (same_pair pair) (ps ++ pair ∷ [])) 0 ≡ length (p ∷ ps)
        by true rest is = absurd (true≢false is)
        by false rest is = rw (rest is) (omega arith)

-- distinct pairs stay distinct with a pair that isn't among them
distinct_push : (pairs : List (ℕ × ℕ)) (pair : ℕ × ℕ) → list_any (same_pair pair) pairs ≡ false → AreDistinct pairs
    → AreDistinct (pairs ++ pair ∷ [])
distinct_push pairs pair none distinct k below = elim (cases_lt k (length pairs)) [
  | inl old ↦
      subst (λ p. KeyAt same_pair (pairs ++ pair ∷ []) p (k + 1))
      (sym (get_or_append_left pairs (pair ∷ []) (0, 0) k old))
      (key_grows same_pair pairs (pair ∷ []) (get_or pairs k (0, 0)) (k + 1) (distinct k old))
  | inr late ↦
      let e : k ≡ length pairs = omega (arith, late, below, length-append pairs (pair ∷ [])) in
      subst (λ n. KeyAt same_pair (pairs ++ pair ∷ []) (get_or (pairs ++ pair ∷ []) n (0, 0)) (n + 1)) (sym e)
      (subst (λ p. KeyAt same_pair (pairs ++ pair ∷ []) p (length pairs + 1))
      (sym (get_or-append_seam pairs pair [] (0, 0))) (new_at pairs pair none))
]

-- pairs of lower parts stay so with a pair whose parts are there
lower_push : (pairs : List (ℕ × ℕ)) (pair : ℕ × ℕ)
    → (0 < pair.0 → (pair.0 ≤ length pairs) × (0 < pair.1) × (pair.1 ≤ length pairs)) → AreLower pairs
    → AreLower (pairs ++ pair ∷ [])
lower_push pairs pair low lower k below = elim (cases_lt k (length pairs)) [
  | inl old ↦
      subst (λ p. 0 < p.0 → (p.0 ≤ k) × (0 < p.1) × (p.1 ≤ k))
      (sym (get_or_append_left pairs (pair ∷ []) (0, 0) k old)) (lower k old)
  | inr late ↦
      let e : k ≡ length pairs = omega (arith, late, below, length-append pairs (pair ∷ [])) in
      subst (λ n. 0 < (get_or (pairs ++ pair ∷ []) n (0, 0)).0 → ((get_or (pairs ++ pair ∷ []) n (0, 0)).0 ≤ n)
      × (0 < (get_or (pairs ++ pair ∷ []) n (0, 0)).1) × ((get_or (pairs ++ pair ∷ []) n (0, 0)).1 ≤ n)) (sym e)
      (subst (λ (p : ℕ × ℕ). 0 < p.0 → (p.0 ≤ length pairs) × (0 < p.1) × (p.1 ≤ length pairs))
      (sym (get_or-append_seam pairs pair [] (0, 0))) low)
]

-- pairs stay lower and distinct when one is inserted
pub well_made : (pairs : List (ℕ × ℕ)) (pair : ℕ × ℕ)
    → (0 < pair.0 → (pair.0 ≤ length pairs) × (0 < pair.1) × (pair.1 ≤ length pairs))
    → AreLower pairs × AreDistinct pairs
    → AreLower (insert_key same_pair pairs pair) × AreDistinct (insert_key same_pair pairs pair)
well_made pairs pair low made = by (list_any (same_pair pair) pairs) refl
  where
    by : (b : Bool) → list_any (same_pair pair) pairs ≡ b
        → AreLower (cond b pairs (pairs ++ pair ∷ [])) × AreDistinct (cond b pairs (pairs ++ pair ∷ []))
    by true is = made
    by false is = (lower_push pairs pair low made.0, distinct_push pairs pair is made.1)

-- if one of two holds, it is the first or the second
or_last : (a b : Bool) → (a || (b || false)) ≡ true → (a ≡ true) ⊎ (b ≡ true)
or_last true b is = inl refl
or_last false true is = inr refl
or_last false false is = absurd (true≢false (sym is))

-- an entry was among the pairs before, or it is the one that is inserted
pub entry_from : (pairs : List (ℕ × ℕ)) (pair : ℕ × ℕ) (entry : ℕ)
    → has_entry (insert_key same_pair pairs pair) entry ≡ true
    → (has_entry pairs entry ≡ true) ⊎ (same_pair (0, entry) pair ≡ true)
entry_from pairs pair entry = by (list_any (same_pair pair) pairs)
  where
    by : (b : Bool) → has_entry (cond b pairs (pairs ++ pair ∷ [])) entry ≡ true
        → (has_entry pairs entry ≡ true) ⊎ (same_pair (0, entry) pair ≡ true)
    by true is = inl is
    by false is = or_last (has_entry pairs entry) (same_pair (0, entry) pair)
        (sym (list_any-append (same_pair (0, entry)) pairs (pair ∷ [])) ∙ is)

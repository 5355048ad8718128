-- The group that a turn makes two, told by the words of the groups beside it.
use Rattle.std.proofs.Common.{◌≡◌, ◌≢◌, ℕ, suc, ◌+◌, ◌==◌, ◌<◌, ◌≤◌, ◌&&◌, ◌++◌, List, [], ◌∷◌, length, map, filter, All}
use Rattle.std.proofs.Common.{Bool, true, false, Option, Some, None, cond, refl, sym, ap, ◌∙◌, inl, inr, arith}
use Rattle.std.specs.Prelude.{fold, max, nat_le, nat_lt}
use Rattle.std.specs.List.{sum_by, position, position_or_len}
use Rattle.std.proofs.lemmas.Bool.{cases_Bool, cond-true, cond-false, lt-leb, lt-ltb, eq-eqb, ne_eqb}
use Rattle.std.proofs.lemmas.List.{length-append}
use Rattle.std.proofs.lemmas.List.Sums.{sum_by-append, sum_by-cons}
use Rattle.std.proofs.lemmas.List.Elements.{All-head, All-tail, All-cons}
use Rattle.list_lemmas.proofs.Maxima.{fold_ge}
use Rattle.rule_split.specs.Split.{can_split, capped, total, most_words, split_place, to_split}

-- the first of some elements that passes, where none before it does
first_at : {X : Type 0} (test : X → Bool) (before later : List X) (x : X) → All (λ y. test y ≡ false) before →
    test x ≡ true → position_or_len test (before ++ x ∷ later) ≡ length before
first_at test [] later x fails passes = rw passes refl
first_at test (y ∷ before) later x fails passes =
    let rest = first_at test before later x (All-tail (λ z. test z ≡ false) y before fails) passes in
    let one : 1 + length before ≡ suc (length before) = omega arith in
    rw (All-head (λ z. test z ≡ false) y before fails) (ap (λ n. 1 + n) rest ∙ one)

module _ (words : List ℕ → ℕ) (budget : ℕ) where
  -- the words of a group, or one more than the budget
  abbrev cost : List ℕ → ℕ
  cost = capped words budget

  -- If the group can be split, its words are below the bound.
  abbrev pub IsBelow : ℕ → List ℕ → Type 0
  IsBelow bound group = can_split group ≡ true → cost group < bound

  -- and so for at most the bound
  abbrev pub IsUpTo : ℕ → List ℕ → Type 0
  IsUpTo bound group = can_split group ≡ true → cost group ≤ bound

  -- the most words of groups that are up to a bound
  most_up : (a bound : ℕ) (groups : List (List ℕ)) → a ≤ bound → All (IsUpTo bound) groups →
      fold max a (map cost (filter can_split groups)) ≤ bound
  most_up a bound [] start all = start
  most_up a bound (group ∷ groups) start all =
      let rest = All-tail (IsUpTo bound) group groups all in
      let here = All-head (IsUpTo bound) group groups all in
      elim (cases_Bool (can_split group)) [
        | inl can ↦ rw can (most_up (max a (cost group)) bound groups (omega (arith, start, here can)) rest)
        | inr not ↦ rw not (most_up a bound groups start rest)
      ]

  -- where those before a group have fewer words, and those after it no more, its words are the most
  most_there : (a : ℕ) (before later : List (List ℕ)) (group : List ℕ) → a ≤ cost group → can_split group ≡ true →
      All (IsBelow (cost group)) before → All (IsUpTo (cost group)) later →
      fold max a (map cost (filter can_split (before ++ group ∷ later))) ≡ cost group
  most_there a [] later group start can below up =
      rw can (omega (
        arith,
        fold_ge (max a (cost group)) (map cost (filter can_split later)),
        most_up (max a (cost group)) (cost group) later (omega (arith, start)) up,
      ))
  most_there a (other ∷ before) later group start can below up =
      let rest = All-tail (IsBelow (cost group)) other before below in
      let here = All-head (IsBelow (cost group)) other before below in
      elim (cases_Bool (can_split other)) [
        | inl also ↦ rw also
            (most_there (max a (cost other)) before later group (omega (arith, start, here also)) can rest up)
        | inr not ↦ rw not (most_there a before later group start can rest up)
      ]

  -- a group of fewer words isn't the one that is split
  below_fails : (bound : ℕ) (groups : List (List ℕ)) → All (IsBelow bound) groups →
      All (λ group. (can_split group && cost group == bound) ≡ false) groups
  below_fails bound [] below = λ k d within. absurd (omega (arith, within))
  below_fails bound (group ∷ groups) below = All-cons (λ other. (can_split other && cost other == bound) ≡ false)
      group groups (elim (cases_Bool (can_split group)) [
        | inl can ↦ rw can (ne_eqb (cost group) bound
            (λ same. omega (arith, same, All-head (IsBelow bound) group groups below can)))
        | inr not ↦ rw not refl
      ]) (below_fails bound groups (All-tail (IsBelow bound) group groups below))

  -- it is the one that is split, where the total is above the budget
  pub split_there : (before later : List (List ℕ)) (group : List ℕ) → can_split group ≡ true →
      All (IsBelow (cost group)) before → All (IsUpTo (cost group)) later →
      budget < total words budget (before ++ group ∷ later) →
      to_split words budget (before ++ group ∷ later) ≡ Some (length before)
  unfolding to_split split_place
  split_there before later group can below up above =
      let groups : List (List ℕ) = before ++ group ∷ later in
      let most : most_words words budget groups ≡ cost group =
      most_there 0 before later group (omega arith) can below up in
      let place : position_or_len (λ other. can_split other && cost other == cost group) groups
      ≡ length before =
      first_at (λ other. can_split other && cost other == cost group) before later group
      (below_fails (cost group) before below) (rw can (eq-eqb (cost group) (cost group) refl)) in
      cond-false _ _ _ (lt-leb (total words budget groups) budget above)
      ∙ ap (λ n. position (λ other. can_split other && cost other == n) groups) most
      ∙ ap (λ n. cond (nat_lt n (length groups)) (Some n) None) place
      ∙ cond-true _ _ _ (lt-ltb (length before) (length groups) (omega (arith, length-append before (group ∷ later))))

  -- the total is that of the others, and the words of one of them
  pub total_there : (before later : List (List ℕ)) (group : List ℕ) →
      total words budget (before ++ group ∷ later)
      ≡ total words budget (before ++ later) + cost group
  total_there before later group =
      omega (
        arith,
        sum_by-append cost before (group ∷ later),
        sum_by-append cost before later,
        sum_by-cons cost group later,
      )

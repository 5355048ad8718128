-- Keys that tell their places are ranked by going through them in order.
use Rattle.std.proofs.Common.{◌≡◌, ◌≢◌, ℕ, ◌+◌, ◌<◌, ◌≤◌, List, length, get_or, set, map, cond, eqb, nat_lt, Bool}
use Rattle.std.proofs.Common.{ap, sym, ◌∙◌, inl, inr, arith}
use Rattle.std.specs.Prelude.{All}
use Rattle.std.specs.List.{Contains, count_by, IsDistinct}
use Rattle.std.specs.List.Sorted.{IsNonDecreasing, IsPermutation}
use Rattle.std.proofs.lemmas.Bool.{cases_eq, lt-ltb, le-ltb, eqb-false, ne_eqb}
use Rattle.std.proofs.lemmas.Bool.Decides.{nat_tests}
use Rattle.std.proofs.lemmas.List.{ext_get_or, get_or_default, get_or-map, get_or-set_same, get_or-set_other}
use Rattle.std.proofs.lemmas.List.{length-map, length-set}
use Rattle.std.proofs.lemmas.List.Sorted.{All-permutation, Contains-permutation, length_permutation}
use Rattle.std.proofs.lemmas.List.Sorted.{sum_by-IsPermutation}
use Rattle.std.proofs.lemmas.Map.Keys.{IsDistinct-from_apart, IsDistinct-IsPermutation, apart_from_distinct}
use Rattle.list_lemmas.proofs.Counts.{count_at_point}
use Rattle.rule_set.specs.Keys.{place_of, rank_among, TellPlaces}

-- keys that tell their places, and the same keys in order
pub record InOrder (keys sorted : List ℕ) : Type 0 where
  pub told : TellPlaces keys
  pub same : IsPermutation keys sorted
  pub rises : IsNonDecreasing sorted

-- the ranks of the first keys in order, each at the place that its key tells
pub record RankedSoFar (keys sorted ranks : List ℕ) (count : ℕ) : Type 0 where
  pub ordered : InOrder keys sorted
  pub long : length ranks ≡ length sorted
  pub each : (k : ℕ) → k < count → get_or ranks (place_of (get_or sorted k 0)) 0 ≡ k + 1

-- two keys tell one place
abbrev share_place : ℕ → ℕ → Bool
share_place one other = eqb (place_of one) (place_of other)

-- it doesn't matter which of two keys is named first
share_place_turned : (one other : ℕ) → share_place one other ≡ share_place other one
share_place_turned one other = turned (place_of one) (place_of other)
  where
    turned : (m n : ℕ) → eqb m n ≡ eqb n m
    turned m n = grind (arith, nat_tests)

module _ (keys sorted : List ℕ) (ordered : InOrder keys sorted) where
  -- each place is one of the list
  place_inside : (k d : ℕ) → k < length sorted → place_of (get_or sorted k d) < length sorted
  place_inside k d within =
      let among : All (λ key. place_of key < length keys) keys =
      λ i e below. rw (ordered.told i e below) below in
      rw (length_permutation keys sorted ordered.same)
      (All-permutation (λ key. place_of key < length keys) keys sorted ordered.same among k d within)

  -- and no two keys share one
  places_apart : (i j : ℕ) → i < j → j < length sorted →
      place_of (get_or sorted i 0) ≢ place_of (get_or sorted j 0)
  places_apart i j before within =
      let apart : IsDistinct share_place keys =
      IsDistinct-from_apart share_place keys
      (λ a b d first inside. rw (ordered.told a d (omega arith), ordered.told b d inside) (ne_eqb a b (omega arith))) in
      eqb-false _ _ (apart_from_distinct share_place sorted i j 0
      (IsDistinct-IsPermutation share_place share_place_turned keys sorted ordered.same apart) before within)

  -- so the keys rise
  keys_rise : (i j : ℕ) → i < j → j < length sorted → get_or sorted i 0 < get_or sorted j 0
  keys_rise i j before within = elim (cases_eq (get_or sorted i 0) (get_or sorted j 0)) [
    | inl same ↦ absurd (places_apart i j before within (ap place_of same))
    | inr other ↦ omega (arith, other, ordered.rises i j 0 (omega arith) within)
  ]

  -- and a key has as many keys below it as stand before it
  rank_in_order : (k : ℕ) → k < length sorted → rank_among keys (get_or sorted k 0) ≡ k + 1
  rank_in_order k within =
      let key : ℕ = get_or sorted k 0 in
      let count : count_by (λ other. nat_lt other key) sorted ≡ k =
      count_at_point (λ other. nat_lt other key) sorted k (omega arith)
      (λ i d before. rw (get_or_default sorted i d 0 (omega arith)) (lt-ltb _ key (keys_rise i k before within)))
      (λ i d after inside. rw (get_or_default sorted i d 0 inside)
      (le-ltb _ key (ordered.rises k i 0 after inside))) in
      omega (arith, count, sum_by-IsPermutation (λ other. cond (nat_lt other key) 1 0) keys sorted ordered.same)

module _ (keys sorted ranks : List ℕ) (count : ℕ) (so_far : RankedSoFar keys sorted ranks count) where
  -- the next key tells a place of the list
  pub next_inside : count < length sorted → place_of (get_or sorted count 0) < length ranks
  next_inside within = rw so_far.long (place_inside keys sorted so_far.ordered count 0 within)

  -- one more rank
  pub one_more_ranked : count < length sorted →
      RankedSoFar keys sorted (set ranks (place_of (get_or sorted count 0)) (count + 1)) (count + 1)
  one_more_ranked within =
      let place : ℕ = place_of (get_or sorted count 0) in
      record {
        ordered = so_far.ordered;
        long = length-set ranks place (count + 1) ∙ so_far.long;
        each = λ k below. elim (cases_eq k count) [
          | inl last ↦
              ap (λ n. get_or (set ranks place (count + 1)) (place_of (get_or sorted n 0)) 0) last
              ∙ get_or-set_same ranks place (count + 1) 0 (next_inside within)
              ∙ ap (λ n. n + 1) (sym last)
          | inr other ↦
              get_or-set_other ranks place (place_of (get_or sorted k 0)) (count + 1) 0
              (places_apart keys sorted so_far.ordered k count (omega (arith, other, below)) within)
              ∙ so_far.each k (omega (arith, other, below))
        ];
      }

  -- at the end each key has its rank
  pub all_ranked : length sorted ≤ count → ranks ≡ map (rank_among keys) keys
  all_ranked ended =
      let order = so_far.ordered in
      let long : length sorted ≡ length keys = length_permutation keys sorted order.same in
      ext_get_or 0 ranks (map (rank_among keys) keys)
      (so_far.long ∙ long ∙ sym (length-map keys (rank_among keys)))
      (λ place below.
      let inside : place < length keys = omega (arith, below, so_far.long, long) in
      let key : ℕ = get_or keys place 0 in
      let at : Contains sorted key = Contains-permutation keys sorted key order.same
      (place, inside, get_or_default keys place key 0 inside) in
      let k : ℕ = at.0 in
      let is : get_or sorted k 0 ≡ key = get_or_default sorted k 0 key at.1 ∙ at.2 in
      let told : place_of (get_or sorted k 0) ≡ place = ap place_of is ∙ order.told place 0 inside in
      ap (λ n. get_or ranks n 0) (sym told)
      ∙ so_far.each k (omega (arith, at.1))
      ∙ sym (rank_in_order keys sorted order k at.1)
      ∙ ap (rank_among keys) is
      ∙ sym (get_or-map (rank_among keys) keys place 0 0 inside))

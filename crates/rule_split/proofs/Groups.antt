-- The groups of the split are a partition of the rules.
use Rattle.std.proofs.Common.{◌≡◌, ◌≢◌, ℕ, zero, suc, ◌+◌, ◌==◌, ◌<◌, ◌≤◌, ◌&&◌, ◌++◌, List, [], ◌∷◌, length, take}
use Rattle.std.proofs.Common.{drop, get_or, All, Option, Some, None, refl, sym, ap, ◌∙◌, inl, inr, arith}
use Rattle.std.specs.Prelude.{nat_le}
use Rattle.std.specs.List.{Contains, range_with_len}
use Rattle.std.specs.List.Sorted.{IsStrictlyIncreasing}
use Rattle.std.proofs.lemmas.Bool.{cases_Bool, cond-true, cond-false, and_parts, leb-true, eqb-true, eqb-false}
use Rattle.std.proofs.lemmas.Option.{none-some}
use Rattle.std.proofs.lemmas.List.{take-append-drop, append-nil, append_assoc, length-append, length-take}
use Rattle.std.proofs.lemmas.List.{length-drop}
use Rattle.std.proofs.lemmas.List.Concat.{flat_map-cons}
use Rattle.std.proofs.lemmas.List.FromFn.{length-range_with_len}
use Rattle.std.proofs.lemmas.Grind.{flat_map-append}
use Rattle.std.proofs.lemmas.List.Elements.{All-append, All-cons, All-nil, All-take, All-drop, All-get_or, All-weaker}
use Rattle.std.proofs.lemmas.List.Elements.{All-contains, All-contains_itself}
use Rattle.std.proofs.lemmas.List.Quantifiers.{position-Some}
use Rattle.std.proofs.lemmas.List.Sorted.{IsPermutation-refl, IsPermutation-sym, IsPermutation-trans}
use Rattle.std.proofs.lemmas.List.Sorted.{IsPermutation-append_left, IsPermutation-append_right}
use Rattle.std.proofs.Math.Seq.{drop-cons}
use Rattle.rule_set.specs.Rule.{RuleSetView}
use Rattle.rule_set.specs.Groups.{IsPartition}
use Rattle.rule_set.proofs.Offered.{places_in, place_of_set}
use Rattle.list_lemmas.proofs.Counts.{increasing_range}
use Rattle.group_states.specs.Levels.{IsGroup}
use Rattle.rule_split.specs.Split.{can_split, capped, total, most_words, split_place, split_at, to_split}
use Rattle.rule_split.specs.Split.{turn, turns}
use Rattle.rule_split.specs.Split.{first_groups, groups_by, groups_of, words_of_group}
use Rattle.std.specs.Option.{option_map_or}
use Rattle.rule_split.specs.Laws.{GroupsHoldEachRuleOnce}
use Rattle.rule_split.proofs.Halves.{IsTwoOf, divided_is}
use Rattle.table_sizes.specs.Sizes.{max_tries}
use Rattle.list_lemmas.proofs.Loops.{below_count}

-- the places of groups of which one has become two
places_of_two : (before later : List (List ℕ)) (one other : List ℕ) →
    places_in (before ++ one ∷ other ∷ later) ≡ places_in before ++ ((one ++ other) ++ places_in later)
places_of_two before later one other =
    flat_map-append (λ (group : List ℕ). group) before (one ∷ other ∷ later)
    ∙ ap (λ places. places_in before ++ places)
    (flat_map-cons (λ (group : List ℕ). group) one (other ∷ later)
    ∙ ap (λ places. one ++ places) (flat_map-cons (λ (group : List ℕ). group) other later)
    ∙ sym (append_assoc one other (places_in later)))

-- the groups around a place, and their places
around : (groups : List (List ℕ)) (place : ℕ) → place < length groups →
    groups ≡ take place groups ++ get_or groups place [] ∷ drop (place + 1) groups
around groups place within =
    let next : suc place ≡ place + 1 = omega arith in
    sym (take-append-drop place groups)
    ∙ ap (λ rest. take place groups ++ rest)
    (drop-cons groups place [] within ∙ ap (λ k. get_or groups place [] ∷ drop k groups) next)

-- the places of all groups are those before a group, its own, and those after it
places_around : (groups : List (List ℕ)) (place : ℕ) → place < length groups →
    places_in groups
    ≡ places_in (take place groups) ++ (get_or groups place [] ++ places_in (drop (place + 1) groups))
places_around groups place within =
    let before : List (List ℕ) = take place groups in
    let later : List (List ℕ) = drop (place + 1) groups in
    let group : List ℕ = get_or groups place [] in
    ap places_in (around groups place within)
    ∙ flat_map-append (λ (group : List ℕ). group) before (group ∷ later)
    ∙ ap (λ places. places_in before ++ places) (flat_map-cons (λ (group : List ℕ). group) group later)

-- a group that becomes two leaves a partition
partition_of_two : (n : ℕ) (groups : List (List ℕ)) (place : ℕ) (one other : List ℕ) → place < length groups →
    IsTwoOf (get_or groups place []) one other → IsPartition n groups →
    IsPartition n (take place groups ++ one ∷ other ∷ drop (place + 1) groups)
partition_of_two n groups place one other within two parts =
    let before : List (List ℕ) = take place groups in
    let later : List (List ℕ) = drop (place + 1) groups in
    let group : List ℕ = get_or groups place [] in
    let HasOne : List ℕ → Type 0 = λ group. 0 < length group in
    let now : List (List ℕ) = before ++ one ∷ other ∷ later in
    record {
      some = All-append HasOne before (one ∷ other ∷ later) (All-take HasOne place groups parts.some)
          (All-cons HasOne one (other ∷ later) two.one_some
          (All-cons HasOne other later two.other_some (All-drop HasOne (place + 1) groups parts.some)));
      ascending = All-append IsStrictlyIncreasing before (one ∷ other ∷ later)
          (All-take IsStrictlyIncreasing place groups parts.ascending)
          (All-cons IsStrictlyIncreasing one (other ∷ later) two.one_rises
          (All-cons IsStrictlyIncreasing other later two.other_rises
          (All-drop IsStrictlyIncreasing (place + 1) groups parts.ascending)));
      once = IsPermutation-trans (places_in now) (places_in groups) (range_with_len 0 n)
          (rw (places_of_two before later one other, places_around groups place within)
          (IsPermutation-append_right (places_in before) ((one ++ other) ++ places_in later)
          (group ++ places_in later)
          (IsPermutation-append_left (places_in later) (one ++ other) group
          (IsPermutation-sym group (one ++ other) two.once))))
          parts.once;
    }

-- Groups after a turn: a partition still, with at most one group more.
record IsAfter (n : ℕ) (groups now : List (List ℕ)) : Type 0 where
  partition : IsPartition n now
  more : length now ≤ length groups + 1

-- a group of two rules or more is split
split_is : (set : RuleSetView) (n : ℕ) (groups : List (List ℕ)) (place : ℕ) → place < length groups →
    2 ≤ length (get_or groups place []) → IsPartition n groups → IsAfter n groups (split_at set groups place)
unfolding split_at
split_is set n groups place within two parts =
    let before : List (List ℕ) = take place groups in
    let later : List (List ℕ) = drop (place + 1) groups in
    let becomes = divided_is set (get_or groups place [])
    (All-get_or IsStrictlyIncreasing groups place [] within parts.ascending) two in
    let one : List ℕ = becomes.0 in
    let other : List ℕ = becomes.1 in
    rw (becomes.2, append_assoc before (one ∷ other ∷ []) later) record {
      partition = partition_of_two n groups place one other within becomes.3 parts;
      more = omega (
        arith,
        length-append before (one ∷ other ∷ later),
        length-take place groups,
        length-drop (place + 1) groups,
      );
    }

-- a group that is found to be split has two rules or more
pub found_is : (words : List ℕ → ℕ) (budget : ℕ) (groups : List (List ℕ)) (place : ℕ) →
    split_place words budget groups ≡ Some place → (place < length groups) × (2 ≤ length (get_or groups place []))
unfolding split_place
found_is words budget groups place found =
    let at = position-Some (λ group. can_split group && capped words budget group == most_words words budget groups)
    groups place [] found in
    let group : List ℕ = get_or groups place [] in
    (at.0, leb-true 2 (length group) (and_parts (can_split group) _ at.1).0)

-- a group that a turn makes two is one of them
pub to_split_within : (words : List ℕ → ℕ) (budget : ℕ) (groups : List (List ℕ)) (place : ℕ) →
    to_split words budget groups ≡ Some place → place < length groups
unfolding to_split
to_split_within words budget groups place found = elim (cases_Bool (nat_le (total words budget groups) budget)) [
  | inl fits ↦ absurd (none-some place (sym (cond-true _ None (split_place words budget groups) fits) ∙ found))
  | inr over ↦
      (found_is words budget groups place
      (sym (cond-false _ None (split_place words budget groups) over) ∙ found)).0
]

-- one turn, by whether a group is found
turn_is_by : (words : List ℕ → ℕ) (set : RuleSetView) (budget n : ℕ) (groups : List (List ℕ)) (found : Option ℕ) →
    split_place words budget groups ≡ found → IsPartition n groups →
    IsAfter n groups (option_map_or (split_at set groups) found groups)
turn_is_by words set budget n groups None found parts = record { partition = parts; more = omega arith }
turn_is_by words set budget n groups (Some place) found parts =
    let at = found_is words budget groups place found in split_is set n groups place at.0 at.1 parts

-- a turn leaves the groups a partition, with at most one more
turn_is : (words : List ℕ → ℕ) (set : RuleSetView) (budget n : ℕ) (groups : List (List ℕ)) →
    IsPartition n groups → IsAfter n groups (turn words set budget groups)
unfolding turn
turn_is words set budget n groups parts = elim (cases_Bool (nat_le (total words budget groups) budget)) [
  | inl fits ↦ rw fits record { partition = parts; more = omega arith }
  | inr over ↦ rw over (turn_is_by words set budget n groups (split_place words budget groups) refl parts)
]

-- so many turns
pub turns_are : (words : List ℕ → ℕ) (set : RuleSetView) (budget n count : ℕ) (groups : List (List ℕ)) →
    IsPartition n groups →
    IsPartition n (turns words set budget count groups)
    × (length (turns words set budget count groups) ≤ length groups + count)
unfolding turns
turns_are words set budget n zero groups parts = (parts, omega arith)
turns_are words set budget n (suc count) groups parts =
    let before = turns_are words set budget n count groups parts in
    let after = turn_is words set budget n (turns words set budget count groups) before.0 in
    (after.partition, omega (arith, after.more, before.1))

-- the groups before the first turn
pub first_is : (set : RuleSetView) →
    IsPartition (length set.rules) (first_groups set) × (length (first_groups set) ≤ 1)
first_is set = elim (cases_Bool (length set.rules == 0)) [
  | inl none ↦ rw none (rw (eqb-true _ _ none) (
    record {
      some = All-nil (λ group. 0 < length group);
      ascending = All-nil IsStrictlyIncreasing;
      once = IsPermutation-refl [];
    },
    omega arith,
  ))
  | inr some ↦
      let n : ℕ = length set.rules in
      let all : List ℕ = range_with_len 0 n in
      let long = length-range_with_len 0 n in
      let not_0 = eqb-false _ _ some in
      rw some (
        record {
          some = All-cons (λ group. 0 < length group) all [] (omega (arith, not_0))
              (All-nil (λ group. 0 < length group));
          ascending = All-cons IsStrictlyIncreasing all [] (increasing_range n) (All-nil IsStrictlyIncreasing);
          once = rw (flat_map-cons (λ (group : List ℕ). group) all [], append-nil all) (IsPermutation-refl all);
        },
        omega arith,
      )
]

-- all rules are a group, where there are some
pub all_are_group : (set : RuleSetView) → length set.rules ≢ 0 → IsGroup set (range_with_len 0 (length set.rules))
all_are_group set some =
    let n : ℕ = length set.rules in
    let all : List ℕ = range_with_len 0 n in
    record {
      some = omega (arith, some, length-range_with_len 0 n);
      ascending = increasing_range n;
      within = All-weaker (Contains all) (λ number. number < n) (below_count n) all (All-contains_itself all);
    }

-- each group of a partition is one of the set
pub groups_are : (set : RuleSetView) (groups : List (List ℕ)) → IsPartition (length set.rules) groups →
    All (IsGroup set) groups
groups_are set groups parts =
    let n : ℕ = length set.rules in
    All-weaker (Contains groups) (IsGroup set) (λ group at. record {
      some = All-contains (λ group. 0 < length group) groups group parts.some at;
      ascending = All-contains IsStrictlyIncreasing groups group parts.ascending at;
      within = All-weaker (Contains group) (λ number. number < n)
          (λ number has. below_count n number (place_of_set n groups group number parts at has)) group
          (All-contains_itself group);
    }) groups (All-contains_itself groups)

-- the groups of the split are a partition, and at most eight
pub split_once : (set : RuleSetView) (budget : ℕ) →
    IsPartition (length set.rules) (groups_of set budget) × (length (groups_of set budget) ≤ max_tries)
unfolding groups_of groups_by
split_once set budget =
    let first = first_is set in
    let after = turns_are (words_of_group set) set budget (length set.rules) 7 (first_groups set) first.0 in
    (after.0, omega (arith, after.1, first.1))

-- the groups together hold each rule once, are groups of the set, and are at most eight
pub groups_hold : GroupsHoldEachRuleOnce
groups_hold = record {
  once = λ set budget. (split_once set budget).0;
  groups = λ set budget. groups_are set (groups_of set budget) (split_once set budget).0;
  few = λ set budget. (split_once set budget).1;
}

-- The turns of the split, and what the groups after the last one come to.
use Rattle.std.proofs.Common.{◌≡◌, ℕ, suc, ◌+◌, ◌≤◌, List, [], ◌∷◌, length, map, All, refl, ap, ◌∙◌, arith}
use Rattle.std.specs.List.{sum_by, filter_map}
use Rattle.std.proofs.lemmas.List.{length-map}
use Rattle.std.proofs.lemmas.List.Sums.{sum_by-cons}
use Rattle.std.proofs.lemmas.List.Elements.{All-head, All-tail}
use Rattle.rule_set.specs.Rule.{RuleSetView}
use Rattle.rule_set.specs.Groups.{IsPartition}
use Rattle.table_sizes.specs.Sizes.{max_tries, row_len}
use Rattle.group_states.specs.Levels.{levels_of}
use Rattle.rule_split.specs.declared.counted.Counted.{Counted}
use Rattle.rule_split.specs.declared.counted.Counted.TheVariants.{Fits, TooLarge, Uncounted}
use Rattle.rule_split.specs.Counted.{group_in, levels_in, words_counted, IsCounted}
use Rattle.rule_split.specs.Split.{turn, turns, first_groups, groups_by, groups_of, total, total_of, words_of_group}
use Rattle.rule_split.proofs.Counts.{total_is}
use Rattle.rule_split.proofs.Groups.{turns_are, first_is, split_once}

module _ (set : RuleSetView) (budget : ℕ) where
  -- no turn, one turn more, and the last one
  pub no_turn : first_groups set ≡ turns (words_of_group set) set budget 0 (first_groups set)
  unfolding turns
  no_turn = refl

  -- the groups after one more turn are what the turn makes of them
  pub turn_more : (count : ℕ) (groups : List (List ℕ)) →
      groups ≡ turns (words_of_group set) set budget count (first_groups set) →
      turn (words_of_group set) set budget groups ≡ turns (words_of_group set) set budget (count + 1) (first_groups set)
  unfolding turns
  turn_more count groups is =
      let next : suc count ≡ count + 1 = omega arith in
      ap (turn (words_of_group set) set budget) is
      ∙ ap (λ n. turns (words_of_group set) set budget n (first_groups set)) next

  -- the groups after seven turns are those of the split
  pub last_turn : (count : ℕ) → count ≡ 7 →
      turns (words_of_group set) set budget count (first_groups set) ≡ groups_of set budget
  unfolding groups_of groups_by
  last_turn count is = ap (λ n. turns (words_of_group set) set budget n (first_groups set)) is

  -- after some turns the groups are a partition, and few
  pub turns_part : (count : ℕ) (groups : List Counted) →
      map group_in groups ≡ turns (words_of_group set) set budget count (first_groups set) →
      IsPartition (length set.rules) (map group_in groups)
  turns_part count groups is =
      rw is (turns_are (words_of_group set) set budget (length set.rules) count (first_groups set) (first_is set).0).0

  -- after some turns there is at most one group more than turns
  pub turns_few : (count : ℕ) (groups : List Counted) →
      map group_in groups ≡ turns (words_of_group set) set budget count (first_groups set) → length groups ≤ 1 + count
  turns_few count groups is =
      let first = first_is set in
      omega (
        arith,
        length-map groups group_in,
        ap length is,
        (turns_are (words_of_group set) set budget (length set.rules) count (first_groups set) first.0).1,
        first.1,
      )

  -- after the last turn there are at most as many groups as there may be tries
  pub last_few : (groups : List Counted) → map group_in groups ≡ groups_of set budget → length groups ≤ max_tries
  last_few groups is = omega (arith, length-map groups group_in, ap length is, (split_once set budget).1)

  -- their total
  pub total_of_last : (groups : List Counted) → map group_in groups ≡ groups_of set budget →
      All (IsCounted set budget) groups → row_len + sum_by (words_counted budget) groups ≡ total_of set budget
  unfolding total_of
  total_of_last groups is right = total_is set budget groups right ∙ ap (total (words_of_group set) budget) is

  -- where their words together are within the budget, the merged states of each are kept
  pub all_kept : (groups : List Counted) → All (IsCounted set budget) groups →
      sum_by (words_counted budget) groups ≤ budget →
      filter_map levels_in groups ≡ map (levels_of set) (map group_in groups)
  all_kept [] right within = refl
  all_kept (Fits levels ∷ groups) right within =
      let here = All-head (IsCounted set budget) (Fits levels) groups right in
      let sum = sum_by-cons (words_counted budget) (Fits levels) groups in
      let others = All-tail (IsCounted set budget) (Fits levels) groups right in
      let rest = all_kept groups others (omega (arith, sum, within)) in
      λ i. here.0 i ∷ rest i
  all_kept (TooLarge group ∷ groups) right within =
      absurd (omega (arith, sum_by-cons (words_counted budget) (TooLarge group) groups, within))
  all_kept (Uncounted group ∷ groups) right within =
      absurd (All-head (IsCounted set budget) (Uncounted group) groups right)

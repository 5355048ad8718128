-- How the rules of a set are split into groups, a trie for each, so that the words of all tries
-- keep within a budget (after DPDK's `lib/acl`, `acl_bld.c`, which makes further tries where one
-- would have too many nodes; the rule is ours). All groups are counted anew at each turn.
use Rattle.std.specs.Prelude.{ℕ, ◌+◌, ◌-◌, ◌==◌, List, [], ◌∷◌, ◌++◌, length, map, filter, take}
use Rattle.std.specs.Prelude.{drop, min, slice_index_or, nat_le, Bool, ◌&&◌, Option, None, if◌then◌else◌}
use Rattle.std.specs.List.{position, range_with_len, sum_by}
use Rattle.std.specs.Option.{option_map_or}
use Rattle.std.proofs.Common.{zero, suc}
use Rattle.rule_set.specs.Rule.{RuleSetView}
use Rattle.rule_set.specs.Groups.{greatest}
use Rattle.table_sizes.specs.Sizes.{max_tries, row_len}
use Rattle.group_states.specs.Levels.{LevelsView, levels_of}
use Rattle.rule_split.specs.Divide.{divided}

-- a group can be split where it has two rules or more
abbrev pub can_split : List ℕ → Bool
can_split group = nat_le 2 (length group)

-- the words of a group; more than the budget count as one word more than it
abbrev pub capped : (List ℕ → ℕ) → ℕ → List ℕ → ℕ
capped words budget group = min (words group) (budget + 1)

-- the words of a table: the row for keys that no rule matches, and the words of each group
abbrev pub total : (List ℕ → ℕ) → ℕ → List (List ℕ) → ℕ
total words budget groups = row_len + sum_by (capped words budget) groups

-- the most words of a group that can be split
abbrev pub most_words : (List ℕ → ℕ) → ℕ → List (List ℕ) → ℕ
most_words words budget groups = greatest (map (capped words budget) (filter can_split groups))

-- the place of the group that is split: of those that can be the one of most words, the first of
-- equal ones
unfoldable pub split_place : (List ℕ → ℕ) → ℕ → List (List ℕ) → Option ℕ
split_place words budget groups =
    position (λ group. can_split group
    && capped words budget group == most_words words budget groups) groups

-- the place of the group that one turn makes two: none where the total is within the budget
unfoldable pub to_split : (List ℕ → ℕ) → ℕ → List (List ℕ) → Option ℕ
to_split words budget groups =
    if nat_le (total words budget groups) budget then None else split_place words budget groups

-- the groups where the one at the place has become two
unfoldable pub split_at : RuleSetView → List (List ℕ) → ℕ → List (List ℕ)
split_at set groups place =
    take place groups ++ divided set (slice_index_or groups place []) ++ drop (place + 1) groups

-- One turn: where the total is above the budget and some group can be split, one group becomes two.
unfoldable pub turn : (List ℕ → ℕ) → RuleSetView → ℕ → List (List ℕ) → List (List ℕ)
turn words set budget groups =
    if nat_le (total words budget groups) budget
    then groups
    else option_map_or (split_at set groups) (split_place words budget groups) groups

-- so many turns
unfoldable pub turns : (List ℕ → ℕ) → RuleSetView → ℕ → ℕ → List (List ℕ) → List (List ℕ)
turns words set budget zero groups = groups
turns words set budget (suc count) groups = turn words set budget
    (turns words set budget count groups)

-- the groups before the first turn: one of all rules, or none where there is no rule
abbrev pub first_groups : RuleSetView → List (List ℕ)
first_groups set =
    let count = length set.rules in
    if count == 0 then [] else range_with_len 0 count ∷ []

-- The groups after the last turn. Each turn adds one group, so there are at most eight.
unfoldable pub groups_by : (List ℕ → ℕ) → RuleSetView → ℕ → List (List ℕ)
groups_by words set budget = turns words set budget (max_tries - 1) (first_groups set)

-- the words of a group's merged states
abbrev pub words_of_group : RuleSetView → List ℕ → ℕ
words_of_group set group = (levels_of set group).words

-- the groups of a set under a budget
unfoldable pub groups_of : RuleSetView → ℕ → List (List ℕ)
groups_of set budget = groups_by (words_of_group set) set budget

-- their total
unfoldable pub total_of : RuleSetView → ℕ → ℕ
total_of set budget = total (words_of_group set) budget (groups_of set budget)

-- A plan as contracts see it: the merged states of each group, and the words of a table of them.
pub record PlanView : Type 0 where
  pub levels : List LevelsView
  pub total : ℕ

-- the plan of a set under a budget
unfoldable pub plan_of : RuleSetView → ℕ → PlanView
plan_of set budget = record {
  levels = map (levels_of set) (groups_of set budget);
  total = total_of set budget;
}

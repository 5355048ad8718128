-- A group that was counted or not, as the code keeps it.
use Rattle.std.specs.Prelude.{◌≡◌, ℕ, ◌+◌, ◌-◌, ◌==◌, ◌<◌, ◌≤◌, List, map, min, max, Bool, true, false, ◌&&◌}
use Rattle.std.specs.Prelude.{Option, Some, None, ⊤, if◌then◌else◌}
use Rattle.std.specs.List.{list_all, sum_by}
use Rattle.rule_set.specs.Rule.{RuleSetView}
use Rattle.rule_set.specs.Groups.{greatest}
use Rattle.table_sizes.specs.Sizes.{row_len}
use Rattle.group_states.specs.Levels.{LevelsView, levels_of}
use Rattle.rule_split.specs.declared.counted.Counted.{Counted}
use Rattle.rule_split.specs.declared.counted.Counted.TheVariants.{Fits, TooLarge, Uncounted}
use Rattle.rule_split.specs.Split.{can_split}

-- its rules
abbrev pub group_in : Counted → List ℕ
group_in (Fits levels) = levels.group
group_in (TooLarge group) = group.items
group_in (Uncounted group) = group.items

-- its words, and 0 where they aren't known; more than the budget count as one word more than it
abbrev pub words_counted : ℕ → Counted → ℕ
words_counted budget (Fits levels) = levels.words
words_counted budget (TooLarge group) = budget + 1
words_counted budget (Uncounted group) = 0

-- its words were counted
abbrev pub is_counted : Counted → Bool
is_counted (Fits levels) = true
is_counted (TooLarge group) = true
is_counted (Uncounted group) = false

-- it can be split, and its words aren't known to be within the budget
abbrev pub is_over : Counted → Bool
is_over (Fits levels) = false
is_over (TooLarge group) = can_split group.items
is_over (Uncounted group) = can_split group.items

-- The group is counted, and rightly: its merged states are there where their words are within the
-- budget, and else it has more words.
abbrev pub IsCounted : RuleSetView → ℕ → Counted → Type 0
IsCounted set budget (Fits levels) = (levels ≡ levels_of set levels.group) × (levels.words ≤ budget)
IsCounted set budget (TooLarge group) = budget < (levels_of set group.items).words
IsCounted set budget (Uncounted group) = ⊥

-- The group is counted rightly, or not counted.
abbrev pub IsRight : RuleSetView → ℕ → Counted → Type 0
IsRight set budget (Fits levels) = IsCounted set budget (Fits levels)
IsRight set budget (TooLarge group) = IsCounted set budget (TooLarge group)
IsRight set budget (Uncounted group) = ⊤

-- The group was counted up to a cap: rightly, or its words are above the cap, which is below the
-- budget.
abbrev pub IsCountedTo : RuleSetView → ℕ → ℕ → Counted → Type 0
IsCountedTo set budget cap (Fits levels) = IsCounted set budget (Fits levels)
IsCountedTo set budget cap (TooLarge group) = IsCounted set budget (TooLarge group)
IsCountedTo set budget cap (Uncounted group) =
    (cap < budget) × (cap < (levels_of set group.items).words)

-- The group is counted rightly, and its words are within the budget or it can't be split.
abbrev pub IsPassed : RuleSetView → ℕ → Counted → Type 0
IsPassed set budget group = IsCounted set budget group × (is_over group ≡ false)

-- its merged states, where they are kept
abbrev pub levels_in : Counted → Option LevelsView
levels_in (Fits levels) = Some levels
levels_in (TooLarge group) = None
levels_in (Uncounted group) = None

-- Its words are at most one more than the budget.
abbrev pub IsWithin : ℕ → Counted → Type 0
IsWithin budget group = words_counted budget group ≤ budget + 1

-- its words where it can be split, and else 0
abbrev pub words_to_split : ℕ → Counted → ℕ
words_to_split budget group = if can_split (group_in group) then words_counted budget group else 0

-- the most words of a group that can be split, and 0 where none can
abbrev pub most_counted : ℕ → List Counted → ℕ
most_counted budget groups = greatest (map (words_to_split budget) groups)

-- the group can be split and has so many words
abbrev pub is_most : ℕ → ℕ → Counted → Bool
is_most budget most group = can_split (group_in group) && words_counted budget group == most

-- Up to how many words a group has to be counted beside the others. Where it can be split and all
-- the others are counted, more words than these are more than the budget in all, and more than any
-- other group has that can be split.
abbrev pub cap_beside : ℕ → Bool → List Counted → ℕ
cap_beside budget can others =
    if can && list_all is_counted others
    then min budget (max (budget - (row_len + sum_by (words_counted budget) others))
    (most_counted budget others))
    else budget

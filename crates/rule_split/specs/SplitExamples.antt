-- Examples of the split, each checked by evaluation. Where the words of groups are given as a
-- table, they are those of the merged states, which are too many to be evaluated here.
use Rattle.std.specs.Prelude.{◌≡◌, ℕ, ◌*◌, List, [], ◌∷◌, length, Some, None, refl}
use Rattle.std.specs.Prelude.{if◌then◌else◌}
use Rattle.std.specs.Str.{bytes_eq}
use Rattle.field_defs.specs.declared.field.FieldValue.{FieldValue}
use Rattle.field_defs.specs.declared.field.FieldValue.TheVariants.{Mask}
use Rattle.rule_set.specs.Rule.{RuleSetView}
use Rattle.rule_split.specs.Divide.{wild_rules, bound_rules, smaller_sides, divided}
use Rattle.rule_split.specs.Split.{total, split_place, to_split, split_at, turn, turns, groups_by}
use Rattle.rule_split.specs.ExampleRules.{all_wild, addressed, of_packets}

-- a hundred words a rule, and a thousand a group
abbrev hundreds : List ℕ → ℕ
hundreds group = 100 * length group

abbrev thousand : List ℕ → ℕ
thousand group = 1000

-- no rule: no group, and the total is one row
no_rules : groups_by hundreds (all_wild 0) 15 ≡ []
unfolding groups_by turns turn split_place
no_rules = refl

total_of_none : total hundreds 15 [] ≡ 16
total_of_none = refl

-- all rules within the budget stay one group, also at the budget
at_the_budget : groups_by hundreds (all_wild 4) 416 ≡ (0 ∷ 1 ∷ 2 ∷ 3 ∷ []) ∷ []
unfolding groups_by turns turn
at_the_budget = refl

over_the_budget : groups_by thousand (all_wild 3) 1015 ≡ (0 ∷ []) ∷ (1 ∷ []) ∷ (2 ∷ []) ∷ []
unfolding groups_by turns turn split_place split_at divided smaller_sides wild_rules bound_rules
over_the_budget = refl

-- of two groups of equal words the first is split, and a group of one rule isn't
first_on_a_tie : split_place hundreds 500 ((5 ∷ []) ∷ (0 ∷ 1 ∷ []) ∷ (2 ∷ 3 ∷ []) ∷ []) ≡ Some 1
unfolding split_place
first_on_a_tie = refl

most_words_later : split_place hundreds 500 ((0 ∷ 1 ∷ []) ∷ (2 ∷ 3 ∷ 4 ∷ []) ∷ []) ≡ Some 1
unfolding split_place
most_words_later = refl

-- words above the budget count as equal
tie_over_the_budget : split_place hundreds 150 ((0 ∷ 1 ∷ []) ∷ (2 ∷ 3 ∷ 4 ∷ []) ∷ []) ≡ Some 0
unfolding split_place
tie_over_the_budget = refl

-- a turn makes none two where the total is within the budget
none_within : to_split hundreds 516 ((0 ∷ 1 ∷ []) ∷ (2 ∷ 3 ∷ 4 ∷ []) ∷ []) ≡ None
unfolding to_split split_place
none_within = refl

most_above : to_split hundreds 515 ((0 ∷ 1 ∷ []) ∷ (2 ∷ 3 ∷ 4 ∷ []) ∷ []) ≡ Some 1
unfolding to_split split_place
most_above = refl

no_group_to_split : split_place hundreds 50 ((0 ∷ []) ∷ (1 ∷ []) ∷ []) ≡ None
unfolding split_place
no_group_to_split = refl

-- a group of one rule over the budget ends the split
one_rule_over_the_budget : groups_by thousand (all_wild 1) 50 ≡ (0 ∷ []) ∷ []
unfolding groups_by turns turn split_place
one_rule_over_the_budget = refl

its_total : total thousand 50 ((0 ∷ []) ∷ []) ≡ 67
its_total = refl

-- seven turns make eight groups, and there are no more
eight_groups : groups_by thousand (all_wild 10) 50
    ≡ (0 ∷ []) ∷ (1 ∷ []) ∷ (2 ∷ []) ∷ (3 ∷ []) ∷ (4 ∷ []) ∷ (5 ∷ 6 ∷ []) ∷ (7 ∷ []) ∷ (8 ∷ 9 ∷ [])
    ∷ []
unfolding groups_by turns turn split_place split_at divided smaller_sides wild_rules bound_rules
eight_groups = refl

-- a rule for the destinations of 10.0.0.0/8, and one that is wild
abbrev any : FieldValue
any = Mask 0 0

abbrev net_and_any : RuleSetView
net_and_any = of_packets (addressed any (Mask 0x0A000000 8) ∷ addressed any any ∷ [])

abbrev net_and_any_words : List ℕ → ℕ
net_and_any_words group =
    if bytes_eq group (0 ∷ 1 ∷ []) then 43 else (if bytes_eq group (0 ∷ []) then 24 else 17)

net_and_any_within : groups_by net_and_any_words net_and_any 59 ≡ (0 ∷ 1 ∷ []) ∷ []
unfolding groups_by turns turn
net_and_any_within = refl

net_and_any_over : groups_by net_and_any_words net_and_any 58 ≡ (0 ∷ []) ∷ (1 ∷ []) ∷ []
unfolding groups_by turns turn split_place split_at divided smaller_sides wild_rules bound_rules
net_and_any_over = refl

net_and_any_total : total net_and_any_words 56 (groups_by net_and_any_words net_and_any 56) ≡ 57
unfolding groups_by turns turn split_place split_at divided smaller_sides wild_rules bound_rules
net_and_any_total = refl

-- two rules that bound the source and one that bounds the destination: source and destination
-- divide them alike, so the source does
abbrev sources_and_host : RuleSetView
sources_and_host = of_packets (
    addressed (Mask 0x0A000000 8) any
    ∷ addressed (Mask 0x14000000 8) any
    ∷ addressed any (Mask 0x1E010101 32)
    ∷ []
    )

abbrev sources_and_host_words : List ℕ → ℕ
sources_and_host_words group =
    if bytes_eq group (0 ∷ 1 ∷ 2 ∷ [])
    then 120
    else (if bytes_eq group (0 ∷ 1 ∷ []) then 43 else (if bytes_eq group (2 ∷ []) then 36 else 24))

sources_and_host_over : groups_by sources_and_host_words sources_and_host 135
    ≡ (0 ∷ 1 ∷ []) ∷ (2 ∷ []) ∷ []
unfolding groups_by turns turn split_place split_at divided smaller_sides wild_rules bound_rules
sources_and_host_over = refl

sources_and_host_more : groups_by sources_and_host_words sources_and_host 94
    ≡ (0 ∷ []) ∷ (1 ∷ []) ∷ (2 ∷ []) ∷ []
unfolding groups_by turns turn split_place split_at divided smaller_sides wild_rules bound_rules
sources_and_host_more = refl

sources_and_host_total : total sources_and_host_words 94
    (groups_by sources_and_host_words sources_and_host 94) ≡ 100
unfolding groups_by turns turn split_place split_at divided smaller_sides wild_rules bound_rules
sources_and_host_total = refl

-- Examples of how one group becomes two, each checked by evaluation, over three fields of one byte.
use Rattle.std.specs.Prelude.{◌≡◌, [], ◌∷◌, refl}
use Rattle.rule_set.specs.Rule.{RuleSetView}
use Rattle.rule_split.specs.Divide.{wild_rules, bound_rules, smaller_sides, divider, divided}
use Rattle.rule_split.specs.ExampleRules.{wild, bound, of_values, all_wild}

-- the second and the third field have two rules of each kind, the first has one wild rule
abbrev tie : RuleSetView
tie = of_values (
    (bound ∷ wild ∷ bound ∷ [])
    ∷ (bound ∷ bound ∷ wild ∷ [])
    ∷ (wild ∷ wild ∷ wild ∷ [])
    ∷ (bound ∷ bound ∷ bound ∷ [])
    ∷ []
    )

sides_of_tie : smaller_sides tie (0 ∷ 1 ∷ 2 ∷ 3 ∷ []) ≡ 1 ∷ 2 ∷ 2 ∷ []
unfolding smaller_sides wild_rules bound_rules
sides_of_tie = refl

-- the first of the two fields divides, and the rules that aren't wild in it come first
divider_on_a_tie : divider tie (0 ∷ 1 ∷ 2 ∷ 3 ∷ []) ≡ 1
unfolding smaller_sides wild_rules bound_rules
divider_on_a_tie = refl

divided_on_a_tie : divided tie (0 ∷ 1 ∷ 2 ∷ 3 ∷ []) ≡ (1 ∷ 3 ∷ []) ∷ (0 ∷ 2 ∷ []) ∷ []
unfolding divided smaller_sides wild_rules bound_rules
divided_on_a_tie = refl

-- a field with more rules of each kind divides before a lower one
later_divider : divided tie (0 ∷ 1 ∷ 3 ∷ []) ≡ (1 ∷ 3 ∷ []) ∷ (0 ∷ []) ∷ []
unfolding divided smaller_sides wild_rules bound_rules
later_divider = refl

-- no field divides rules that are wild in each: halves, of an odd number the first has one more
even_halves : divided (all_wild 4) (0 ∷ 1 ∷ 2 ∷ 3 ∷ []) ≡ (0 ∷ 1 ∷ []) ∷ (2 ∷ 3 ∷ []) ∷ []
unfolding divided smaller_sides wild_rules bound_rules
even_halves = refl

odd_halves : divided (all_wild 9) (1 ∷ 3 ∷ 4 ∷ 6 ∷ 8 ∷ []) ≡ (1 ∷ 3 ∷ 4 ∷ []) ∷ (6 ∷ 8 ∷ []) ∷ []
unfolding divided smaller_sides wild_rules bound_rules
odd_halves = refl

-- nor rules that all bound the same fields
bound_halves : divided tie (1 ∷ 3 ∷ []) ≡ (3 ∷ []) ∷ (1 ∷ []) ∷ []
unfolding divided smaller_sides wild_rules bound_rules
bound_halves = refl

same_halves : divided (of_values ((bound ∷ wild ∷ wild ∷ []) ∷ (bound ∷ wild ∷ wild ∷ []) ∷ []))
    (0 ∷ 1 ∷ [])
    ≡ (0 ∷ []) ∷ (1 ∷ []) ∷ []
unfolding divided smaller_sides wild_rules bound_rules
same_halves = refl

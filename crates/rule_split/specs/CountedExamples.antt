-- Examples of up to how many words a group is counted beside others, each checked by evaluation.
use Rattle.std.specs.Prelude.{◌≡◌, ℕ, List, [], ◌∷◌, true, false, refl}
use Rattle.group_states.specs.Levels.{LevelsView}
use Rattle.rule_split.specs.declared.counted.Counted.{Counted}
use Rattle.rule_split.specs.declared.counted.Counted.TheVariants.{Fits}
use Rattle.rule_split.specs.Counted.{cap_beside}

-- a group that was counted
abbrev counted : List ℕ → ℕ → Counted
counted group words = Fits (record {
  kept = 1;
  group = group;
  levels = [];
  rows = [];
  words = words;
})

-- what another group of 100 words and a row leave of 500 words
left_of_budget : cap_beside 500 true (counted (0 ∷ 1 ∷ []) 100 ∷ []) ≡ 384
left_of_budget = refl

-- of 300 words it leaves 184, but the group is the one to split only if it has more than 300
greatest_of_others : cap_beside 500 true (counted (0 ∷ 1 ∷ []) 300 ∷ []) ≡ 300
greatest_of_others = refl

-- one rule can't be split, so its group needn't have fewer
beside_one_rule : cap_beside 500 true (counted (0 ∷ []) 300 ∷ []) ≡ 184
beside_one_rule = refl

-- all by itself a group has the budget without a row
alone : cap_beside 500 true [] ≡ 484
alone = refl

-- one that can't be split is counted up to the budget
not_to_split : cap_beside 500 false (counted (0 ∷ 1 ∷ []) 100 ∷ []) ≡ 500
not_to_split = refl

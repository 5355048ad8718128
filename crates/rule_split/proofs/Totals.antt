-- A total within the budget is the sum of all words.
use Rattle.std.proofs.Common.{◌≡◌, ℕ, ◌≤◌, List, [], ◌∷◌, map, refl, arith}
use Rattle.std.specs.List.{sum_by}
use Rattle.std.proofs.lemmas.List.Sums.{sum_by-cons}
use Rattle.rule_set.specs.Rule.{RuleSetView}
use Rattle.group_states.specs.Levels.{LevelsView, levels_of}
use Rattle.rule_split.specs.Split.{capped, words_of_group, groups_of, total_of, plan_of}
use Rattle.rule_split.specs.Laws.{TheTotalIsOfAllWords}

-- words whose sum is within the budget are counted as they are
uncapped : (words : List ℕ → ℕ) (budget : ℕ) (groups : List (List ℕ)) → sum_by (capped words budget) groups ≤ budget →
    sum_by (capped words budget) groups ≡ sum_by words groups
uncapped words budget [] within = refl
uncapped words budget (group ∷ groups) within =
    let here = sum_by-cons (capped words budget) group groups in
    omega (
      arith,
      here,
      within,
      sum_by-cons words group groups,
      uncapped words budget groups (omega (arith, here, within)),
    )

-- the words of the merged states of all groups
words_of_all : (set : RuleSetView) (groups : List (List ℕ)) →
    sum_by (λ (levels : LevelsView). levels.words) (map (levels_of set) groups) ≡ sum_by (words_of_group set) groups
words_of_all set [] = refl
words_of_all set (group ∷ groups) =
    omega (
      arith,
      sum_by-cons (λ (levels : LevelsView). levels.words) (levels_of set group) (map (levels_of set) groups),
      sum_by-cons (words_of_group set) group groups,
      words_of_all set groups,
    )

-- a total within the budget is the sum of the words of all groups and of one row
pub total_of_words : TheTotalIsOfAllWords
unfolding total_of plan_of
total_of_words set budget within =
    let groups : List (List ℕ) = groups_of set budget in
    omega (
      arith,
      uncapped (words_of_group set) budget groups (omega (arith, within)),
      words_of_all set groups,
    )

-- merged states name their group
pub group_of_levels : (set : RuleSetView) (group : List ℕ) → (levels_of set group).group ≡ group
unfolding levels_of
group_of_levels set group = refl

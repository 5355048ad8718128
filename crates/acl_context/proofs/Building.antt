-- The plan of a rule set can be filled.
use Rattle.std.proofs.Common.{◌≡◌, ℕ, ◌+◌, ◌≤◌, List, [], ◌∷◌, map, length, All, sum_by, refl, sym, ap, ◌∙◌, arith}
use Rattle.std.proofs.lemmas.List.{length-map}
use Rattle.std.proofs.lemmas.List.Elements.{All-map}
use Rattle.rule_set.specs.Rule.{RuleSetView}
use Rattle.rule_set.specs.Groups.{IsPartition}
use Rattle.table_sizes.specs.Sizes.{max_tries, max_words, row_len}
use Rattle.group_states.specs.Levels.{LevelsView, levels_of}
use Rattle.rule_split.specs.Split.{groups_of, total_of, plan_of, PlanView}
use Rattle.rule_split.proofs.Offered.{group_of_levels, groups_hold, total_of_words}
use Rattle.flat_table.specs.Table.{TableView, words_of}
use Rattle.table_fill.specs.Filled.{filled}
use Rattle.table_fill.specs.Serves.{Serves}
use Rattle.rule_order.specs.Cut.{HoldAll, groups_in, words_in}
use Rattle.acl_context.specs.Context.{built_of, HoldsAll}

-- the merged states of each group of the split
abbrev pub levels_in : RuleSetView → ℕ → List LevelsView
levels_in set budget = map (levels_of set) (groups_of set budget)

-- so the groups of all are there again
groups_kept : (set : RuleSetView) (groups : List (List ℕ)) →
    map (λ (trie : LevelsView). trie.group) (map (levels_of set) groups) ≡ groups
groups_kept set [] = refl
groups_kept set (group ∷ groups) = rw (group_of_levels set group, groups_kept set groups) refl

-- each is of its group
each_of_its_group : (set : RuleSetView) (groups : List (List ℕ)) →
    All (λ (trie : LevelsView). trie ≡ levels_of set trie.group) (map (levels_of set) groups)
each_of_its_group set groups =
    All-map (λ (trie : LevelsView). trie ≡ levels_of set trie.group) (levels_of set) groups
    (λ k d h. ap (levels_of set) (sym (group_of_levels set _)))

-- a plan has the merged states of its groups and their total
levels_of_plan : (set : RuleSetView) (budget : ℕ) → (plan_of set budget).levels ≡ levels_in set budget
unfolding plan_of
levels_of_plan set budget = refl

-- the total of a plan is that of its set and budget
total_of_plan : (set : RuleSetView) (budget : ℕ) → (plan_of set budget).total ≡ total_of set budget
unfolding plan_of
total_of_plan set budget = refl

-- what is lent of a plan are the merged states of its groups
pub levels_are : (set : RuleSetView) (budget : ℕ) (plan : PlanView) (levels : List LevelsView) →
    plan ≡ plan_of set budget → levels ≡ plan.levels → levels ≡ levels_in set budget
levels_are set budget plan levels is lent =
    lent ∙ ap (λ (of : PlanView). of.levels) is ∙ levels_of_plan set budget

-- and a plan within the budget has a total within it
pub total_fits : (set : RuleSetView) (budget : ℕ) (plan : PlanView) → plan ≡ plan_of set budget →
    plan.total ≤ budget → total_of set budget ≤ budget
total_fits set budget plan is fits =
    omega (arith, ap (λ (of : PlanView). of.total) is, total_of_plan set budget, fits)

-- filled they are the table that a build makes
pub filled_is : (set : RuleSetView) (budget : ℕ) (levels : List LevelsView) → levels ≡ levels_in set budget →
    filled set (map (λ (trie : LevelsView). trie.group) levels) ≡ built_of set budget
filled_is set budget levels are =
    ap (λ (tries : List LevelsView). filled set (map (λ (trie : LevelsView). trie.group) tries)) are
    ∙ ap (filled set) (groups_kept set (groups_of set budget))

-- What filling asks of the merged states of a plan.
pub record IsFillable (set : RuleSetView) (levels : List LevelsView) : Type 0 where
  pub few : length levels ≤ max_tries
  pub groups : IsPartition (length set.rules) (map (λ (trie : LevelsView). trie.group) levels)
  pub each : All (λ (trie : LevelsView). trie ≡ levels_of set trie.group) levels
  pub size : row_len + sum_by (λ (trie : LevelsView). trie.words) levels ≤ max_words

-- A plan within a budget can be filled.
pub plans_are_fillable : (set : RuleSetView) (budget : ℕ) →
    budget ≤ max_words → total_of set budget ≤ budget → IsFillable set (levels_in set budget)
plans_are_fillable set budget capped fits = record {
  few = omega (arith, length-map (groups_of set budget) (levels_of set), groups_hold.few set budget);
  groups = rw (groups_kept set (groups_of set budget)) (groups_hold.once set budget);
  each = each_of_its_group set (groups_of set budget);
  size = omega (arith, rw (levels_of_plan set budget) at (total_of_words set budget fits), fits, capped);
}

-- the table of a plan within the budget has as many words as the total of its split
pub words_are : (set : RuleSetView) (budget : ℕ) (table : TableView) (levels : List LevelsView) →
    table ≡ built_of set budget → levels ≡ levels_in set budget → total_of set budget ≤ budget →
    words_of table ≡ row_len + sum_by (λ (trie : LevelsView). trie.words) levels →
    words_of (built_of set budget) ≡ total_of set budget
words_are set budget table levels is are fits words =
    ap words_of (sym is) ∙ words
    ∙ ap (λ (tries : List LevelsView). row_len + sum_by (λ (trie : LevelsView). trie.words) tries) are
    ∙ sym (rw (levels_of_plan set budget) at (total_of_words set budget fits))

-- the table of parts that hold all rules
pub parts_hold : (set : RuleSetView) (levels : List LevelsView) (table : TableView) → HoldAll set levels →
    table ≡ filled set (groups_in levels) → Serves set table → words_of table ≡ words_in levels → HoldsAll set table
parts_hold set levels table holds is serves words = record {
  groups = groups_in levels;
  few = omega (arith, holds.few, length-map levels (λ (part : LevelsView). part.group));
  once = holds.groups;
  is = is;
  size = omega (arith, words, holds.size);
  serves = serves;
}

-- and that of a split
pub split_holds : (set : RuleSetView) (budget : ℕ) (table : TableView) → table ≡ built_of set budget →
    Serves set (built_of set budget) → budget ≤ max_words → total_of set budget ≤ budget →
    words_of (built_of set budget) ≡ total_of set budget → HoldsAll set table
split_holds set budget table is serves within fits words = record {
  groups = groups_of set budget;
  few = groups_hold.few set budget;
  once = groups_hold.once set budget;
  is = is;
  size = omega (arith, ap words_of is, words, fits, within);
  serves = rw is serves;
}

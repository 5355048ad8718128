-- An order of the rules of a set, cut into parts.
use Rattle.std.specs.Prelude.{◌≡◌, ◌==◌, ℕ, ◌+◌, ◌<◌, ◌≤◌, List, ◌++◌, All, length, map, take, drop}
use Rattle.std.specs.List.{IsDistinct, flat_map, range_with_len, sum_by}
use Rattle.std.specs.List.Sorted.{IsNonDecreasing, IsPermutation, IsStrictlyIncreasing}
use Rattle.rule_set.specs.Rule.{RuleSetView}
use Rattle.rule_set.specs.Groups.{IsPartition}
use Rattle.table_sizes.specs.Sizes.{max_tries, max_words, row_len}
use Rattle.group_states.specs.Levels.{LevelsView, levels_of}

-- the groups of merged states
abbrev pub groups_in : List LevelsView → List (List ℕ)
groups_in levels = map (λ (part : LevelsView). part.group) levels

-- the words of a table of merged states: a row for keys that no rule matches, and those of each
abbrev pub words_in : List LevelsView → ℕ
words_in levels = row_len + sum_by (λ (part : LevelsView). part.words) levels

-- Merged states of groups that hold each rule of a set once, of which a table can be made.
pub record HoldAll (set : RuleSetView) (levels : List LevelsView) : Type 0 where
  pub few : length levels ≤ max_tries
  pub groups : IsPartition (length set.rules) (groups_in levels)
  pub each : All (λ (part : LevelsView). part ≡ levels_of set part.group) levels
  pub size : words_in levels ≤ max_words

-- The places of all rules of a set, in some order.
abbrev pub IsOrder : RuleSetView → List ℕ → Type 0
IsOrder set order = IsPermutation (range_with_len 0 (length set.rules)) order

-- Places of rules of a set that no part has yet: no place stands twice.
pub record AreLeft (set : RuleSetView) (left : List ℕ) : Type 0 where
  pub within : All (λ number. number < length set.rules) left
  pub apart : IsDistinct (λ (one other : ℕ). one == other) left

-- The first of the places that are left, ascending: one or more.
pub record AreFirst (left places : List ℕ) : Type 0 where
  pub some : 0 < length places
  pub few : length places ≤ length left
  pub first : IsPermutation (take (length places) left) places
  pub rise : IsNonDecreasing places

-- The merged states of the first of the rules that are left, within a cap on their words.
pub record IsFirst (set : RuleSetView) (left : List ℕ) (cap : ℕ) (part : LevelsView) : Type 0 where
  pub its : part ≡ levels_of set part.group
  pub some : 0 < length part.group
  pub few : length part.group ≤ length left
  pub rises : IsStrictlyIncreasing part.group
  pub first : IsPermutation (take (length part.group) left) part.group
  pub within : part.words ≤ cap

-- Parts of an order: each is the merged states of its group, no group is empty, and together with
-- the rules that are left they are those of the order.
pub record AreParts (set : RuleSetView) (order : List ℕ) (levels : List LevelsView)
    (taken total : ℕ) : Type 0 where
  pub each : All (λ (part : LevelsView). part ≡ levels_of set part.group) levels
  pub some : All (λ (group : List ℕ). 0 < length group) (groups_in levels)
  pub rise : All IsStrictlyIncreasing (groups_in levels)
  pub within : taken ≤ length order
  pub rules : IsPermutation order (flat_map (λ group. group) (groups_in levels) ++ drop taken order)
  pub words : total ≡ words_in levels
  pub size : total ≤ max_words

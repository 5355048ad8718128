-- What a look ahead at a group counts: the words of some states of a place and the price of others,
-- which aren't more than the words of the group.
use Rattle.std.specs.Prelude.{◌≡◌, ℕ, ◌+◌, ◌<◌, ◌≤◌, List, [], ◌∷◌, ◌++◌, map, fold, take, drop}
use Rattle.std.specs.Prelude.{false}
use Rattle.std.specs.List.{sum_by}
use Rattle.std.specs.List.Sorted.{IsStrictlyIncreasing}
use Rattle.node_expand.specs.declared.edge.Edge.TheVariants.{Free}
use Rattle.rule_set.specs.Rule.{RuleSetView}
use Rattle.state_parts.specs.declared.target.Target.{Target}
use Rattle.state_parts.specs.declared.target.Target.TheVariants.{Parts}
use Rattle.state_parts.specs.Target.{HasEntry}
use Rattle.group_states.specs.Entry.{ColumnView, CanStep, column_at, entry_of}
use Rattle.group_states.specs.Levels.{level_runs, states_at, words_of}
use Rattle.group_states.specs.Lists.{level_found}
use Rattle.group_states.specs.Row.{rows_of}
use Rattle.trie_merge.specs.Led.{IsAfter}
use Rattle.trie_merge.specs.Places.{place_of}
use Rattle.trie_merge.specs.Priced.{AreNumbers}
use Rattle.trie_merge.specs.Shared.{RuleTree, AreIn}
use Rattle.trie_merge.specs.Words.{cost_ahead}
use Rattle.trie_merge.specs.declared.merge.Budget.{Budget}

-- the words of the states of the places and of the rows
abbrev pub words_of_places : RuleSetView → List ℕ → List ℕ → ℕ
words_of_places set group places =
    let rows = rows_of set group in words_of (level_runs set (states_at set group) rows places) rows

-- the states before the kept place of that number: what each place before it makes of them, from
-- the entries of all rules on
unfoldable pub lists_before : RuleSetView → List ℕ → List ℕ → ℕ → List (List ℕ)
lists_before set group places place =
    fold (λ lists p. level_found set (column_at set p) false lists)
    (map (λ rule. entry_of rule Free) group ∷ []) (take place places)

-- The entry can be asked about bytes at the first place, and what they make of it at the others.
abbrev pub CanWalk : RuleSetView → List ℕ → ℕ → Type 0
CanWalk set [] entry = Unit {0}
CanWalk set (place ∷ places) entry = CanStep (column_at set place) entry
    × ((after : ℕ) → IsAfter (column_at set place) entry after → CanWalk set places after)

-- The numbers are those of some states before the kept place. The group takes no less than the
-- words so far, those of these states, and those of all places after this one.
pub record IsProbed (set : RuleSetView) (group : List ℕ) (cap : ℕ) (places : List ℕ) (place : ℕ)
    (target : Target) (numbers : List ℕ) (words : ℕ) : Type 0 where
  pub lists : List (List ℕ)
  pub more : List (List ℕ)
  pub tree : RuleTree
  pub rules : tree.rules ≡ group
  pub states : lists ++ more ≡ lists_before set group places place
  pub sum : words + sum_by (cost_ahead (place_of set places place)) lists
      + words_of_places set group (drop (place + 1) places) ≤ words_of_places set group places
  pub within : words ≤ cap
  pub each : AreIn set target tree lists numbers
  pub inside : AreNumbers target numbers
  pub parts : (pairs : List (ℕ × ℕ)) × (target ≡ Parts pairs)
  pub entries : (entry : ℕ) → HasEntry target entry → CanWalk set (drop place places) entry

-- The words are within the cap, and no more than those before and those of whatever states at the
-- next place the numbers stand for.
pub record AreCounted (next : ColumnView) (target : Target) (numbers : List ℕ) (budget : Budget)
    (words : ℕ) : Type 0 where
  pub within : words ≤ budget.cap
  pub least : (set : RuleSetView) (tree : RuleTree) (lists : List (List ℕ)) →
      IsStrictlyIncreasing tree.rules → AreIn set target tree lists numbers →
      words ≤ budget.before + sum_by (cost_ahead next) lists

-- These words exceed the cap.
abbrev pub ArePastCap : ColumnView → Target → List ℕ → Budget → Type 0
ArePastCap next target numbers budget =
    (set : RuleSetView) (tree : RuleTree) (lists : List (List ℕ)) →
    IsStrictlyIncreasing tree.rules → AreIn set target tree lists numbers →
    budget.cap < budget.before + sum_by (cost_ahead next) lists

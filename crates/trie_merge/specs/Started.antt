-- The state before the first byte, and the rows after a whole key, as numbers.
use Rattle.std.specs.List.{list_any}
use Rattle.std.specs.Prelude.{◌≡◌, ℕ, ◌==◌, ◌≤◌, List, [], ◌∷◌, length, map, true, Contains}
use Rattle.node_expand.specs.declared.edge.Edge.TheVariants.{Free}
use Rattle.rule_set.specs.Rule.{RuleSetView}
use Rattle.state_parts.specs.declared.target.Target.{Target}
use Rattle.state_parts.specs.declared.target.Target.TheVariants.{Parts, Rows}
use Rattle.state_parts.specs.RowsView.{RowsView}
use Rattle.state_parts.specs.Keys.{has_entry}
use Rattle.state_parts.specs.Joined.{IsAll}
use Rattle.group_states.specs.Entry.{entry_of}
use Rattle.group_states.specs.Row.{rows_of}
use Rattle.trie_merge.specs.Names.{ranked_of}
use Rattle.trie_merge.specs.Priced.{AreNumbers}
use Rattle.trie_merge.specs.Shared.{RuleTree, AreIn}
use Rattle.trie_merge.specs.declared.order.Keyed.{Keyed}

-- the places of rules in the set, in their order
abbrev pub numbers_in : List Keyed → List ℕ
numbers_in order = map (λ (keyed : Keyed). keyed.number) order

-- The number stands for the entries of all rules before the first byte, and there are no others.
pub record AreJoined (rules : List ℕ) (target : Target) (number : ℕ) : Type 0 where
  pub pairs : List (ℕ × ℕ)
  pub parts : target ≡ Parts pairs
  pub within : number ≤ length pairs
  pub all : IsAll pairs (map (λ rule. entry_of rule Free) rules) number
  pub entries : (entry : ℕ) → has_entry pairs entry ≡ true →
      Contains (map (λ rule. entry_of rule Free) rules) entry

-- There is one number, and it stands for the entries of all rules of the group, in some order.
pub record IsStarted (group : List ℕ) (target : Target) (numbers : List ℕ) : Type 0 where
  pub pairs : List (ℕ × ℕ)
  pub number : ℕ
  pub parts : target ≡ Parts pairs
  pub one : numbers ≡ number ∷ []
  pub within : number ≤ length pairs
  pub order : List ℕ
  pub same : (rule : ℕ) → list_any (λ r. r == rule) order ≡ list_any (λ r. r == rule) group
  pub all : IsAll pairs (map (λ rule. entry_of rule Free) order) number
  pub entries : (entry : ℕ) → has_entry pairs entry ≡ true →
      Contains (map (λ rule. entry_of rule Free) order) entry

-- The numbers stand for the rows of the group.
pub record AreRows (set : RuleSetView) (group : List ℕ) (target : Target)
    (numbers : List ℕ) : Type 0 where
  pub tree : RuleTree
  pub rules : tree.rules ≡ group
  pub rows : (rows : RowsView) × (target ≡ Rows rows) × (rows.ranked ≡ ranked_of set)
  pub each : AreIn set target tree (rows_of set group) numbers
  pub inside : AreNumbers target numbers

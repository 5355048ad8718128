-- States as numbers of shared parts, and rows as numbers of rows.
use Rattle.std.specs.Prelude.{◌≡◌, ℕ, ◌==◌, List, [], ◌∷◌, Bool, true, false, Option, Some}
use Rattle.std.specs.List.{filter_map, list_any}
use Rattle.rule_set.specs.Rule.{RuleSetView}
use Rattle.state_parts.specs.declared.target.Target.{Target}
use Rattle.state_parts.specs.declared.target.Target.TheVariants.{Parts, Rows}
use Rattle.state_parts.specs.RowsView.{RowsView}
use Rattle.state_parts.specs.Tree.{Tree, leaves, Stands}
use Rattle.state_parts.specs.Rows.{best_row, IsRow}
use Rattle.group_states.specs.Entry.{number_in}
use Rattle.group_states.specs.Laws.{IsGrouped}
use Rattle.group_states.specs.Lists.{row_list}
use Rattle.trie_merge.specs.Names.{ranked_of}

-- The rules of a group, ascending, and a tree whose leaves they are, in whatever order.
pub record RuleTree : Type 0 where
  pub rules : List ℕ
  pub tree : Tree
  pub same : (rule : ℕ) → list_any (λ r. r == rule) (leaves tree) ≡ list_any (λ r. r == rule) rules

-- Each rule has an entry of its own place in the set, or none.
abbrev pub AreOwn : (ℕ → Option ℕ) → Type 0
AreOwn entries = (rule entry : ℕ) → entries rule ≡ Some entry → number_in entry ≡ rule

-- The number stands for the entries of a state.
pub record IsState (pairs : List (ℕ × ℕ)) (tree : RuleTree) (list : List ℕ)
    (number : ℕ) : Type 0 where
  pub entries : ℕ → Option ℕ
  pub own : AreOwn entries
  pub is : list ≡ filter_map entries tree.rules
  pub stands : Stands pairs tree.tree entries number

-- The number stands for a row, which some entries give.
pub record IsRowOf (set : RuleSetView) (rows : RowsView) (tree : RuleTree) (list : List ℕ)
    (number : ℕ) : Type 0 where
  pub entries : ℕ → Option ℕ
  pub own : AreOwn entries
  pub is : list ≡ row_list set (filter_map entries tree.rules)
  pub ranked : rows.ranked ≡ ranked_of set
  pub stands : IsRow rows.rows (best_row rows.ranked (filter_map entries tree.rules)) number

-- The number stands for a state, or after the last place for a row.
abbrev pub IsIn : RuleSetView → Target → RuleTree → List ℕ → ℕ → Type 0
IsIn set (Parts pairs) tree list number = IsState pairs tree list number
IsIn set (Rows rows) tree list number = IsRowOf set rows tree list number

-- So do numbers, each for its list.
abbrev pub AreIn : RuleSetView → Target → RuleTree → List (List ℕ) → List ℕ → Type 0
AreIn set target tree [] [] = Unit {0}
AreIn set target tree (list ∷ lists) (number ∷ numbers) =
    IsIn set target tree list number × AreIn set target tree lists numbers
AreIn set target tree [] (number ∷ numbers) = ⊥
AreIn set target tree (list ∷ lists) [] = ⊥

-- What bytes lead to is numbered as parts, or at the last place as rows of the set.
abbrev pub IsFor : RuleSetView → Bool → Target → Type 0
IsFor set is_last (Parts pairs) = is_last ≡ false
IsFor set is_last (Rows rows) = (is_last ≡ true) × (rows.ranked ≡ ranked_of set)

-- The states of a place: a group of rules, its tree, and the lists that the numbers stand for.
pub record ArePlaced (set : RuleSetView) (group : List ℕ) (tree : RuleTree) (pairs : List (ℕ × ℕ))
    (lists : List (List ℕ)) (numbers : List ℕ) : Type 0 where
  pub grouped : IsGrouped set group
  pub rules : tree.rules ≡ group
  pub each : AreIn set (Parts pairs) tree lists numbers

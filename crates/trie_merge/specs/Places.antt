-- What a kept place of a group is, and what its states come to.
use Rattle.std.specs.Prelude.{◌≡◌, ℕ, ◌+◌, ◌<◌, ◌≤◌, ◌==◌, List, length, take, nat_lt, slice_index_or}
use Rattle.std.specs.Prelude.{true, Bool, Option, Some, None, IfSome, if◌then◌else◌}
use Rattle.field_defs.specs.Layout.{key_len_of}
use Rattle.rule_set.specs.Rule.{RuleSetView}
use Rattle.state_parts.specs.declared.target.Target.{Target}
use Rattle.state_parts.specs.declared.target.Target.TheVariants.{Parts}
use Rattle.state_parts.specs.Target.{HasEntry}
use Rattle.table_sizes.specs.Sizes.{max_words}
use Rattle.group_states.specs.Entry.{ColumnView, CanStep, column_at}
use Rattle.trie_merge.specs.Cuts.{CanGoOn}
use Rattle.trie_merge.specs.Merged.{ArePieces, PlaceMerged}
use Rattle.trie_merge.specs.Priced.{AreNumbers}
use Rattle.trie_merge.specs.Shared.{RuleTree, ArePlaced, IsFor}
use Rattle.trie_merge.specs.Words.{least_words}
use Rattle.trie_merge.specs.declared.merge.Budget.{Budget}
use Rattle.trie_merge.specs.declared.merge.Merged.{Merged}
use Rattle.trie_merge.specs.declared.merge.Place.{Place}
use Rattle.trie_merge.specs.declared.merge.Reached.{Reached}

-- what the place after the one of that number has of each rule, where it isn't the last one
abbrev pub next_of : RuleSetView → List ℕ → ℕ → Option ColumnView
next_of set places j = if nat_lt (j + 2) (length places) then Some
    (column_at set (slice_index_or places (j + 1) 0)) else None

-- what a kept place has of each rule
abbrev pub place_of : RuleSetView → List ℕ → ℕ → ColumnView
place_of set places j = column_at set (slice_index_or places j 0)

-- The places are places of a key.
abbrev pub AreInKey : RuleSetView → List ℕ → Type 0
AreInKey set places =
    (k : ℕ) → k < length places → slice_index_or places k 0 < key_len_of set.layout

-- What was looked up ahead, if anything, is what the kept place of that number has of each rule.
abbrev pub IsKnown : RuleSetView → List ℕ → ℕ → Option ColumnView → Type 0
IsKnown set places j ahead = IfSome ahead (λ column. column ≡ place_of set places j)

-- It is the kept place of that number.
pub record IsPlaceAt (set : RuleSetView) (places : List ℕ) (j : ℕ) (place : Place) : Type 0 where
  pub column : place.column ≡ place_of set places j
  pub is_last : place.is_last ≡ (j + 1 == length places)
  pub next : place.next ≡ next_of set places j
  pub last : place.is_last ≡ true → place.next ≡ None

-- Nothing is numbered yet of what a place leads to.
pub record IsEmptyFor (set : RuleSetView) (is_last : Bool) (target : Target) : Type 0 where
  pub kind : IsFor set is_last target
  pub none : (entry : ℕ) → HasEntry target entry → ⊥

-- The numbers are those of states that can be merged at the kept place.
pub record AreStates (set : RuleSetView) (places : List ℕ) (j : ℕ)
    (reached : Reached) : Type 0 where
  pub parts : (pairs : List (ℕ × ℕ)) × (reached.target ≡ Parts pairs)
  pub inside : AreNumbers reached.target reached.found.keys
  pub step : (entry : ℕ) → HasEntry reached.target entry → CanStep (place_of set places j) entry
  pub go_on : (pairs : List (ℕ × ℕ)) → reached.target ≡ Parts pairs →
      CanGoOn (next_of set places j) (place_of set places j) pairs

-- All that merging the kept place of that number asks for.
pub record CanMergePlace (set : RuleSetView) (places : List ℕ) (j : ℕ) (budget : Budget)
    (reached : Reached) (ahead : Option ColumnView) : Type 0 where
  pub in_key : AreInKey set places
  pub there : j < length places
  pub cap : budget.cap ≤ max_words
  pub before : budget.before ≤ budget.cap
  pub states : AreStates set places j reached
  pub known : IsKnown set places j ahead

-- All that it gives: its first states are merged, as many as the budget has, and what the next
-- place has of each rule was looked up.
pub record MergesPlace (set : RuleSetView) (places : List ℕ) (j : ℕ) (budget : Budget)
    (reached : Reached) (ahead : Option ColumnView) (merged : Merged) : Type 0 where
  pub states : (pairs : List (ℕ × ℕ)) → reached.target ≡ Parts pairs →
      PlaceMerged set (place_of set places j) (j + 1 == length places) budget pairs
      (take budget.states reached.found.keys) merged
  pub pieces : ArePieces merged
  pub next : ahead ≡ next_of set places j

-- They take more words than the cap.
abbrev pub IsPlaceOver : RuleSetView → List ℕ → ℕ → Budget → Reached → Type 0
IsPlaceOver set places j budget reached =
    (pairs : List (ℕ × ℕ)) → reached.target ≡ Parts pairs →
    (group : List ℕ) (tree : RuleTree) (lists : List (List ℕ)) →
    ArePlaced set group tree pairs lists (take budget.states reached.found.keys) →
    budget.cap < least_words set (place_of set places j) (next_of set places j)
    (j + 1 == length places) budget.before lists

-- Tables that handles share, and what the calls on them do.
use Rattle.std.specs.Prelude.{◌≡◌, ℕ, ◌<◌, ◌≤◌, ◌⊎◌, ◌==◌, List, [], length, Option, IsSome, IfSome}
use Rattle.std.specs.Prelude.{false}
use Rattle.rule_set.specs.Rule.{RuleSetView}
use Rattle.flat_table.specs.Table.{TableView}
use Rattle.table_sizes.specs.Sizes.{max_keys}
use Rattle.flat_table.specs.Batch.{batch_verdicts, batch_transitions}
use Rattle.table_fill.specs.Serves.{Serves}
use Rattle.acl_context.specs.Batch.{verdicts_by_rules}
use Rattle.acl_c.specs.Codes.{ok, no_memory, too_many_keys}
use Rattle.acl_c.specs.Batch.{batch_code}

-- what a handle of a table leads to: the table, and the rows of its own walks by lanes
pub record SharedView : Type 0 where
  pub table : TableView
  pub lanes : List (List ℕ)

-- the table, with room for no keys by lanes
abbrev pub without_lanes : TableView → SharedView
without_lanes table = record { table = table; lanes = [] }

-- the handle leads to a table of which this holds
abbrev pub IfShared : Option SharedView → (SharedView → Type 0) → Type 0
IfShared inside holds = IsSome inside × IfSome inside holds

-- What making room for keys by lanes makes of it, and what it answers.
pub record MakesRoom (keys : ℕ) (old new : SharedView) (code : ℕ) : Type 0 where
  pub many : max_keys < keys → code ≡ too_many_keys
  pub few : keys ≤ max_keys → (code ≡ ok) ⊎ (code ≡ no_memory)
  pub room : code ≡ ok → length new.lanes ≡ keys
  pub table : new.table ≡ old.table
  pub kept : (code == ok) ≡ false → new ≡ old

-- what a classification answers
abbrev pub shared_code : SharedView → ℕ → ℕ → ℕ → ℕ → ℕ
shared_code held keys categories walk room =
    batch_code held.table.key_len (length held.lanes) keys categories walk room

-- What a classification makes of the verdicts and the transitions before it, and what it answers.
pub record ClassifiesShared (keys : List ℕ) (categories walk : ℕ) (old new : SharedView)
    (before after : List ℕ) (counted_before counted code : ℕ) : Type 0 where
  pub answer : code ≡ shared_code old (length keys) categories walk (length before)
  pub verdicts : code ≡ ok → after ≡ batch_verdicts old.table categories keys
  pub served : (set : RuleSetView) → code ≡ ok → Serves set old.table →
      after ≡ verdicts_by_rules set categories keys
  pub transitions : code ≡ ok → counted ≡ batch_transitions old.table keys
  pub kept : (code == ok) ≡ false → (after ≡ before) × (counted ≡ counted_before)
  pub table : new.table ≡ old.table
  pub lanes : length new.lanes ≡ length old.lanes

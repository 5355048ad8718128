-- Which categories of a key no rule wins.
use Rattle.std.specs.Prelude.{◌≡◌, ℕ, ◌==◌, List, map, flat_map, length, Bool, false, Option}
use Rattle.std.specs.Prelude.{None, Some, IfSome}
use Rattle.std.specs.Prelude.{if◌then◌else◌}
use Rattle.std.specs.List.{range_with_len}
use Rattle.field_defs.specs.Layout.{key_len_of}
use Rattle.rule_set.specs.Rule.{RuleSetView}
use Rattle.rule_set.specs.Winner.{winner}
use Rattle.flat_table.specs.Table.{TableView}
use Rattle.flat_table.specs.Walk.{joined}
use Rattle.flat_table.specs.Batch.{key_at, keys_in, keys_of_len}
use Rattle.table_fill.specs.Serves.{Serves}
use Rattle.acl_context.specs.Batch.{key_of_batch}
use Rattle.acl_c.specs.Codes.{ok}
use Rattle.acl_c.specs.Calls.{table_code}

-- the mark of a category: 0 where some rule wins in it, and else 1
abbrev pub mark_of : Bool → ℕ
mark_of won = if won then 0 else 1

-- the mark of the key in the category by the table
abbrev pub table_mark : TableView → List ℕ → ℕ → ℕ
table_mark table key category = if joined table key category == 0 then 1 else 0

-- its marks in so many categories from 0 on
abbrev pub key_marks : TableView → ℕ → List ℕ → List ℕ
key_marks table count key = map (table_mark table key) (range_with_len 0 count)

-- the marks of the first n keys of a batch
abbrev pub first_marks : TableView → ℕ → List ℕ → ℕ → List ℕ
first_marks table count keys n = flat_map (λ k. key_marks table count (key_at table keys k))
    (range_with_len 0 n)

-- the marks of all keys
abbrev pub batch_marks : TableView → ℕ → List ℕ → List ℕ
batch_marks table count keys = first_marks table count keys (keys_in table keys)

-- 1 where there is no winner, and 0 where there is one
abbrev pub none_is_one : Option ℕ → ℕ
none_is_one None = 1
none_is_one (Some place) = 0

-- what the rules say of the key in the category
abbrev pub rules_mark : RuleSetView → List ℕ → ℕ → ℕ
rules_mark set key category = none_is_one (winner set.layout set.rules key category)

-- what the rules say of each key, in so many categories from 0 on
abbrev pub marks_by_rules : RuleSetView → ℕ → List ℕ → List ℕ
marks_by_rules set count keys = flat_map
    (λ k. map (rules_mark set (key_of_batch set.layout keys k)) (range_with_len 0 count))
    (range_with_len 0 (keys_of_len (key_len_of set.layout) keys))

-- What marking makes of the marks before it, and what it answers. Where there is no fault it walks
-- each key for itself, and so needs no room for lanes.
pub record Marks (table : Option TableView) (keys : List ℕ) (categories : ℕ)
    (before after : List ℕ) (code : ℕ) : Type 0 where
  pub answer : code ≡ table_code table 0 (length keys) categories 0 (length before)
  pub marks : code ≡ ok → IfSome table (λ table. after ≡ batch_marks table categories keys)
  pub served : (set : RuleSetView) → code ≡ ok → IfSome table
      (λ table. Serves set table → after ≡ marks_by_rules set categories keys)
  pub kept : (code == ok) ≡ false → after ≡ before

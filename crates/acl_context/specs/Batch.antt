-- Batches of keys of a layout: the keys stand one after the other, and so do the verdicts of each.
use Rattle.std.specs.Prelude.{◌≡◌, ◌↔◌, ℕ, List, map, flat_map, None}
use Rattle.std.specs.List.{range_with_len}
use Rattle.field_defs.specs.declared.field.FieldDef.{FieldDef}
use Rattle.field_defs.specs.Layout.{key_len_of}
use Rattle.rule_set.specs.Rule.{RuleSetView}
use Rattle.rule_set.specs.Winner.{winner, verdict}
use Rattle.flat_table.specs.Batch.{keys_of_len, key_of_len}

-- key k of the batch
abbrev pub key_of_batch : List FieldDef → List ℕ → ℕ → List ℕ
key_of_batch layout keys k = key_of_len (key_len_of layout) keys k

-- what the rules say of each key, in so many categories from 0 on
abbrev pub verdicts_by_rules : RuleSetView → ℕ → List ℕ → List ℕ
verdicts_by_rules set count keys = flat_map
    (λ k. map (verdict set.layout set.rules (key_of_batch set.layout keys k))
    (range_with_len 0 count))
    (range_with_len 0 (keys_of_len (key_len_of set.layout) keys))

-- The one set decides as the other: the verdicts of each batch are the same, and the one has no
-- winner exactly where the other has none.
pub record DecidesAs (one other : RuleSetView) : Type 0 where
  pub verdicts : (count : ℕ) (keys : List ℕ) →
      verdicts_by_rules one count keys ≡ verdicts_by_rules other count keys
  pub none : (key : List ℕ) (category : ℕ) →
      (winner one.layout one.rules key category ≡ None
      ↔ winner other.layout other.rules key category ≡ None)

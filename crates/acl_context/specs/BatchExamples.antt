-- Examples of batches and tables, each checked by evaluation.
use Rattle.std.specs.Prelude.{◌≡◌, ℕ, pos, List, [], ◌∷◌, replicate, refl}
use Rattle.field_defs.specs.declared.field.FieldKind.TheVariants as kinds
use Rattle.field_defs.specs.declared.field.FieldDef.{FieldDef}
use Rattle.field_defs.specs.declared.field.FieldValue.TheVariants.{Range}
use Rattle.field_defs.specs.Layout.{ip4_fields, key_len_of}
use Rattle.rule_set.specs.Rule.{RuleView}
use Rattle.rule_split.specs.Split.{groups_of, groups_by, turns, turn}
use Rattle.flat_table.specs.Batch.{keys_of_len}
use Rattle.table_fill.specs.Filled.{filled, table_of_tries, rows_of_tries}
use Rattle.acl_context.specs.Context.{built_of}
use Rattle.acl_context.specs.Batch.{key_of_batch, verdicts_by_rules}

-- two fields of one byte
abbrev two_bytes : List FieldDef
two_bytes =
    record { kind = kinds.Range; size = 1; field_index = 0; input_index = 0; offset = 0 }
    ∷ record { kind = kinds.Range; size = 1; field_index = 1; input_index = 1; offset = 1 }
    ∷ []

-- a rule of categories 0 and 1 for the first byte 6, and one of category 0 for all
abbrev rules : List RuleView
rules =
    record {
      tag = record { category_mask = 3; priority = pos 9; userdata = 60 };
      fields = Range 6 6 ∷ Range 0 255 ∷ [];
    }
    ∷ record {
      tag = record { category_mask = 1; priority = pos 1; userdata = 50 };
      fields = Range 0 255 ∷ Range 0 255 ∷ [];
    }
    ∷ []

-- three keys
abbrev keys : List ℕ
keys = 6 ∷ 1 ∷ 7 ∷ 2 ∷ 6 ∷ 3 ∷ []

three_keys : keys_of_len (key_len_of two_bytes) keys ≡ 3
three_keys = refl

last_key : key_of_batch two_bytes keys 2 ≡ 6 ∷ 3 ∷ []
last_key = refl

-- two categories of each key, key after key
said : verdicts_by_rules record { layout = two_bytes; rules = rules } 2 keys
    ≡ 60 ∷ 60 ∷ 50 ∷ 0 ∷ 60 ∷ 60 ∷ []
said = refl

-- the table of no rules has no trie, and the row of no rule alone
table_of_no_rules : built_of record { layout = ip4_fields; rules = [] } 16 ≡ record {
  key_len = 13;
  rules = 0;
  kept = [];
  roots = [];
  level_lens = [];
  words = [];
  rows = replicate 16 0 ∷ [];
}
unfolding groups_of groups_by turns turn filled table_of_tries rows_of_tries
table_of_no_rules = refl

-- Examples of least keys, each checked by evaluation. Keys are cut down to one or two bytes, so
-- that all of them can be gone through.
use Rattle.std.specs.Prelude.{◌≡◌, ℕ, pos, List, [], ◌∷◌, map, Some, None, refl}
use Rattle.field_defs.specs.declared.field.FieldKind.TheVariants as kinds
use Rattle.field_defs.specs.declared.field.FieldValue.{FieldValue}
use Rattle.field_defs.specs.declared.field.FieldValue.TheVariants.{Range, Bitmask}
use Rattle.rule_set.specs.Rule.{RuleView, RuleSetView}
use Rattle.group_states.specs.Found.{all_bytes}
use Rattle.acl_audit.specs.Least.{least_key}

-- a rule of categories 0 and 1
abbrev rule : ℕ → List FieldValue → RuleView
rule priority fields = record {
  tag = record { category_mask = 3; priority = pos priority; userdata = 1 };
  fields = fields;
}

-- keys of one byte: numbers from 10 to 20, those from 15 on, of greater priority, and all numbers
-- from 16 on, which the second rule leaves nothing
abbrev one_byte : RuleSetView
one_byte = record {
  layout = record {
    kind = kinds.Range;
    size = 1;
    field_index = 0;
    input_index = 0;
    offset = 0;
  } ∷ [];
  rules = rule 1 (Range 10 20 ∷ []) ∷ rule 2 (Range 15 255 ∷ []) ∷ rule 2 (Range 16 255 ∷ []) ∷ [];
}

-- each of two rules wins from its first number on, and the third nowhere
keys_of_one_byte : map (λ place. least_key one_byte place 0) (0 ∷ 1 ∷ 2 ∷ [])
    ≡ Some (10 ∷ []) ∷ Some (15 ∷ []) ∷ None ∷ []
unfolding least_key all_bytes
keys_of_one_byte = refl

-- no rule has category 2
no_key_without_category : least_key one_byte 1 2 ≡ None
unfolding least_key all_bytes
no_key_without_category = refl

-- keys of two bytes: protocol 1 with the numbers from 10 on, and any protocol with those from 5 on
abbrev two_bytes : RuleSetView
two_bytes = record {
  layout = record { kind = kinds.Bitmask; size = 1; field_index = 0; input_index = 0; offset = 0 }
      ∷ record { kind = kinds.Range; size = 1; field_index = 1; input_index = 1; offset = 1 }
      ∷ [];
  rules = rule 2 (Bitmask 1 255 ∷ Range 10 255 ∷ []) ∷ rule 1 (Bitmask 0 0 ∷ Range 5 255 ∷ []) ∷ [];
}

-- the first byte decides first
keys_of_two_bytes : map (λ place. least_key two_bytes place 1) (0 ∷ 1 ∷ [])
    ≡ Some (1 ∷ 10 ∷ []) ∷ Some (0 ∷ 5 ∷ []) ∷ []
unfolding least_key all_bytes
keys_of_two_bytes = refl

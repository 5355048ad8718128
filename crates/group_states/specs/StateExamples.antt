-- Examples of rests, states, rows and words, each checked by evaluation. Keys are cut down to one
-- or two bytes, so that all prefixes are gone through.
use Rattle.std.specs.Prelude.{◌≡◌, ℕ, pos, List, [], ◌∷◌, map, replicate, Some, None, refl}
use Rattle.field_defs.specs.declared.field.FieldKind.TheVariants as kinds
use Rattle.field_defs.specs.declared.field.FieldDef.{FieldDef}
use Rattle.field_defs.specs.declared.field.FieldValue.{FieldValue}
use Rattle.field_defs.specs.declared.field.FieldValue.TheVariants.{Range, Bitmask}
use Rattle.rule_set.specs.Rule.{RuleView, RuleSetView}
use Rattle.node_expand.specs.Rest.{Interval, Live, part, rest_after, rest_step}
use Rattle.rule_set.specs.Among.{best_among}
use Rattle.rule_set.specs.Fault.{categories}
use Rattle.group_states.specs.Found.{found_in, all_bytes, prefixes}
use Rattle.group_states.specs.Kept.{is_wild_place, is_idle, is_kept, kept_bits, kept_places}
use Rattle.group_states.specs.Levels.{states_at, reached, level_runs, levels_of, runs_of}
use Rattle.group_states.specs.Row.{final_row, row_of, rows_of}
use Rattle.group_states.specs.RuleRest.{rule_rest, rule_step}
use Rattle.group_states.specs.State.{state, state_step, state_through}
use Rattle.group_states.specs.declared.run.Succ.TheVariants.{Dead, Row}

-- a key of two bytes: a bitmask of one byte and a range of one
abbrev two_bytes : List FieldDef
two_bytes =
    record { kind = kinds.Bitmask; size = 1; field_index = 0; input_index = 0; offset = 0 }
    ∷ record { kind = kinds.Range; size = 1; field_index = 1; input_index = 1; offset = 1 }
    ∷ []

-- a rule of category 0
abbrev rule : ℕ → FieldValue → FieldValue → RuleView
rule priority first second = record {
  tag = record { category_mask = 1; priority = pos priority; userdata = 1 };
  fields = first ∷ second ∷ [];
}

-- protocol 17 with the numbers from 10 to 20, and any protocol with those from 15 on
abbrev two_rules : RuleSetView
two_rules = record {
  layout = two_bytes;
  rules = rule 1 (Bitmask 17 255) (Range 10 20) ∷ rule 2 (Bitmask 0 0) (Range 15 255) ∷ [];
}

-- rests of the first rule: before the first byte, after each of two, and after whole keys
before_a_byte : map (rule_rest two_rules 0)
    ([] ∷ (16 ∷ []) ∷ (17 ∷ []) ∷ (17 ∷ 9 ∷ []) ∷ (17 ∷ 10 ∷ []) ∷ [])
    ≡ Some Live ∷ None ∷ Some (Interval 10 20) ∷ None ∷ Some Live ∷ []
unfolding rule_rest rest_after part
before_a_byte = refl

-- the step over a field's last byte leads to the next field's rest
steps_over_a_field : map (rule_step two_rules 0 0 Live) (16 ∷ 17 ∷ [])
    ≡ None ∷ Some (Interval 10 20) ∷ []
unfolding rule_step rest_step rest_after part
steps_over_a_field = refl

-- states name the rules by their places in the set
states_of_prefixes : map (state two_rules (0 ∷ 1 ∷ []))
    ((16 ∷ []) ∷ (17 ∷ 12 ∷ []) ∷ (17 ∷ 15 ∷ []) ∷ (16 ∷ 12 ∷ []) ∷ [])
    ≡ (record { number = 1; rest = Interval 15 255 } ∷ [])
    ∷ (record { number = 0; rest = Live } ∷ [])
    ∷ (record { number = 0; rest = Live } ∷ record { number = 1; rest = Live } ∷ []) ∷ [] ∷ []
unfolding state rule_rest rest_after part
states_of_prefixes = refl

-- after one byte there are two states: that of protocol 0 comes first
states_after_a_byte : states_at two_rules (0 ∷ 1 ∷ []) 1
    ≡ (record { number = 1; rest = Interval 15 255 } ∷ [])
    ∷ (record { number = 0; rest = Interval 10 20 } ∷ record
    { number = 1; rest = Interval 15 255 } ∷ []) ∷ []
unfolding states_at state rule_rest rest_after part found_in prefixes all_bytes
states_after_a_byte = refl

-- both groups are kept, and of the second rule alone the second group
kept_of_both : kept_bits two_rules (0 ∷ 1 ∷ []) ∷ kept_bits two_rules (1 ∷ []) ∷ [] ≡ 3 ∷ 2 ∷ []
unfolding kept_bits is_kept is_idle is_wild_place
kept_of_both = refl

-- a key of one byte, and two rules of numbers that overlap, of which the second has the greater
-- priority
abbrev one_byte : RuleSetView
one_byte = record {
  layout = record {
    kind = kinds.Range;
    size = 1;
    field_index = 0;
    input_index = 0;
    offset = 0;
  } ∷ [];
  rules = record {
    tag = record { category_mask = 1; priority = pos 1; userdata = 1 };
    fields = Range 10 20 ∷ [];
  } ∷ record {
    tag = record { category_mask = 3; priority = pos 2; userdata = 1 };
    fields = Range 15 255 ∷ [];
  } ∷ [];
}

-- the first rule alone wins category 0, and the second rule both of its categories wherever it
-- matches
rows_of_one_byte : rows_of one_byte (0 ∷ 1 ∷ [])
    ≡ (1 ∷ replicate 15 0) ∷ (2 ∷ 2 ∷ replicate 14 0) ∷ []
unfolding rows_of final_row row_of best_among categories state rule_rest rest_after part found_in
    prefixes all_bytes
rows_of_one_byte = refl

-- three runs, since the rows of bytes 15 to 20 and 21 to 255 are one: a node of five words, and
-- two rows
words_of_one_byte : (levels_of one_byte (0 ∷ 1 ∷ [])).words ≡ 37
unfolding levels_of level_runs runs_of kept_places is_kept is_idle is_wild_place states_at reached
    state_through state_step rows_of final_row row_of best_among categories state rule_rest
    rule_step rest_after rest_step part found_in prefixes all_bytes
words_of_one_byte = refl

-- no rule before byte 10, the first rule alone before byte 15, and the second from there on
runs_of_one_byte : (levels_of one_byte (0 ∷ 1 ∷ [])).levels
    ≡ ((record { last = 9; to = Dead } ∷ record { last = 14; to = Row 0 }
    ∷ record { last = 255; to = Row 1 } ∷ []) ∷ []) ∷ []
unfolding levels_of level_runs runs_of kept_places is_kept is_idle is_wild_place states_at reached
    state_through state_step rows_of final_row row_of best_among categories state rule_rest
    rule_step rest_after rest_step part found_in prefixes all_bytes
runs_of_one_byte = refl

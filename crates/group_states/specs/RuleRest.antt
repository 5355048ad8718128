-- What a whole rule still allows of a key of which the first bytes are read. The key is read byte
-- by byte in network order (RFC 791, appendix B), field after field (DPDK Programmer's Guide,
-- "Packet Classification and Access Control").
use Rattle.std.specs.Prelude.{ℕ, ◌+◌, ◌-◌, ◌==◌, List, [], ◌∷◌, length, take, drop, slice_get}
use Rattle.std.specs.Prelude.{nat_lt, Option, Some, None, if◌then◌else◌}
use Rattle.std.specs.Option.{option_map_or, option_and_then}
use Rattle.byte_numbers.specs.Number.{number_of}
use Rattle.field_defs.specs.declared.field.FieldDef.{FieldDef}
use Rattle.field_defs.specs.declared.field.FieldValue.{FieldValue}
use Rattle.field_defs.specs.FieldMatch.{field_match}
use Rattle.rule_set.specs.Rule.{RuleSetView}
use Rattle.node_expand.specs.Rest.{Rest, Live, rest_after, rest_step}

-- The rest of a rule's values after the first bytes of a key: none where a whole field doesn't
-- match or no completion of the field begun does, else the rest of the field of the next byte.
-- After a whole key nothing is left, and it is live.
abbrev pub values_rest : List FieldDef → List FieldValue → List ℕ → Option Rest
values_rest [] [] key = Some Live
values_rest (def ∷ defs) (value ∷ values) key =
    if nat_lt (length key) def.size
    then rest_after value def.size (length key) (number_of key)
    else (if field_match value def.size (number_of (take def.size key)) then values_rest defs values
    (drop def.size key) else None)
values_rest [] (value ∷ values) key = None
values_rest (def ∷ defs) [] key = None

-- The rest after one more byte, at the place that counts from 0 in the key: the step of the field
-- that has the place, and after its last byte the rest of the next field before its first byte.
abbrev pub values_step : List FieldDef → List FieldValue → ℕ → Rest → ℕ → Option Rest
values_step (def ∷ defs) (value ∷ values) place before byte =
    if nat_lt place def.size
    then option_and_then (λ after. if place + 1 == def.size then values_rest defs values [] else
    Some after) (rest_step value def.size place before byte)
    else values_step defs values (place - def.size) before byte
values_step [] values place before byte = None
values_step (def ∷ defs) [] place before byte = None

-- the values of the rule at that place of the set
abbrev pub values_of : RuleSetView → ℕ → List FieldValue
values_of set number = option_map_or (λ rule. rule.fields) (slice_get set.rules number) []

-- the rest of a rule of the set after the first bytes of a key
unfoldable pub rule_rest : RuleSetView → ℕ → List ℕ → Option Rest
rule_rest set number key = values_rest set.layout (values_of set number) key

-- its rest after one more byte
unfoldable pub rule_step : RuleSetView → ℕ → ℕ → Rest → ℕ → Option Rest
rule_step set number place before byte =
    values_step set.layout (values_of set number) place before byte

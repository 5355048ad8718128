-- The rules of a box: its spans as values of fields, where a mask or a bitmask takes some blocks of
-- numbers that agree in all but their last bits.
use Rattle.std.specs.Prelude.{ℕ, ◌+◌, ◌*◌, ◌-◌, ◌^◌, List, [], ◌∷◌, ◌++◌, map, Bool, ◌&&◌, ◌||◌}
use Rattle.std.specs.Prelude.{if◌then◌else◌, nat_le, nat_lt}
use Rattle.std.specs.List.{flat_map}
use Rattle.std.proofs.Common.{zero, suc}
use Rattle.field_defs.specs.declared.field.FieldDef.{FieldDef}
use Rattle.field_defs.specs.declared.field.FieldKind.{FieldKind}
use Rattle.field_defs.specs.declared.field.FieldKind.TheVariants as kinds
use Rattle.field_defs.specs.declared.field.FieldValue.{FieldValue}
use Rattle.field_defs.specs.declared.field.FieldValue.TheVariants.{Mask, Range, Bitmask}
use Rattle.list_chains.specs.declared.span.Span.{Span}
use Rattle.list_chains.specs.Spans.{in_span}

-- the value of all numbers that agree with another in all but the free last bits of a field
abbrev pub block : FieldKind → ℕ → ℕ → ℕ → FieldValue
block kinds.Mask bits free base = Mask base (bits - free)
block kinds.Range bits free base = Range base (base + 2 ^ free - 1)
block kinds.Bitmask bits free base = Bitmask base (2 ^ bits - 2 ^ free)

-- a span takes all numbers from a base on that differ in their free bits
abbrev pub takes_all : ℕ → ℕ → Span → Bool
takes_all base free span = nat_le span.low base && nat_le (base + 2 ^ free) (span.high + 1)

-- it takes none of them
abbrev pub takes_none : ℕ → ℕ → Span → Bool
takes_none base free span = nat_lt span.high base || nat_le (base + 2 ^ free) span.low

-- the blocks of the numbers from a base on that a span takes: all, none, or those of both halves
abbrev pub blocks_of : (ℕ → ℕ → FieldValue) → ℕ → ℕ → Span → List FieldValue
blocks_of value zero base span = if in_span span base then value 0 base ∷ [] else []
blocks_of value (suc free) base span =
    if takes_all base (suc free) span then value (suc free) base ∷ []
    else (
    if takes_none base (suc free) span then []
    else blocks_of value free base span ++ blocks_of value free (base + 2 ^ free) span
    )

-- the values that let the numbers of a span through, by the kind of a field and its bits
abbrev pub span_values_of : FieldKind → ℕ → Span → List FieldValue
span_values_of kinds.Mask bits span = blocks_of (block kinds.Mask bits) bits 0 span
span_values_of kinds.Bitmask bits span = blocks_of (block kinds.Bitmask bits) bits 0 span
span_values_of kinds.Range bits span = Range span.low span.high ∷ []

-- and by its definition
abbrev pub span_values : FieldDef → Span → List FieldValue
span_values def span = span_values_of def.kind (8 * def.size) span

-- each value before each of some rests
abbrev pub each_before : List FieldValue → List (List FieldValue) → List (List FieldValue)
each_before values rests = flat_map (λ value. map (λ rest. value ∷ rest) rests) values

-- the values of the rules of a box, one list for each rule
abbrev pub box_rows : List FieldDef → List Span → List (List FieldValue)
box_rows [] [] = [] ∷ []
box_rows (def ∷ defs) (span ∷ spans) = each_before (span_values def span) (box_rows defs spans)
box_rows [] (span ∷ spans) = []
box_rows (def ∷ defs) [] = []

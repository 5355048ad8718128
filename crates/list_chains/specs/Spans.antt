-- Boxes of keys: for each field of a layout the numbers from one to another, both included, of the
-- field's bytes in network order.
use Rattle.std.specs.Prelude.{ℕ, ◌-◌, ◌*◌, ◌^◌, ◌≤◌, ◌<◌, IsTrue, List, [], ◌∷◌, map, take, drop, Bool, true, false, ◌&&◌}
use Rattle.std.specs.Prelude.{Option, Some, None, if◌then◌else◌, nat_le}
use Rattle.byte_numbers.specs.Number.{number_of}
use Rattle.field_defs.specs.declared.field.FieldDef.{FieldDef}
use Rattle.field_defs.specs.FieldBounds.{is_size}
use Rattle.list_chains.specs.declared.span.Span.{Span}

-- the number is in the span
abbrev pub in_span : Span → ℕ → Bool
in_span span x = nat_le span.low x && nat_le x span.high

-- the number of each field's bytes is in the box's span for the field
abbrev pub in_box : List FieldDef → List Span → List ℕ → Bool
in_box [] [] key = true
in_box (def ∷ defs) (span ∷ spans) key =
    in_span span (number_of (take def.size key)) && in_box defs spans (drop def.size key)
in_box [] (span ∷ spans) key = false
in_box (def ∷ defs) [] key = false

-- all numbers of a field
abbrev pub whole_span : FieldDef → Span
whole_span def = record { low = 0; high = 256 ^ def.size - 1 }

-- the box of all keys
abbrev pub whole_box : List FieldDef → List Span
whole_box layout = map whole_span layout

-- the numbers of both spans
abbrev pub common : Span → Span → Span
common one other = record {
  low = if nat_le one.low other.low then other.low else one.low;
  high = if nat_le one.high other.high then one.high else other.high;
}

-- a span before those of further fields, where there are some
abbrev pub before : Span → Option (List Span) → Option (List Span)
before span None = None
before span (Some spans) = Some (span ∷ spans)

-- what two boxes have in common, which is no box if one of its spans has no number
abbrev pub box_meet : List Span → List Span → Option (List Span)
box_meet [] [] = Some []
box_meet (one ∷ ones) (other ∷ others) =
    if nat_le (common one other).low (common one other).high
    then before (common one other) (box_meet ones others)
    else None
box_meet [] (other ∷ others) = None
box_meet (one ∷ ones) [] = None

-- the one span lies within the other
abbrev pub lies_in : Span → Span → Bool
lies_in one other = nat_le other.low one.low && nat_le one.high other.high

-- the one box lies within the other
abbrev pub is_inside : List Span → List Span → Bool
is_inside [] [] = true
is_inside (one ∷ ones) (other ∷ others) = lies_in one other && is_inside ones others
is_inside [] (other ∷ others) = false
is_inside (one ∷ ones) [] = false

-- a span of numbers of a field, which has a size that a field may have
pub record IsFieldSpan (def : FieldDef) (span : Span) : Type 0 where
  pub size : IsTrue (is_size def.size)
  pub filled : span.low ≤ span.high
  pub within : span.high < 2 ^ (8 * def.size)

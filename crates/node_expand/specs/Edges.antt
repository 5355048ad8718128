-- What an edge says of a rest, and the rest that it stands for. A rule's value fixes the inner ends
-- of its rests: the lower end, where it is inner, is what the lowest matching number ends with, and
-- the upper end goes likewise.
use Rattle.std.specs.Prelude.{◌≡◌, ℕ, ◌+◌, ◌-◌, ◌%◌, ◌^◌, ◌<◌, ◌≤◌, ◌==◌, Bool, true, false, ◌&&◌}
use Rattle.std.specs.Prelude.{not, nat_lt, Option, Some, None, IsSome, if◌then◌else◌}
use Rattle.std.specs.Option.{option_map}
use Rattle.field_defs.specs.declared.field.FieldValue.{FieldValue}
use Rattle.field_defs.specs.declared.field.FieldValue.TheVariants.{Mask, Range, Bitmask}
use Rattle.node_expand.specs.declared.edge.Edge.{Edge}
use Rattle.node_expand.specs.declared.edge.Edge.TheVariants.{Free, Low, High, Both}
use Rattle.node_expand.specs.Rest.{Rest, Interval, Live, count_of, mask_low, mask_high, rest_after}
use Rattle.node_expand.specs.Rest.{rest_step}

-- the edge with these ends inner: the lower, the upper
abbrev pub edge_with : Bool → Bool → Edge
edge_with false false = Free
edge_with true false = Low
edge_with false true = High
edge_with true true = Both

-- the form of a rest of which `count` numbers could be left
unfoldable pub edge_of : ℕ → Rest → Edge
edge_of count (Interval low high) = edge_with (nat_lt 0 low) (nat_lt high (count - 1))
edge_of count Live = Free

-- whether the lower end is inner
abbrev pub has_low : Edge → Bool
has_low Free = false
has_low Low = true
has_low High = false
has_low Both = true

-- whether the upper end is inner
abbrev pub has_high : Edge → Bool
has_high Free = false
has_high Low = false
has_high High = true
has_high Both = true

-- the interval of the numbers below `count` that a range leaves at an edge
abbrev pub interval_at : ℕ → ℕ → ℕ → Edge → Rest
interval_at low high count edge =
    Interval (if has_low edge then low % count else 0)
    (if has_high edge then high % count else count - 1)

-- the same for each kind
abbrev pub open_rest_of : FieldValue → ℕ → ℕ → Edge → Rest
open_rest_of (Mask value bits) size count edge =
    interval_at (mask_low value bits size) (mask_high value bits size) count edge
open_rest_of (Range low high) size count edge = interval_at low high count edge
open_rest_of (Bitmask value mask) size count edge = Live

-- the rest that an edge stands for, after the first `place` bytes of a field of `size` bytes
unfoldable pub rest_of : FieldValue → ℕ → ℕ → Edge → Rest
rest_of value size place edge =
    if place == size then Live else open_rest_of value size (count_of (size - place)) edge

-- the form of the rest after the bytes that spell the prefix, or none where there is no rest
unfoldable pub edge_after : FieldValue → ℕ → ℕ → ℕ → Option Edge
edge_after value size place prefix =
    option_map (edge_of (count_of (size - place))) (rest_after value size place prefix)

-- the form of the rest after one more byte, or none
unfoldable pub edge_step : FieldValue → ℕ → ℕ → Edge → ℕ → Option Edge
edge_step value size place edge byte =
    option_map (edge_of (count_of (size - (place + 1))))
    (rest_step value size place (rest_of value size place edge) byte)

-- The edge is the form of the rest after some bytes before the place.
pub record StandsBefore (value : FieldValue) (size place : ℕ) (edge : Edge) : Type 0 where
  pub prefix : ℕ
  pub within : prefix < 256 ^ place
  pub form : edge_after value size place prefix ≡ Some edge

-- two edges are one
abbrev pub same_edge : Edge → Edge → Bool
same_edge Free Free = true
same_edge Low Low = true
same_edge High High = true
same_edge Both Both = true
same_edge _ _ = false

-- two answers are one
abbrev pub same_answer : Option Edge → Option Edge → Bool
same_answer None None = true
same_answer (Some one) (Some other) = same_edge one other
same_answer None (Some other) = false
same_answer (Some one) None = false

-- the answer at the byte is another than at the byte before it
unfoldable pub is_change : (ℕ → Option Edge) → ℕ → Bool
is_change answer byte = nat_lt 0 byte && not (same_answer (answer byte) (answer (byte - 1)))

-- the step at the byte answers otherwise than at the byte before it
unfoldable pub is_cut : FieldValue → ℕ → ℕ → Edge → ℕ → Bool
is_cut value size place edge byte = is_change (edge_step value size place edge) byte

-- The first and the last byte at which there is an answer.
pub record AreEnds (answer : ℕ → Option Edge) (first last : ℕ) : Type 0 where
  pub first_answers : IsSome (answer first)
  pub last_answers : IsSome (answer last)
  pub ordered : first ≤ last
  pub none_outside : (byte : ℕ) → byte < 256 → IsSome (answer byte) → (first ≤ byte) × (byte ≤ last)

-- there is an answer at each byte from the one to the other
abbrev pub AnswersWithin : (ℕ → Option Edge) → ℕ → ℕ → Type 0
AnswersWithin answer first last = (byte : ℕ) → first ≤ byte → byte ≤ last → IsSome (answer byte)

-- The bytes from the one to the other have one answer, and the byte after them another.
pub record AnswersAlike (answer : ℕ → Option Edge) (first last : ℕ) : Type 0 where
  pub ordered : first ≤ last
  pub alike : (byte : ℕ) → first ≤ byte → byte ≤ last → answer byte ≡ answer first
  pub change : last < 255 → is_change answer (last + 1) ≡ true

-- the value is a bitmask, which leaves no interval
abbrev pub is_bitmask : FieldValue → Bool
is_bitmask (Mask value bits) = false
is_bitmask (Range low high) = false
is_bitmask (Bitmask value mask) = true

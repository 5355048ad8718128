-- What a rule compares: each comparison says of packets that they lie in one of some boxes, or
-- after `!=` in none. A rule catches the packets that all of its comparisons are true of.
use Rattle.std.specs.Prelude.{ℕ, ◌==◌, Bool, not, ◌&&◌, ◌||◌, List, fold}
use Rattle.std.specs.List.{list_all, list_any}
use Rattle.field_defs.specs.declared.field.Family.{Family}
use Rattle.list_chains.specs.declared.span.Span.{Span}
use Rattle.list_packets.specs.declared.packets.Packets.{Packets}
use Rattle.list_packets.specs.Packets.{CaughtBoxes, all_caught, with_boxes}

-- a comparison: its boxes, and whether packets lie in none of them
pub record ComparedBoxes : Type 0 where
  pub negated : Bool
  pub boxes : List Packets

-- a span of protocols is neither that of all nor that of one alone
abbrev pub is_other : ℕ → Span → Bool
is_other number span =
    not (span.low == 0 && span.high == 255) && not (span.low == number && span.high == number)

-- the protocols of one of some boxes are so
abbrev pub has_other : ℕ → List Packets → Bool
has_other number boxes = list_any (λ packets. is_other number packets.protocol) boxes

-- a comparison names protocols, of which one isn't this one
abbrev pub names_other : ℕ → ComparedBoxes → Bool
names_other number comparison = not comparison.negated && has_other number comparison.boxes

-- a span is that of a protocol whose ports keys have
abbrev pub is_ported : Span → Bool
is_ported span =
    span.low == span.high && (span.low == 6 || span.low == 17 || span.low == 132)

-- each of some boxes has one
abbrev pub are_ported : List Packets → Bool
are_ported boxes = list_all (λ packets. is_ported packets.protocol) boxes

-- a comparison leaves no packets of other protocols
abbrev pub leaves_ported : ComparedBoxes → Bool
leaves_ported comparison = not comparison.negated && are_ported comparison.boxes

-- those of some packets that a comparison is true of
abbrev pub narrowed : CaughtBoxes → ComparedBoxes → CaughtBoxes
narrowed caught comparison = with_boxes comparison.negated comparison.boxes caught

-- the packets of a family that some comparisons are true of
abbrev pub caught_by : Family → List ComparedBoxes → CaughtBoxes
caught_by family compared = fold narrowed (all_caught family) compared

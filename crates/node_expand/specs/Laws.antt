-- Laws of rests and edges, over the definitions alone.
use Rattle.std.specs.Prelude.{◌≡◌, ℕ, ◌+◌, ◌-◌, ◌*◌, ◌^◌, ◌<◌, ◌≤◌, ◌↔◌, List, length, All, false}
use Rattle.std.specs.Prelude.{true, Some, IsSome}
use Rattle.std.specs.Option.{option_and_then}
use Rattle.byte_numbers.specs.Number.{number_of}
use Rattle.field_defs.specs.declared.field.FieldValue.{FieldValue}
use Rattle.field_defs.specs.declared.field.FieldValue.TheVariants.{Mask, Range}
use Rattle.field_defs.specs.FieldMatch.{field_match}
use Rattle.field_defs.specs.FieldBounds.{CanMatch, is_range_filled, is_wild}
use Rattle.node_expand.specs.declared.edge.Edge.{Edge}
use Rattle.node_expand.specs.declared.edge.Edge.TheVariants.{Free}
use Rattle.node_expand.specs.Rest.{Rest, Interval, live_where, count_of, as_range, same_rest}
use Rattle.node_expand.specs.Rest.{rest_after, rest_step, rest_through}
use Rattle.node_expand.specs.Edges.{edge_of, rest_of, edge_after, edge_step, StandsBefore, is_cut}

-- The number that the prefix and the number of the bytes after it make matches.
abbrev pub Completes : FieldValue → ℕ → ℕ → ℕ → ℕ → Type 0
Completes value size place prefix number =
    field_match value size (prefix * count_of (size - place) + number) ≡ true

-- The rest after a prefix is what completes it: there is a rest exactly where some number does, and
-- the numbers of an interval are exactly those that do.
pub record HoldsCompletions (value : FieldValue) (size place prefix : ℕ) : Type 0 where
  pub live : IsSome (rest_after value size place prefix) ↔
      ((number : ℕ) × (number < count_of (size - place)) × Completes value size place prefix number)
  pub interval : (low high : ℕ) → rest_after value size place prefix ≡ Some (Interval low high) →
      (number : ℕ) → number < count_of (size - place) →
      (Completes value size place prefix number ↔ ((low ≤ number) × (number ≤ high)))
  pub bounds : (low high : ℕ) → rest_after value size place prefix ≡ Some (Interval low high) →
      (low ≤ high) × (high < count_of (size - place))

-- Every rest is what completes its prefix, and a whole field's rest says whether its number
-- matches.
pub record RestsHoldCompletions : Type 0 where
  pub begun : (value : FieldValue) (size place prefix : ℕ) → place ≤ size →
      HoldsCompletions value size place prefix
  pub whole : (value : FieldValue) (size number : ℕ) →
      rest_after value size size number ≡ live_where (field_match value size number)

-- The rest after one more byte is the step of the rest, up to the last byte of the field. So the
-- steps over all bytes of a whole field say whether the number that they spell matches.
pub record RestsGoStepByStep : Type 0 where
  pub step : (value : FieldValue) (size place prefix byte : ℕ) → place < size → byte < 256 →
      rest_after value size (place + 1) (prefix * 256 + byte)
      ≡ option_and_then (λ before. rest_step value size place before byte)
      (rest_after value size place prefix)
  pub whole : (value : FieldValue) (size : ℕ) (bytes : List ℕ) → length bytes ≡ size →
      All (λ byte. byte < 256) bytes →
      rest_through value size 0 (rest_after value size 0 0) bytes
      ≡ live_where (field_match value size (number_of bytes))

-- An edge that stands before a place and the rest say the same: where the edge is the form of the
-- rest after some bytes, that rest is the one that the edge stands for, and the edge is the form of
-- the rest that it stands for.
pub record EdgesSayRests : Type 0 where
  pub rest : (value : FieldValue) (size place prefix : ℕ) (edge : Edge) → place ≤ size →
      edge_after value size place prefix ≡ Some edge →
      rest_after value size place prefix ≡ Some (rest_of value size place edge)
  pub form : (value : FieldValue) (size place : ℕ) (edge : Edge) → place ≤ size →
      StandsBefore value size place edge →
      edge_of (count_of (size - place)) (rest_of value size place edge) ≡ edge

-- A byte from 1 on is no cut exactly where the answer is that of the byte before it.
abbrev pub CutsAreChanges : Type 0
CutsAreChanges = (value : FieldValue) (size place : ℕ) (edge : Edge) (byte : ℕ) → 0 < byte →
    ((is_cut value size place edge byte ≡ false) ↔
    (edge_step value size place edge byte ≡ edge_step value size place edge (byte - 1)))

-- Two edges that stand before a place are one exactly where the rests that they stand for are.
abbrev pub EdgesAreOneWhereRestsAre : Type 0
EdgesAreOneWhereRestsAre =
    (value : FieldValue) (size place : ℕ) (one other : Edge) → place ≤ size →
    StandsBefore value size place one → StandsBefore value size place other →
    (one ≡ other ↔ rest_of value size place one ≡ rest_of value size place other)

-- Two rests are one exactly where the comparison says so.
abbrev pub RestsAreCompared : Type 0
RestsAreCompared = (one other : Rest) → (same_rest one other ≡ true ↔ one ≡ other)

-- Bytes with no cut between them have one answer.
abbrev pub UncutBytesAnswerAlike : Type 0
UncutBytesAnswerAlike =
    (value : FieldValue) (size place : ℕ) (edge : Edge) (first last : ℕ) → first ≤ last →
    ((byte : ℕ) → first < byte → byte ≤ last → is_cut value size place edge byte ≡ false) →
    edge_step value size place edge first ≡ edge_step value size place edge last

-- A wild value leaves all numbers after any bytes, so its edge is free there and after one more.
pub record WildValuesStayFree : Type 0 where
  pub edge : (value : FieldValue) (size place prefix : ℕ) → CanMatch value size →
      is_wild value size ≡ true →
      place ≤ size → prefix < 256 ^ place → edge_after value size place prefix ≡ Some Free
  pub step : (value : FieldValue) (size place byte : ℕ) → CanMatch value size →
      is_wild value size ≡ true →
      place < size → byte < 256 → edge_step value size place Free byte ≡ Some Free

-- Where a mask or a range leaves all numbers, it leaves all of one byte less after every byte.
pub record FreeEdgesStayFree : Type 0 where
  pub mask : (value bits size place byte : ℕ) → place < size → byte < 256 →
      edge_step (Mask value bits) size place Free byte ≡ Some Free
  pub range : (low high size place byte : ℕ) → place < size → byte < 256 →
      edge_step (Range low high) size place Free byte ≡ Some Free

-- A mask is the range of the numbers that it lets through, in all that is said of values here.
pub record IsAsItsRange (value : FieldValue) (size : ℕ) : Type 0 where
  pub lawful : CanMatch value size → CanMatch (as_range value size) size
  pub filled : is_range_filled value ≡ true → is_range_filled (as_range value size) ≡ true
  pub wild : CanMatch value size → is_wild (as_range value size) size ≡ is_wild value size
  pub matches : (number : ℕ) → field_match (as_range value size) size number
      ≡ field_match value size number
  pub rest : (place prefix : ℕ) → rest_after (as_range value size) size place prefix
      ≡ rest_after value size place prefix
  pub edge : (place prefix : ℕ) → edge_after (as_range value size) size place prefix
      ≡ edge_after value size place prefix
  pub stands : (place : ℕ) (edge : Edge) →
      (StandsBefore (as_range value size) size place edge ↔ StandsBefore value size place edge)
  pub step : (place byte : ℕ) (edge : Edge) →
      edge_step (as_range value size) size place edge byte ≡ edge_step value size place edge byte
  pub cut : (place byte : ℕ) (edge : Edge) →
      is_cut (as_range value size) size place edge byte ≡ is_cut value size place edge byte

-- Every value of a field, of whatever size, may be taken as its range.
abbrev pub ValuesAreTheirRanges : Type 0
ValuesAreTheirRanges = (value : FieldValue) (size : ℕ) → IsAsItsRange value size

-- What a rule still allows of a field of which the leading bytes are read. A key is read byte by
-- byte in network order (RFC 791, appendix B), so the bytes of a field that are read spell a prefix
-- of its number, and the bytes that are not read spell the rest of it. Kinds of fields: DPDK
-- Programmer's Guide, ACL field types (mask, range, bitmask).
use Rattle.std.specs.Prelude.{ℕ, ◌+◌, ◌-◌, ◌*◌, ◌/◌, ◌%◌, ◌^◌, ◌==◌, min, max, List, [], ◌∷◌, Bool}
use Rattle.std.specs.Prelude.{true, false, ◌&&◌, nat_le, nat_lt, bit_and, Option, Some, None}
use Rattle.std.specs.Prelude.{if◌then◌else◌}
use Rattle.std.specs.Option.{option_and_then}
use Rattle.field_defs.specs.declared.field.FieldValue.{FieldValue}
use Rattle.field_defs.specs.declared.field.FieldValue.TheVariants.{Mask, Range, Bitmask}
use Rattle.field_defs.specs.FieldMatch.{field_match}

-- What the bytes not yet read may spell: the numbers from a lowest to a greatest one, or something
-- that is no interval.
pub data Rest : Type 0 where
  Interval : ℕ → ℕ → Rest
  Live : Rest

-- how many numbers some bytes can spell
abbrev pub count_of : ℕ → ℕ
count_of bytes = 256 ^ bytes

-- The part of the numbers from low to high that lies in the block of `count` numbers which begin
-- with the prefix, counted from the first number of the block.
unfoldable pub part : ℕ → ℕ → ℕ → ℕ → Option Rest
part low high count prefix =
    let first = prefix * count in
    let last = first + (count - 1) in
    if nat_le (max low first) (min high last)
    then Some (Interval (max low first - first) (min high last - first))
    else None

-- the lowest number that has the leading bits of a mask's value
unfoldable pub mask_low : ℕ → ℕ → ℕ → ℕ
mask_low value bits size = value / 2 ^ (8 * size - bits) * 2 ^ (8 * size - bits)

-- the greatest number that has them
unfoldable pub mask_high : ℕ → ℕ → ℕ → ℕ
mask_high value bits size =
    value / 2 ^ (8 * size - bits) * 2 ^ (8 * size - bits) + (2 ^ (8 * size - bits) - 1)

-- the value as a range: that of a mask has the numbers that the mask lets through
abbrev pub as_range : FieldValue → ℕ → FieldValue
as_range (Mask value bits) size = Range (mask_low value bits size) (mask_high value bits size)
as_range (Range low high) size = Range low high
as_range (Bitmask value mask) size = Bitmask value mask

-- two rests are one
abbrev pub same_rest : Rest → Rest → Bool
same_rest (Interval low high) (Interval other_low other_high) =
    low == other_low && high == other_high
same_rest Live Live = true
same_rest (Interval low high) Live = false
same_rest Live (Interval low high) = false

-- live where the test passes
abbrev pub live_where : Bool → Option Rest
live_where passes = if passes then Some Live else None

-- The rest while `count` numbers can follow the prefix. A mask counts as the range of the numbers
-- that it lets through, and a bitmask is live where the bits of the prefix that it has set agree.
abbrev pub open_rest : FieldValue → ℕ → ℕ → ℕ → Option Rest
open_rest (Mask value bits) size count prefix =
    part (mask_low value bits size) (mask_high value bits size) count prefix
open_rest (Range low high) size count prefix = part low high count prefix
open_rest (Bitmask value mask) size count prefix =
    live_where (bit_and prefix (mask / count) == bit_and (value / count) (mask / count))

-- The rest of a field of `size` bytes after its first `place` bytes, which spell the prefix, or
-- none where no number that begins so matches. A whole field is live where its number matches.
unfoldable pub rest_after : FieldValue → ℕ → ℕ → ℕ → Option Rest
rest_after value size place prefix =
    if place == size
    then live_where (field_match value size prefix)
    else open_rest value size (count_of (size - place)) prefix

-- The rest after one more byte of a field whose first `place` bytes are read: what an interval
-- leaves of a field of the bytes that were left, and what the bitmask's last bytes leave of it. A
-- whole field has no further byte, so it has no rest after one.
unfoldable pub rest_step : FieldValue → ℕ → ℕ → Rest → ℕ → Option Rest
rest_step value size place (Interval low high) byte =
    rest_after (Range low high) (size - place) 1 byte
rest_step (Bitmask value mask) size place Live byte =
    let left = size - place in
    if nat_lt place size then rest_after
    (Bitmask (value % count_of left) (mask % count_of left)) left 1 byte else None
rest_step (Mask value bits) size place Live byte = None
rest_step (Range low high) size place Live byte = None

-- the rest after some more bytes, one after the other
unfoldable pub rest_through : FieldValue → ℕ → ℕ → Option Rest → List ℕ → Option Rest
rest_through value size place found [] = found
rest_through value size place found (byte ∷ bytes) =
    rest_through value size (place + 1)
    (option_and_then (λ before. rest_step value size place before byte) found) bytes

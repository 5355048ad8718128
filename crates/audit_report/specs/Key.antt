-- A key as text: the bytes of its fields in network order, each in two hexadecimal digits.
use Rattle.std.specs.Prelude.{ℕ, ◌/◌, ◌%◌, List, [], ◌∷◌, codes, slice_index_or}
use Rattle.std.specs.List.{flat_map}

-- the hexadecimal digits of the numbers below 16, in lower case
abbrev pub hex_digits : List ℕ
hex_digits = codes "0123456789abcdef"

-- the two digits of a byte
abbrev pub byte_text : ℕ → List ℕ
byte_text byte =
    slice_index_or hex_digits (byte / 16) 0 ∷ slice_index_or hex_digits (byte % 16) 0 ∷ []

-- the digits of all bytes
abbrev pub hex_text : List ℕ → List ℕ
hex_text key = flat_map byte_text key

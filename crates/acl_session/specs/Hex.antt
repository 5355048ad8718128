-- Bytes as text: two hexadecimal digits of either case for each, the high one first (RFC 4648,
-- section 8, but for the case).
use Rattle.std.specs.Prelude.{ℕ, ◌+◌, ◌*◌, ◌%◌, ◌==◌, Bool, not, ◌&&◌, List, [], ◌∷◌, length}
use Rattle.std.specs.Char.{digit_value}
use Rattle.text_scan.specs.Digits.{are_digits}

-- the text is of such digits alone, an even number of them, at least two
abbrev pub are_bytes_in_hex : List ℕ → Bool
are_bytes_in_hex text = not (length text == 0) && length text % 2 == 0 && are_digits 16 text

-- its bytes
abbrev pub bytes_in_hex : List ℕ → List ℕ
bytes_in_hex [] = []
bytes_in_hex (digit ∷ []) = []
bytes_in_hex (high ∷ low ∷ digits) = (digit_value high * 16 + digit_value low) ∷ bytes_in_hex digits

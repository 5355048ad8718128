-- Numbers in text as ClassBench filter sets spell them: in decimal, or in hexadecimal after `0x`
-- or `0X` with digits of either case. These are C's decimal and hexadecimal constants (ISO C,
-- 6.4.4.1, without suffixes), but for one choice of ours: leading zeros change nothing, so no
-- number is octal.
use Rattle.std.specs.Prelude.{ℕ, ◌+◌, ◌==◌, Bool, ◌&&◌, ◌||◌, nat_le, if◌then◌else◌, List, length}
use Rattle.std.specs.Prelude.{drop, slice_index, Option, Some, None}
use Rattle.std.specs.Char.{is_digit}
use Rattle.text_scan.specs.Digits.{place_value, run_of}

-- The text begins with `0x` or `0X` and a hexadecimal digit: 48 is `0`, 120 is `x` and 88 is `X`.
-- Past the end of a text `slice_index` gives 0, which is none of them.
abbrev pub begins_hexadecimal : List ℕ → Bool
begins_hexadecimal text =
    slice_index text 0 == 48 && (slice_index text 1 == 120 || slice_index text 1 == 88) && is_digit
    (slice_index text 2) 16

-- the base of a number at the beginning of the text
abbrev pub base_of : List ℕ → ℕ
base_of text = if begins_hexadecimal text then 16 else 10

-- how many bytes stand before the digits of that number
abbrev pub mark_len : List ℕ → ℕ
mark_len text = if begins_hexadecimal text then 2 else 0

-- the digits of that number: the longest run of them
abbrev pub digits_of : List ℕ → List ℕ
digits_of text = run_of (base_of text) (drop (mark_len text) text)

-- the value of that number, of any size
abbrev pub numeral_value : List ℕ → ℕ
numeral_value text = place_value (base_of text) (digits_of text)

-- how many bytes that number takes
abbrev pub numeral_len : List ℕ → ℕ
numeral_len text = mark_len text + length (digits_of text)

-- a number stands at the beginning of the text, and it is at most `greatest`
abbrev pub begins_numeral : ℕ → List ℕ → Bool
begins_numeral greatest text =
    nat_le 1 (length (digits_of text)) && nat_le (numeral_value text) greatest

-- the value of the number at place `at`, at most `greatest`, and the place after it
abbrev pub numeral_at : List ℕ → ℕ → ℕ → Option (ℕ × ℕ)
numeral_at text at greatest =
    let rest = drop at text in
    if begins_numeral greatest rest then Some (numeral_value rest, at + numeral_len rest) else None

-- the number that a whole text is, at most `greatest`
abbrev pub whole_number : ℕ → List ℕ → Option ℕ
whole_number greatest text =
    if begins_numeral greatest text && numeral_len text == length text then Some
    (numeral_value text) else None

-- The columns after the addresses: ports, protocol and flags, as DPDK's `app/test-acl` reads them.
use Rattle.std.specs.Prelude.{ℕ, ◌==◌, Bool, not, ◌&&◌, nat_le, is_some, if◌then◌else◌, List, []}
use Rattle.std.specs.Prelude.{◌∷◌, length, drop, Option, Some, None, option_and_then, Result, Ok}
use Rattle.std.specs.Prelude.{Err}
use Rattle.std.specs.List.{list_any}
use Rattle.std.specs.Option.{ok_or, option_map}
use Rattle.field_defs.specs.declared.field.FieldValue.{FieldValue}
use Rattle.field_defs.specs.declared.field.FieldValue.TheVariants.{Range, Bitmask}
use Rattle.text_scan.specs.Parts.{colon, slash, cut_at, after_blanks, first_word}
use Rattle.text_scan.specs.Numeral.{begins_numeral, numeral_value, numeral_len, whole_number}
use Rattle.classbench_reader.specs.declared.rules_fault.LineKind.{LineKind}
use Rattle.classbench_reader.specs.declared.rules_fault.LineKind.TheVariants.{BadPorts, EmptyRange}
use Rattle.classbench_reader.specs.declared.rules_fault.LineKind.TheVariants.{BadProtocol, BadFlags}
use Rattle.classbench_reader.specs.Limits.{max_port, max_flags, max_protocol, equals_sign}
use Rattle.classbench_reader.specs.LineReading.{◌>>=◌, Read}

-- the port that a text begins with, after blanks
abbrev pub port_of : List ℕ → Result (Read ℕ) LineKind
port_of text =
    let rest = after_blanks text in
    if begins_numeral max_port rest
    then Ok (record { value = numeral_value rest; rest = drop (numeral_len rest) rest }) else Err
    BadPorts

-- what follows blanks and a `:`
abbrev pub after_colon_of : List ℕ → Result (List ℕ) LineKind
after_colon_of [] = Err BadPorts
after_colon_of (c ∷ rest) = if c == colon then Ok rest else Err BadPorts

-- the range from the one port to the other, where a blank or nothing follows
abbrev pub range_of : ℕ → ℕ → List ℕ → Result (Read FieldValue) LineKind
range_of low high rest =
    if length (first_word rest) == 0
    then (if nat_le low high
    then Ok (record { value = Range low high; rest = rest }) else Err EmptyRange)
    else Err BadPorts

-- two ports around `:`, with any blanks before each of the three
abbrev pub ports_of : List ℕ → Result (Read FieldValue) LineKind
ports_of text = do
  low ← port_of text
  after_colon ← after_colon_of (after_blanks low.rest)
  high ← port_of after_colon
  range_of low.value high.value high.rest

-- the numbers of a text cut in two, each of at most so much
abbrev pub pair_of_cut : ℕ → Option (List ℕ × List ℕ) → Option (ℕ × ℕ)
pair_of_cut greatest None = None
pair_of_cut greatest (Some cut) =
    option_and_then (λ first. option_map (λ second. (first, second)) (whole_number greatest cut.1))
    (whole_number greatest cut.0)

-- the two numbers around the `/` of a word
abbrev pub pair_of : ℕ → List ℕ → Option (ℕ × ℕ)
pair_of greatest word = pair_of_cut greatest (cut_at slash word)

-- a protocol number and the bits of it that count
abbrev pub protocol_of : List ℕ → Result FieldValue LineKind
protocol_of word =
    ok_or (option_map (λ (pair : ℕ × ℕ). Bitmask pair.0 pair.1) (pair_of max_protocol word))
    BadProtocol

-- a word with `/` and without `=` holds flags
abbrev pub holds_flags : List ℕ → Bool
holds_flags word = list_any (λ c. c == slash) word && not (list_any (λ c. c == equals_sign) word)

-- The words after the flags: the first word is left out where it holds flags, which are ignored in
-- matching.
abbrev pub after_flags : List (List ℕ) → Result (List (List ℕ)) LineKind
after_flags [] = Ok []
after_flags (word ∷ words) =
    if holds_flags word
    then (if is_some (pair_of max_flags word) then Ok words else Err BadFlags)
    else Ok (word ∷ words)

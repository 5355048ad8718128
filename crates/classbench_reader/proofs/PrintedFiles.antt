-- A printed line alone, read back as a file.
use Rattle.std.proofs.Common.{◌≡◌, ℕ, Bool, ◌^◌, ◌<◌, ◌≤◌, true, false, not, ◌&&◌, eqb, nat_lt, List, [], ◌∷◌, ◌++◌}
use Rattle.std.proofs.Common.{length, drop, Ok, pos, refl, sym, ap, subst, ◌∙◌, arith, length-append}
use Rattle.std.specs.Prelude.{codes}
use Rattle.std.proofs.lemmas.Bool.{and_parts, le-ltb}
use Rattle.std.specs.Char.{is_digit}
use Rattle.std.specs.Fmt.{decimal}
use Rattle.std.specs.List.{list_all}
use Rattle.field_defs.specs.declared.field.Family.{Family}
use Rattle.field_defs.specs.declared.field.Family.TheVariants as family
use Rattle.field_defs.specs.declared.field.FieldValue.TheVariants.{Range, Bitmask}
use Rattle.text_scan.specs.Parts.{slash, tab, line_feed, carriage_return, is_blank, lines_of}
use Rattle.text_scan.proofs.Offered.{ends_no_line, lines_of-one, length-ip4_spelling-le, length-ip6_spelling-le}
use Rattle.text_scan.proofs.Offered.{after_blanks-other}
use Rattle.classbench_reader.specs.declared.network.Address.{Address}
use Rattle.classbench_reader.specs.declared.network.Address.TheVariants.{Ip4, Ip6}
use Rattle.classbench_reader.specs.declared.network.Network.{Network}
use Rattle.classbench_reader.specs.declared.line.RuleLine.{RuleLine}
use Rattle.classbench_reader.specs.Limits.{max_rule_file}
use Rattle.classbench_reader.specs.Network.{IsLawfulNetwork}
use Rattle.classbench_reader.specs.Line.{is_skipped, is_comment, rule_of, family_of_line}
use Rattle.classbench_reader.specs.RuleFile.{numbered_from, rule_lines_from, by_family, rule_file_of}
use Rattle.classbench_reader.specs.Lawful.{IsLawfulLine}
use Rattle.classbench_reader.specs.Print.{address_text, network_text, ports_text, byte_text, protocol_text, tag_text}
use Rattle.classbench_reader.specs.Print.{line_text, rule_alone}
use Rattle.classbench_reader.proofs.PrintedParts.{is_address_byte, address_text-bytes, reads_back}
use Rattle.classbench_reader.proofs.PrintedLines.{FitsTag, Numbers, Bounds, small_numbers, numbered_tag}
use Rattle.classbench_reader.proofs.PrintedLines.{plain, plain_line, network_small, rule_line_of-text}
use Rattle.list_lemmas.proofs.Tests.{passes_other}
use Rattle.list_lemmas.proofs.Digits.{decimal_all, long_digits}
use Rattle.list_lemmas.proofs.Parts.{length-append-le}
use Rattle.list_lemmas.proofs.Elements.{list_all_both, list_all_weaker}

-- no byte of a printed part ends a line
no_end : (p : ℕ → Bool) → p line_feed ≡ false → p carriage_return ≡ false → (c : ℕ) → p c ≡ true → ends_no_line c ≡ true
no_end p no_feed no_return c passes =
    rw (passes_other p c line_feed no_feed passes, passes_other p c carriage_return no_return passes) refl

-- no byte of a number in decimal ends a line
decimal_bytes : (n : ℕ) → n < 2 ^ 64 → list_all ends_no_line (decimal n) ≡ true
decimal_bytes n small = decimal_all ends_no_line (no_end (λ c. is_digit c 10) refl refl) n small

-- no byte of a printed network ends a line
network_bytes : (network : Network) → network.bits < 2 ^ 64 → list_all ends_no_line (network_text network) ≡ true
network_bytes network small =
    let address = address_text network.address in
    list_all_both ends_no_line address (slash ∷ decimal network.bits)
    (list_all_weaker is_address_byte ends_no_line address (no_end is_address_byte refl refl)
    (address_text-bytes network.address))
    (decimal_bytes network.bits small)

-- no byte of printed ports ends a line
ports_bytes : (low high : ℕ) → low ≤ high → high ≤ 65535 → list_all ends_no_line (ports_text (Range low high)) ≡ true
ports_bytes low high filled within =
    list_all_both ends_no_line (decimal low) (codes " : " ++ decimal high) (decimal_bytes low (omega arith))
    (decimal_bytes high (omega arith))

-- no byte of a byte in hexadecimal ends a line
byte_bytes : (byte : ℕ) → byte < 256 → list_all ends_no_line (byte_text byte) ≡ true
byte_bytes byte small =
    list_all_weaker (λ c. not (is_blank c) && (not (eqb c slash) && ends_no_line c)) ends_no_line (byte_text byte)
    (λ c passes. (and_parts (not (eqb c slash)) _ (and_parts (not (is_blank c)) _ passes).1).1)
    (reads_back byte small).bytes

-- no byte of a printed protocol ends a line
protocol_bytes : (value mask : ℕ) → value < 256 → mask < 256
    → list_all ends_no_line (protocol_text (Bitmask value mask)) ≡ true
protocol_bytes value mask small masked =
    list_all_both ends_no_line (byte_text value) (slash ∷ byte_text mask) (byte_bytes value small)
    (byte_bytes mask masked)

-- no byte of a printed tag ends a line
tag_bytes : (p c u : ℕ) → p < 2 ^ 64 → c < 2 ^ 64 → u < 2 ^ 64
    → list_all ends_no_line (tag_text (record { category_mask = c; priority = pos p; userdata = u })) ≡ true
tag_bytes p c u small_p small_c small_u =
    list_all_both ends_no_line (decimal p) (codes " cat=" ++ (decimal c ++ (codes " data=" ++ decimal u)))
    (decimal_bytes p small_p)
    (list_all_both ends_no_line (decimal c) (codes " data=" ++ decimal u) (decimal_bytes c small_c)
    (decimal_bytes u small_u))

-- and so none of a printed line does
plain_bytes : (from to : Network) (n : Numbers) → IsLawfulNetwork from → IsLawfulNetwork to → Bounds n
    → list_all ends_no_line (line_text (plain_line from to n)) ≡ true
plain_bytes from to n lawful_from lawful_to bounds =
    let small = small_numbers n bounds in
    let its_tag = numbered_tag n in
    let seventh : List ℕ = tab ∷ tag_text its_tag in
    let sixth : List ℕ = tab ∷ (protocol_text (Bitmask n.value n.mask) ++ seventh) in
    let fifth : List ℕ = tab ∷ (ports_text (Range n.other_low n.other_high) ++ sixth) in
    let fourth : List ℕ = tab ∷ (ports_text (Range n.low n.high) ++ fifth) in
    let third : List ℕ = tab ∷ (network_text to ++ fourth) in
    list_all_both ends_no_line (network_text from) third (network_bytes from (network_small from lawful_from))
    (list_all_both ends_no_line (network_text to) fourth (network_bytes to (network_small to lawful_to))
    (list_all_both ends_no_line (ports_text (Range n.low n.high)) fifth
    (ports_bytes n.low n.high bounds.filled bounds.within)
    (list_all_both ends_no_line (ports_text (Range n.other_low n.other_high)) sixth
    (ports_bytes n.other_low n.other_high bounds.other_filled bounds.other_within)
    (list_all_both ends_no_line (protocol_text (Bitmask n.value n.mask)) seventh
    (protocol_bytes n.value n.mask bounds.small bounds.masked)
    (tag_bytes n.priority n.categories n.userdata small.0 small.1 small.2)))))

-- a printed address has at most 39 bytes
address_short : (address : Address) → length (address_text address) ≤ 39
address_short (Ip4 address) = omega (arith, length-ip4_spelling-le address)
address_short (Ip6 address) = length-ip6_spelling-le address

-- a printed network has at most 60 bytes
network_short : (network : Network) → network.bits < 2 ^ 64 → length (network_text network) ≤ 60
network_short network small =
    length-append-le (address_text network.address) (slash ∷ decimal network.bits) 39 21 (address_short network.address)
    (omega (arith, long_digits network.bits small))

-- printed ports have at most 43 bytes
ports_short : (low high : ℕ) → low ≤ high → high ≤ 65535 → length (ports_text (Range low high)) ≤ 43
ports_short low high filled within =
    length-append-le (decimal low) (codes " : " ++ decimal high) 20 23 (long_digits low (omega arith))
    (omega (arith, long_digits high (omega arith)))

-- a printed protocol has at most 9 bytes
protocol_short : (value mask : ℕ) → length (protocol_text (Bitmask value mask)) ≤ 9
protocol_short value mask = length-append-le (byte_text value) (slash ∷ byte_text mask) 4 5 (omega arith) (omega arith)

-- a printed tag has at most 75 bytes
tag_short : (p c u : ℕ) → p < 2 ^ 64 → c < 2 ^ 64 → u < 2 ^ 64
    → length (tag_text (record { category_mask = c; priority = pos p; userdata = u })) ≤ 75
tag_short p c u small_p small_c small_u =
    let userdata : length (codes " data=" ++ decimal u) ≤ 26 = omega (arith, long_digits u small_u) in
    let second = length-append-le (decimal c) (codes " data=" ++ decimal u) 20 26 (long_digits c small_c) userdata in
    let first = length-append-le (decimal p) (codes " cat=" ++ (decimal c ++ (codes " data=" ++ decimal u))) 20 51
    (long_digits p small_p)
    (omega (arith, second)) in
    omega (arith, first)

-- a printed line has at most 296 bytes
plain_short : (from to : Network) (n : Numbers) → IsLawfulNetwork from → IsLawfulNetwork to → Bounds n
    → length (line_text (plain_line from to n)) ≤ 296
plain_short from to n lawful_from lawful_to bounds =
    let its_tag = numbered_tag n in
    let seventh : List ℕ = tab ∷ tag_text its_tag in
    let sixth : List ℕ = tab ∷ (protocol_text (Bitmask n.value n.mask) ++ seventh) in
    let fifth : List ℕ = tab ∷ (ports_text (Range n.other_low n.other_high) ++ sixth) in
    let fourth : List ℕ = tab ∷ (ports_text (Range n.low n.high) ++ fifth) in
    let third : List ℕ = tab ∷ (network_text to ++ fourth) in
    let small = small_numbers n bounds in
    let tags = tag_short n.priority n.categories n.userdata small.0 small.1 small.2 in
    let e = length-append-le (protocol_text (Bitmask n.value n.mask)) seventh 9 76 (protocol_short n.value n.mask)
    (omega (arith, tags)) in
    let d = length-append-le (ports_text (Range n.other_low n.other_high)) sixth 43 86
    (ports_short n.other_low n.other_high bounds.other_filled bounds.other_within) (omega (arith, e)) in
    let b = length-append-le (ports_text (Range n.low n.high)) fifth 43 130
    (ports_short n.low n.high bounds.filled bounds.within)
    (omega (arith, d)) in
    let a = length-append-le (network_text to) fourth 60 174 (network_short to (network_small to lawful_to))
    (omega (arith, b)) in
    let all = length-append-le (network_text from) third 60 235 (network_short from (network_small from lawful_from))
    (omega (arith, a)) in
    omega (arith, all)

-- what holds of the text of a lawful line
pub record IsTextOfLine (line : RuleLine) : Type 0 where
  pub bytes : list_all ends_no_line (line_text line) ≡ true
  pub short : length (line_text line) ≤ 296

-- no byte of a lawful line's text ends a line, and it has at most 296 bytes
pub text_of_line : (line : RuleLine) → IsLawfulLine line → FitsTag line.tag → IsTextOfLine line
text_of_line line lawful fits =
    let it = plain line lawful fits in
    subst IsTextOfLine (sym it.is) (record {
      bytes = plain_bytes line.source line.destination it.numbers lawful.source_network lawful.destination_network
          it.bounds;
      short = plain_short line.source line.destination it.numbers lawful.source_network lawful.destination_network
          it.bounds;
    })

-- one line of its own is the file's only rule
alone : (line : RuleLine) (its : Family) → family_of_line line ≡ its
    → by_family (Ok (line ∷ [])) ≡ Ok (rule_alone its (rule_of line))
alone line family.Ip4 is = rw is refl
alone line family.Ip6 is = rw is refl

-- a printed line, ended by LF, is a file of one rule
pub rule_file_of-text : (line : RuleLine) → IsLawfulLine line → FitsTag line.tag
    → rule_file_of (line_text line ++ line_feed ∷ []) ≡ Ok (rule_alone (family_of_line line) (rule_of line))
rule_file_of-text line lawful fits =
    let text = line_text line in
    let it = text_of_line line lawful fits in
    let kept : is_skipped text ≡ false = ap is_comment (after_blanks-other 64 (drop 1 text) refl) in
    let lines : lines_of (text ++ line_feed ∷ []) ≡ text ∷ [] = lines_of-one text it.bytes in
    let numbered : numbered_from 1 (text ∷ []) ≡ (1, text) ∷ [] = rw kept refl in
    let said : rule_lines_from 1 (numbered_from 1 (lines_of (text ++ line_feed ∷ []))) ≡ Ok (line ∷ []) =
    ap (λ ls. rule_lines_from 1 (numbered_from 1 ls)) lines ∙ ap (rule_lines_from 1) numbered
    ∙ rw (rule_line_of-text 1 line lawful fits) refl in
    let small : nat_lt max_rule_file (length (text ++ line_feed ∷ [])) ≡ false =
    le-ltb max_rule_file _ (omega (arith, it.short, length-append text (line_feed ∷ []))) in
    rw (small, said) (alone line (family_of_line line) refl)

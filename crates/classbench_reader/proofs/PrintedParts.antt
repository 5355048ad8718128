-- The printed parts of a line, read back one by one.
use Rattle.std.proofs.Common.{◌≡◌, ℕ, ◌^◌, ◌<◌, ◌≤◌, Bool, true, false, not, ◌&&◌, ◌||◌, eqb, List, [], ◌∷◌, ◌++◌}
use Rattle.std.proofs.Common.{length, drop, Some, Ok, refl, sym, ap, ◌∙◌, arith, append_assoc, ⊎_elim, Result, Err}
use Rattle.std.proofs.Common.{if◌then◌else◌, zero-add, length-append}
use Rattle.std.specs.Prelude.{unwrap_or, Option}
use Rattle.std.specs.Option.{ok_or, option_map}
use Rattle.std.proofs.lemmas.List.FromFn.{get_or-range_with_len}
use Rattle.std.proofs.lemmas.Bool.{and_from, and_parts, cond-true, le-leb, eqb-true, or_left, or_right, or_cases}
use Rattle.std.proofs.lemmas.List.Folds.{list_all-append}
use Rattle.std.proofs.lemmas.List.Sums.{AllPass-from_list_all}
use Rattle.std.specs.Char.{is_digit}
use Rattle.std.specs.Fmt.{decimal}
use Rattle.std.specs.List.{list_all, range_with_len}
use Rattle.field_defs.specs.declared.field.FieldValue.{FieldValue}
use Rattle.field_defs.specs.declared.field.FieldValue.TheVariants.{Range, Bitmask}
use Rattle.text_scan.specs.Parts.{colon, dot, slash, tab, space, line_feed, is_blank, after_blanks}
use Rattle.text_scan.specs.Numeral.{whole_number, begins_numeral, numeral_len, numeral_value}
use Rattle.text_scan.specs.Ip4Text.{ip4_spelling}
use Rattle.text_scan.specs.Ip6Text.{ip6_spelling}
use Rattle.text_scan.proofs.Offered.{is_ip4_byte, is_ip6_byte, ip4_spelling-bytes, ip6_spelling-bytes}
use Rattle.text_scan.proofs.Offered.{ip6_spelling-colon, cut_at-append, ends_no_line, decimal_spelled, EndsNumber}
use Rattle.text_scan.proofs.Offered.{spelled_begins, whole_number-spelled, ip4_of-ip4_spelling, ip6_of-ip6_spelling}
use Rattle.text_scan.proofs.Offered.{IsWord, after_blanks-blank, after_blanks-word}
use Rattle.classbench_reader.specs.declared.network.Address.{Address}
use Rattle.classbench_reader.specs.declared.network.Address.TheVariants.{Ip4, Ip6}
use Rattle.classbench_reader.specs.declared.network.Network.{Network}
use Rattle.classbench_reader.specs.declared.rules_fault.LineKind.{LineKind}
use Rattle.classbench_reader.specs.declared.rules_fault.LineKind.TheVariants.{BadPorts, BadProtocol}
use Rattle.classbench_reader.specs.Limits.{max_port, max_protocol}
use Rattle.classbench_reader.specs.LineReading.{◌>>=◌, Read, read_of}
use Rattle.classbench_reader.specs.Network.{address_of, most_bits, network_of, network_of_cut, address_number}
use Rattle.classbench_reader.specs.Network.{IsLawfulNetwork}
use Rattle.classbench_reader.specs.Columns.{port_of, after_colon_of, range_of, ports_of, pair_of_cut, protocol_of}
use Rattle.classbench_reader.specs.Print.{address_text, network_text, ports_text, byte_text, protocol_text}
use Rattle.list_lemmas.proofs.Tests.{passes_other}
use Rattle.list_lemmas.proofs.Digits.{digit_16, decimal_all}
use Rattle.list_lemmas.proofs.Elements.{list_all_weaker, list_all_both, list_all-lacks, list_any-lacks}
use Rattle.list_lemmas.proofs.Options.{some_below}

-- the bytes of an address text are no blanks and no `/`
abbrev pub is_address_byte : ℕ → Bool
is_address_byte c = is_digit c 16 || (eqb c dot || eqb c colon)

-- a byte of an IPv4 address is a byte of an address text
ip4_to_address : (c : ℕ) → is_ip4_byte c ≡ true → is_address_byte c ≡ true
ip4_to_address c passes =
    ⊎_elim (λ digit. or_left (is_digit c 16) _ (digit_16 c digit))
    (λ separator. or_right (is_digit c 16) _ (or_left (eqb c dot) (eqb c colon) separator))
    (or_cases (is_digit c 10) (eqb c dot) passes)

-- a byte of an IPv6 address is a byte of an address text
ip6_to_address : (c : ℕ) → is_ip6_byte c ≡ true → is_address_byte c ≡ true
ip6_to_address c passes =
    ⊎_elim (λ digit. or_left (is_digit c 16) _ digit)
    (λ separator. or_right (is_digit c 16) _ (or_right (eqb c dot) (eqb c colon) separator))
    (or_cases (is_digit c 16) (eqb c colon) passes)

-- so it is no blank
no_blank : (p : ℕ → Bool) → p space ≡ false → p tab ≡ false → (c : ℕ) → p c ≡ true → not (is_blank c) ≡ true
no_blank p no_space no_tab c passes =
    rw (passes_other p c space no_space passes, passes_other p c tab no_tab passes) refl

-- the text of an address has only such bytes
pub address_text-bytes : (address : Address) → list_all is_address_byte (address_text address) ≡ true
address_text-bytes (Ip4 address) =
    list_all_weaker is_ip4_byte is_address_byte (ip4_spelling address) ip4_to_address (ip4_spelling-bytes address)
address_text-bytes (Ip6 address) =
    list_all_weaker is_ip6_byte is_address_byte (ip6_spelling address) ip6_to_address (ip6_spelling-bytes address)

-- a network's text is a word
pub decimal_word : (n : ℕ) → n < 2 ^ 64 → IsWord (decimal n)
decimal_word n small = decimal_all (λ c. not (is_blank c)) (no_blank (λ c. is_digit c 10) refl refl) n small

-- the text of a network is a word
pub network_text-word : (network : Network) → network.bits < 2 ^ 64 → IsWord (network_text network)
network_text-word network small =
    let word : ℕ → Bool = λ c. not (is_blank c) in
    let address = address_text network.address in
    let first = list_all_weaker is_address_byte word address (no_blank is_address_byte refl refl)
    (address_text-bytes network.address) in
    list_all-append word address (slash ∷ decimal network.bits)
    ∙ and_from (list_all word address) _ first (decimal_word network.bits small)

-- it has a byte
pub network_text-some : (network : Network) → 0 < length (network_text network)
network_text-some network = omega (arith, length-append (address_text network.address) (slash ∷ decimal network.bits))

-- it is read as the network
address_of-text : (address : Address) → address_number address < 2 ^ most_bits address
    → address_of (address_text address) ≡ Some address
address_of-text (Ip4 address) fits =
    let none = list_any-lacks is_ip4_byte colon refl (ip4_spelling address) (ip4_spelling-bytes address) in
    rw (none, ip4_of-ip4_spelling address fits) refl
address_of-text (Ip6 address) fits = rw (ip6_spelling-colon address, ip6_of-ip6_spelling address fits) refl

-- an address has at most 128 bits
pub most_bits-small : (address : Address) → most_bits address ≤ 128
most_bits-small (Ip4 address) = omega arith
most_bits-small (Ip6 address) = omega arith

-- the text of a lawful network is read as the network
pub network_of-text : (network : Network) → IsLawfulNetwork network → network_of (network_text network) ≡ Ok network
network_of-text network lawful =
    let lacks = list_all-lacks is_address_byte slash refl (address_text network.address)
    (address_text-bytes network.address) in
    let cut = cut_at-append slash (address_text network.address) (decimal network.bits) lacks in
    let address = address_of-text network.address lawful.fits in
    let small : network.bits < 2 ^ 64 = omega (arith, lawful.within, most_bits-small network.address) in
    let bits = whole_number-spelled (most_bits network.address) network.bits (decimal network.bits)
    (decimal_spelled network.bits small) lawful.within in
    ap (network_of_cut (network_text network)) cut ∙ rw (address, bits) refl

-- a port, after a blank, before something that ends it
abbrev pub port_at : List ℕ → Result (Read ℕ) LineKind
port_at rest =
    if begins_numeral max_port rest then Ok
    (read_of (numeral_value rest) (drop (numeral_len rest) rest)) else Err BadPorts

-- a port in decimal after a blank is read as the port
port_of-text : (c port : ℕ) (rest : List ℕ) → is_blank c ≡ true → port ≤ max_port → EndsNumber 10 rest
    → port_of (c ∷ (decimal port ++ rest)) ≡ Ok (read_of port rest)
port_of-text c port rest blank within ends =
    let spelled = decimal_spelled port (omega arith) in
    let begins = spelled_begins port (decimal port) rest spelled ends in
    let blanks : after_blanks (c ∷ (decimal port ++ rest)) ≡ decimal port ++ rest =
    after_blanks-blank c (decimal port ++ rest) blank
    ∙ after_blanks-word (decimal port) rest (decimal_word port (omega arith)) spelled.some in
    ap port_at blanks
    ∙ cond-true (begins_numeral max_port (decimal port ++ rest)) _ _ (begins.begins max_port within)
    ∙ λ i. Ok (read_of (begins.value i) (begins.after i))

-- what a blank begins ends a number
ends_at_tab : (rest : List ℕ) → EndsNumber 10 (tab ∷ rest)
ends_at_tab rest = (refl, (λ same. omega arith, λ same. omega arith))

-- a space ends a number
ends_at_space : (rest : List ℕ) → EndsNumber 10 (space ∷ rest)
ends_at_space rest = (refl, (λ same. omega arith, λ same. omega arith))

-- what follows a value that was read
pub bind : {A B K : Type 0} (read : Result A K) (value : A) (next : A → Result B K) → read ≡ Ok value
    → (read >>= next) ≡ next value
bind read value next is = ap (λ r. r >>= next) is

-- the two ports of a range
abbrev pub after_high : ℕ → Read ℕ → Result (Read FieldValue) LineKind
after_high low high = range_of low high.value high.rest

-- what is read of a range after its colon
abbrev pub after_colon : ℕ → List ℕ → Result (Read FieldValue) LineKind
after_colon low text = port_of text >>= after_high low

-- what is read of a range after its first port
abbrev pub after_low : Read ℕ → Result (Read FieldValue) LineKind
after_low low = after_colon_of (after_blanks low.rest) >>= after_colon low.value

-- two ports in order, before a tab, are a range
range_of-text : (low high : ℕ) (rest : List ℕ) → low ≤ high
    → range_of low high (tab ∷ rest) ≡ Ok (read_of (Range low high) (tab ∷ rest))
range_of-text low high rest filled = rw (le-leb low high filled) refl

-- the text of a range between tabs is read as the range
pub ports_of-text : (low high : ℕ) (rest : List ℕ) → low ≤ high → high ≤ max_port
    → ports_of (tab ∷ (ports_text (Range low high) ++ tab ∷ rest)) ≡ Ok (read_of (Range low high) (tab ∷ rest))
ports_of-text low high rest filled within =
    let second : List ℕ = space ∷ (decimal high ++ tab ∷ rest) in
    let whole : ports_text (Range low high) ++ tab ∷ rest ≡ decimal low ++ space ∷ colon ∷ second =
    append_assoc (decimal low) (space ∷ colon ∷ space ∷ decimal high) (tab ∷ rest) in
    let first = port_of-text tab low (space ∷ colon ∷ second) refl (omega arith) (ends_at_space (colon ∷ second)) in
    let after : after_colon_of (after_blanks (space ∷ colon ∷ second)) ≡ Ok second = refl in
    ap (λ text. ports_of (tab ∷ text)) whole
    ∙ bind (port_of (tab ∷ (decimal low ++ space ∷ colon ∷ second)))
    (read_of low (space ∷ colon ∷ second)) after_low first
    ∙ bind (after_colon_of (after_blanks (space ∷ colon ∷ second))) second (after_colon low) after
    ∙ bind (port_of second) (read_of high (tab ∷ rest)) (after_high low)
    (port_of-text space high (tab ∷ rest) refl within (ends_at_tab rest))
    ∙ range_of-text low high rest filled

-- each byte, written in hexadecimal, reads back and is a word without `/`: all 256 are tried
abbrev byte_reads_back : ℕ → Bool
byte_reads_back byte =
    eqb (unwrap_or (whole_number max_protocol (byte_text byte)) 256) byte
    && list_all (λ c. not (is_blank c) && (not (eqb c slash) && ends_no_line c)) (byte_text byte)

-- each of the 256 bytes reads back
all_bytes_read_back : list_all byte_reads_back (range_with_len 0 256) ≡ true
all_bytes_read_back = refl

-- the byte in hexadecimal is read as the byte, and has no blank, no `/` and no end of a line
pub record ReadsBack (byte : ℕ) : Type 0 where
  pub number : whole_number max_protocol (byte_text byte) ≡ Some byte
  pub bytes : list_all (λ c. not (is_blank c) && (not (eqb c slash) && ends_no_line c)) (byte_text byte) ≡ true

-- each byte reads back
pub reads_back : (byte : ℕ) → byte < 256 → ReadsBack byte
reads_back byte small =
    let at = AllPass-from_list_all byte_reads_back (range_with_len 0 256) all_bytes_read_back byte 0 small in
    let here : byte_reads_back byte ≡ true =
    ap byte_reads_back (sym (get_or-range_with_len 0 256 byte 0 small ∙ zero-add byte)) ∙ at in
    let parts = and_parts (eqb (unwrap_or (whole_number max_protocol (byte_text byte)) 256) byte) _ here in
    record { number = some_below _ 256 byte (eqb-true _ _ parts.0) small; bytes = parts.1 }

-- a protocol is a word, and is read as the protocol
pub protocol_text-word : (value mask : ℕ) → value < 256 → mask < 256 → IsWord (protocol_text (Bitmask value mask))
protocol_text-word value mask small masked =
    let word : ℕ → Bool = λ c. not (is_blank c) in
    let weaker = λ (text : List ℕ). list_all_weaker
    (λ c. not (is_blank c) && (not (eqb c slash) && ends_no_line c)) word text
    (λ c passes. (and_parts (not (is_blank c)) _ passes).0) in
    list_all_both word (byte_text value) (slash ∷ byte_text mask)
    (weaker (byte_text value) (reads_back value small).bytes)
    (weaker (byte_text mask) (reads_back mask masked).bytes)

-- the protocol of a text that was cut at its `/`
abbrev protocol_at : Option (List ℕ × List ℕ) → Result FieldValue LineKind
protocol_at cut =
    ok_or (option_map (λ (pair : ℕ × ℕ). Bitmask pair.0 pair.1) (pair_of_cut max_protocol cut)) BadProtocol

-- the text of a protocol is read as the protocol
pub protocol_of-text : (value mask : ℕ) → value < 256 → mask < 256
    → protocol_of (protocol_text (Bitmask value mask)) ≡ Ok (Bitmask value mask)
protocol_of-text value mask small masked =
    let lacks = list_all_weaker (λ c. not (is_blank c) && (not (eqb c slash) && ends_no_line c))
    (λ c. not (eqb c slash)) (byte_text value)
    (λ c passes. (and_parts (not (eqb c slash)) _ (and_parts (not (is_blank c)) _ passes).1).0)
    (reads_back value small).bytes in
    let cut = cut_at-append slash (byte_text value) (byte_text mask) lacks in
    ap protocol_at cut ∙ rw ((reads_back value small).number, (reads_back mask masked).number) refl

-- the networks of a line, written piece by piece after a text
pub networks_joined : (old from to : List ℕ)
    → (((old ++ 64 ∷ []) ++ from) ++ tab ∷ []) ++ to ≡ old ++ 64 ∷ (from ++ tab ∷ to)
networks_joined old from to = simp append_assoc

-- and its columns
pub columns_joined : (old ports others proto its_tag : List ℕ)
    → (((((((old ++ tab ∷ []) ++ ports) ++ tab ∷ []) ++ others) ++ tab ∷ []) ++ proto) ++ tab ∷ []) ++ its_tag
    ≡ old ++ tab ∷ (ports ++ tab ∷ (others ++ tab ∷ (proto ++ tab ∷ its_tag)))
columns_joined old ports others proto its_tag = simp append_assoc

-- both and the end of the line
pub line_joined : (from to columns : List ℕ)
    → (([] ++ 64 ∷ (from ++ tab ∷ to)) ++ tab ∷ columns) ++ line_feed ∷ []
    ≡ (64 ∷ (from ++ tab ∷ (to ++ tab ∷ columns))) ++ line_feed ∷ []
line_joined from to columns =
    ap (λ text. 64 ∷ (text ++ line_feed ∷ [])) (append_assoc from (tab ∷ to) (tab ∷ columns))

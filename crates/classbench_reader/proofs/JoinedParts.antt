-- Parts that are joined into a line, read from left to right.
use Rattle.std.proofs.Common.{◌≡◌, ℕ, ◌<◌, ◌≤◌, true, false, eqb, List, [], ◌∷◌, ◌++◌, length, Some, Ok, refl, sym, ap}
use Rattle.std.proofs.Common.{subst, ◌∙◌, arith, append_assoc, inl, inr, ◌⊎◌, ⊎_elim}
use Rattle.std.proofs.lemmas.Bool.{and_parts, cases_Bool, cond-true, eqb-true, le-leb, or_cases}
use Rattle.std.specs.Char.{is_digit}
use Rattle.field_defs.specs.declared.field.FieldValue.{FieldValue}
use Rattle.field_defs.specs.declared.field.FieldValue.TheVariants.{Range}
use Rattle.text_scan.specs.Parts.{colon, space, tab, is_blank, after_blanks, first_word, after_word, words_of}
use Rattle.text_scan.specs.Numeral.{whole_number, begins_numeral}
use Rattle.text_scan.proofs.Offered.{EndsNumber, whole_stands, whole_within, IsWord, EndsWord, after_blanks-blank}
use Rattle.text_scan.proofs.Offered.{after_blanks-other, after_blanks-word, first_word-append, after_word-append}
use Rattle.classbench_reader.specs.declared.network.Network.{Network}
use Rattle.classbench_reader.specs.Limits.{max_port}
use Rattle.classbench_reader.specs.LineReading.{read_of}
use Rattle.classbench_reader.specs.Network.{network_of}
use Rattle.classbench_reader.specs.Columns.{port_of, after_colon_of, range_of, ports_of, protocol_of, after_flags}
use Rattle.classbench_reader.specs.Attributes.{attributes_of, tag_of}
use Rattle.classbench_reader.specs.Line.{after_at_sign, next_network, beside_source, next_protocol}
use Rattle.classbench_reader.specs.Joined.{IsBlanks, IsGap, PortTexts, port_text, SpellsRange, EndsTheWord}
use Rattle.classbench_reader.specs.Joined.{JoinedPartsAreRead}
use Rattle.classbench_reader.proofs.PrintedParts.{bind, port_at, after_high, after_colon, after_low}
use Rattle.classbench_reader.proofs.PrintedLines.{NextWord, made, with_attributes, with_words, with_protocol}
use Rattle.classbench_reader.proofs.PrintedLines.{with_others, with_ports, with_destination, with_another, with_source}
use Rattle.classbench_reader.proofs.PrintedLines.{with_text}

-- blanks are passed over
gap_passed : (gap rest : List ℕ) → IsBlanks gap → after_blanks (gap ++ rest) ≡ after_blanks rest
gap_passed [] rest blanks = refl
gap_passed (c ∷ gap) rest blanks =
    let parts = and_parts (is_blank c) _ blanks in
    after_blanks-blank c (gap ++ rest) parts.0 ∙ gap_passed gap rest parts.1

-- what a gap begins ends a word, and a number
gap_ends : (gap rest : List ℕ) → IsGap gap → EndsWord (gap ++ rest)
gap_ends [] rest gap = absurd (omega (arith, gap.some))
gap_ends (c ∷ cs) rest gap = (and_parts (is_blank c) _ gap.blanks).0

-- a blank is a space or a tab
is_space_or_tab : (c : ℕ) → is_blank c ≡ true → (c ≡ space) ⊎ (c ≡ tab)
is_space_or_tab c blank =
    ⊎_elim (λ one. inl (eqb-true c space one)) (λ other. inr (eqb-true c tab other))
    (or_cases (eqb c space) (eqb c tab) blank)

-- the byte is no hexadecimal digit and no `x`
abbrev EndsAt : ℕ → Type 0
EndsAt c = (is_digit c 16 ≡ false) × ((c ≡ 120 → ⊥) × (c ≡ 88 → ⊥))

-- a blank is no hexadecimal digit and no `x`
ends_at_blank : (c : ℕ) → is_blank c ≡ true → EndsAt c
ends_at_blank c blank =
    ⊎_elim (λ is. subst EndsAt (sym is) (refl, (λ same. omega arith, λ same. omega arith)))
    (λ is. subst EndsAt (sym is) (refl, (λ same. omega arith, λ same. omega arith))) (is_space_or_tab c blank)

-- what ends a word ends a number in hexadecimal
ends_either : (rest : List ℕ) → EndsWord rest → EndsNumber 16 rest
ends_either [] ends = tt
ends_either (c ∷ rest) ends = ends_at_blank c ends

-- a number ends at the blanks before a colon, or at the colon
blanks_end : (gap rest : List ℕ) → IsBlanks gap → EndsNumber 16 (gap ++ colon ∷ rest)
blanks_end [] rest blanks = (refl, (λ same. omega arith, λ same. omega arith))
blanks_end (c ∷ gap) rest blanks = ends_at_blank c (and_parts (is_blank c) _ blanks).0

-- a word after a gap
word_after_gap : (gap word rest : List ℕ) → IsBlanks gap → IsWord word → 0 < length word → EndsWord rest
    → NextWord (gap ++ (word ++ rest)) word rest
word_after_gap gap word rest blanks is some ends =
    let passed = gap_passed gap (word ++ rest) blanks ∙ after_blanks-word word rest is some in
    record {
      first = ap first_word passed ∙ first_word-append word rest is ends;
      after = ap after_word passed ∙ after_word-append word rest is ends;
    }

-- a word that is read has a byte
network_some : (word : List ℕ) (network : Network) → network_of word ≡ Ok network → 0 < length word
network_some [] network read = absurd (cc)
network_some (c ∷ cs) network read = omega arith

-- a word that is a protocol has a byte
protocol_some : (word : List ℕ) (value : FieldValue) → protocol_of word ≡ Ok value → 0 < length word
protocol_some [] value read = absurd (cc)
protocol_some (c ∷ cs) value read = omega arith

-- a word that spells a network is read as the network
network_at : (text word rest : List ℕ) (network : Network) → NextWord text word rest → network_of word ≡ Ok network
    → next_network text ≡ Ok (read_of network rest)
network_at text word rest network next read =
    bind (network_of (first_word (after_blanks text))) network (λ n. Ok (read_of n (after_word (after_blanks text))))
    (ap network_of next.first ∙ read)
    ∙ ap (λ r. Ok (read_of network r)) next.after

-- a word that spells a protocol is read as the protocol
protocol_at_word : (text word rest : List ℕ) (value : FieldValue) → NextWord text word rest
    → protocol_of word ≡ Ok value
    → next_protocol text ≡ Ok (read_of value rest)
protocol_at_word text word rest value next read =
    bind (protocol_of (first_word (after_blanks text))) value
    (λ (v : FieldValue). Ok (read_of v (after_word (after_blanks text)))) (ap protocol_of next.first ∙ read)
    ∙ ap (λ r. Ok (read_of value r)) next.after

-- a number begins with no blank
at_space : (greatest n : ℕ) (cs : List ℕ) → whole_number greatest (space ∷ cs) ≡ Some n → ⊥
at_space greatest n cs is = cc

-- no number begins with a tab
at_tab : (greatest n : ℕ) (cs : List ℕ) → whole_number greatest (tab ∷ cs) ≡ Some n → ⊥
at_tab greatest n cs is = cc

-- the first byte of a number is no blank
number_first : (greatest n c : ℕ) (cs : List ℕ) → whole_number greatest (c ∷ cs) ≡ Some n → is_blank c ≡ false
number_first greatest n c cs is =
    elim (cases_Bool (is_blank c)) [
      | inl blank ↦ absurd (
          ⊎_elim (λ one. at_space greatest n cs (ap (λ d. whole_number greatest (d ∷ cs)) (sym one) ∙ is))
          (λ other. at_tab greatest n cs (ap (λ d. whole_number greatest (d ∷ cs)) (sym other) ∙ is))
          (is_space_or_tab c blank))
      | inr other ↦ other
    ]

-- a text without a byte is no number
none_at_all : (greatest n : ℕ) → whole_number greatest [] ≡ Some n → ⊥
none_at_all greatest n is = cc

-- what follows a word, as a line says it, ends the word
ends_word : (text : List ℕ) → EndsTheWord text → EndsWord text
ends_word [] ends = tt
ends_word (c ∷ cs) ends = ends

-- a number is what comes after the blanks of a gap
number_after_gap : (greatest n : ℕ) (gap text rest : List ℕ) → IsBlanks gap → whole_number greatest text ≡ Some n
    → after_blanks (gap ++ (text ++ rest)) ≡ text ++ rest
number_after_gap greatest n gap [] rest blanks is = absurd (none_at_all greatest n is)
number_after_gap greatest n gap (c ∷ cs) rest blanks is =
    gap_passed gap (c ∷ (cs ++ rest)) blanks ∙ after_blanks-other c (cs ++ rest) (number_first greatest n c cs is)

-- a port after a gap
port_after_gap : (port : ℕ) (gap text rest : List ℕ) → IsBlanks gap → whole_number max_port text ≡ Some port
    → EndsNumber 16 rest
    → port_of (gap ++ (text ++ rest)) ≡ Ok (read_of port rest)
port_after_gap port gap text rest blanks is ends =
    let begins = whole_stands max_port port text rest is ends in
    ap port_at (number_after_gap max_port port gap text rest blanks is)
    ∙ cond-true (begins_numeral max_port (text ++ rest)) _ _
    (begins.begins max_port (whole_within max_port port text is))
    ∙ λ i. Ok (read_of (begins.value i) (begins.after i))

-- two ports in order are a range if what follows ends a word
range_at : (low high : ℕ) (rest : List ℕ) → EndsWord rest → low ≤ high
    → range_of low high rest ≡ Ok (read_of (Range low high) rest)
range_at low high [] ends filled = rw (le-leb low high filled) refl
range_at low high (c ∷ rest) ends filled = rw (ends, le-leb low high filled) refl

-- two ports after a gap
ports_after_gap : (gap rest : List ℕ) (ports : PortTexts) (value : FieldValue) → IsBlanks gap → SpellsRange ports value
    → EndsWord rest
    → ports_of (gap ++ (port_text ports ++ rest)) ≡ Ok (read_of value rest)
ports_after_gap gap rest ports value blanks spells ends =
    let second : List ℕ = ports.after_colon ++ (ports.high ++ rest) in
    let first : List ℕ = ports.before_colon ++ colon ∷ second in
    let whole : port_text ports ++ rest ≡ ports.low ++ first =
    append_assoc ports.low (ports.before_colon ++ colon ∷ (ports.after_colon ++ ports.high)) rest
    ∙ ap (λ t. ports.low ++ t) (
    append_assoc ports.before_colon (colon ∷ (ports.after_colon ++ ports.high)) rest
    ∙ ap (λ t. ports.before_colon ++ colon ∷ t) (append_assoc ports.after_colon ports.high rest)) in
    let low = port_after_gap spells.low gap ports.low first blanks spells.low_spelled
    (blanks_end ports.before_colon second spells.before) in
    let later : after_colon_of (after_blanks first) ≡ Ok second =
    ap after_colon_of
    (gap_passed ports.before_colon (colon ∷ second) spells.before ∙ after_blanks-other colon second refl) in
    let high = port_after_gap spells.high ports.after_colon ports.high rest spells.after spells.high_spelled
    (ends_either rest ends) in
    ap (λ t. ports_of (gap ++ t)) whole
    ∙ bind (port_of (gap ++ (ports.low ++ first))) (read_of spells.low first) after_low low
    ∙ bind (after_colon_of (after_blanks first)) second (after_colon spells.low) later
    ∙ bind (port_of second) (read_of spells.high rest) (after_high spells.low) high
    ∙ range_at spells.low spells.high rest ends spells.filled
    ∙ ap (λ v. Ok (read_of v rest)) (sym spells.is)

-- the whole line, part by part
pub joined_parts_are_read : JoinedPartsAreRead
joined_parts_are_read ordinal parts line says =
    let ninth : List ℕ = parts.fourth_gap ++ (parts.protocol ++ parts.tail) in
    let seventh : List ℕ = parts.third_gap ++ (port_text parts.destination_ports ++ ninth) in
    let fifth : List ℕ = parts.second_gap ++ (port_text parts.source_ports ++ seventh) in
    let third : List ℕ = parts.first_gap ++ (parts.destination ++ fifth) in
    let first : List ℕ = parts.after_sign ++ (parts.source ++ third) in
    let ports = line.source_ports in
    let others = line.destination_ports in
    let start : after_at_sign (after_blanks (parts.indent ++ 64 ∷ first)) ≡ Ok first =
    ap after_at_sign (gap_passed parts.indent (64 ∷ first) says.indent ∙ after_blanks-other 64 first refl) in
    let source = network_at first parts.source third line.source
    (word_after_gap parts.after_sign parts.source third says.after_sign says.source_word
    (network_some parts.source line.source says.source)
    (gap_ends parts.first_gap (parts.destination ++ fifth) says.first_gap))
    says.source in
    let destination = network_at third parts.destination fifth line.destination
    (word_after_gap parts.first_gap parts.destination fifth says.first_gap.blanks says.destination_word
    (network_some parts.destination line.destination says.destination)
    (gap_ends parts.second_gap (port_text parts.source_ports ++ seventh) says.second_gap)) says.destination in
    let beside : beside_source line.source (read_of line.destination fifth) ≡ Ok (read_of line.destination fifth) =
    rw says.one_family refl in
    let source_ports =
    ports_after_gap parts.second_gap seventh parts.source_ports ports says.second_gap.blanks says.source_ports
    (gap_ends parts.third_gap (port_text parts.destination_ports ++ ninth) says.third_gap) in
    let destination_ports = ports_after_gap parts.third_gap ninth parts.destination_ports others says.third_gap.blanks
    says.destination_ports (gap_ends parts.fourth_gap (parts.protocol ++ parts.tail) says.fourth_gap) in
    let protocol = protocol_at_word ninth parts.protocol parts.tail line.protocol
    (word_after_gap parts.fourth_gap parts.protocol parts.tail says.fourth_gap.blanks says.protocol_word
    (protocol_some parts.protocol line.protocol says.protocol) (ends_word parts.tail says.tail)) says.protocol in
    bind (after_at_sign (after_blanks (parts.indent ++ 64 ∷ first))) first (with_text ordinal) start
    ∙ bind (next_network first) (read_of line.source third) (with_source ordinal) source
    ∙ bind (next_network third) (read_of line.destination fifth) (with_another ordinal line.source) destination
    ∙ bind (beside_source line.source (read_of line.destination fifth)) (read_of line.destination fifth)
    (with_destination ordinal line.source) beside
    ∙ bind (ports_of fifth) (read_of ports seventh) (with_ports ordinal line.source line.destination) source_ports
    ∙ bind (ports_of seventh) (read_of others ninth)
    (with_others ordinal line.source line.destination ports) destination_ports
    ∙ bind (next_protocol ninth) (read_of line.protocol parts.tail)
    (with_protocol ordinal line.source line.destination ports others) protocol
    ∙ bind (after_flags (words_of parts.tail)) says.words
    (with_words ordinal line.source line.destination ports others line.protocol) says.flags
    ∙ bind (attributes_of says.words) says.attributes
    (with_attributes ordinal line.source line.destination ports others line.protocol) says.attributes_read
    ∙ bind (tag_of ordinal says.attributes) line.tag
    (made line.source line.destination ports others line.protocol) says.tag

-- A printed line, read back.
use Rattle.std.proofs.Common.{◌≡◌, ℕ, ◌%◌, ◌^◌, ◌<◌, ◌≤◌, true, not, eqb, nat_lt, ℤ, pos, List, [], ◌∷◌, ◌++◌, length}
use Rattle.std.proofs.Common.{Some, Result, Ok, refl, sym, ap, subst, ◌∙◌, arith, append-nil}
use Rattle.std.specs.Prelude.{codes, bit_and, IsTrue, negsuc}
use Rattle.std.specs.Int.Signed.{le_z}
use Rattle.std.proofs.lemmas.Bool.{and_parts, le-ltb, leb-true, ltb-true, ne_eqb, eq-eqb, false≢true}
use Rattle.std.proofs.lemmas.Nat.{and_mask}
use Rattle.std.specs.Char.{is_digit}
use Rattle.std.specs.Fmt.{decimal}
use Rattle.field_defs.specs.declared.field.FieldKind.{FieldKind}
use Rattle.field_defs.specs.declared.field.FieldKind.TheVariants as kinds
use Rattle.field_defs.specs.FieldBounds.{is_within_size, is_range_filled}
use Rattle.field_defs.specs.declared.field.FieldValue.{FieldValue}
use Rattle.field_defs.specs.declared.field.FieldValue.TheVariants.{Mask, Range, Bitmask}
use Rattle.rule_set.specs.declared.rule.RuleTag.{RuleTag}
use Rattle.rule_set.specs.Limits.{max_priority}
use Rattle.rule_set.specs.Lawful.{IsLawfulTag}
use Rattle.rule_set.proofs.Offered.{some_category}
use Rattle.text_scan.specs.Parts.{slash, tab, space, after_blanks, first_word, after_word, words_of}
use Rattle.text_scan.proofs.Offered.{decimal_spelled, whole_number-spelled, IsWord, EndsWord, after_blanks-blank}
use Rattle.text_scan.proofs.Offered.{after_blanks-other, after_blanks-word, first_word-append, after_word-append}
use Rattle.text_scan.proofs.Offered.{words_of-append, words_of-blank}
use Rattle.classbench_reader.specs.declared.rules_fault.LineKind.{LineKind}
use Rattle.classbench_reader.specs.declared.attributes.Attributes.{Attributes}
use Rattle.classbench_reader.specs.declared.network.Network.{Network}
use Rattle.classbench_reader.specs.declared.line.RuleLine.{RuleLine}
use Rattle.classbench_reader.specs.Limits.{max_written_priority, max_category_mask, max_userdata}
use Rattle.classbench_reader.specs.LineReading.{◌>>=◌, Read, read_of}
use Rattle.classbench_reader.specs.Network.{IsLawfulNetwork, network_of, family_of}
use Rattle.classbench_reader.specs.Columns.{ports_of, protocol_of, after_flags}
use Rattle.classbench_reader.specs.Attributes.{attributes_of, tag_of}
use Rattle.classbench_reader.specs.Line.{after_at_sign, next_network, beside_source, next_protocol, rule_line_of}
use Rattle.classbench_reader.specs.Line.{same_family}
use Rattle.classbench_reader.specs.Lawful.{is_lawful, IsLawfulLine}
use Rattle.classbench_reader.specs.Print.{network_text, ports_text, protocol_text, tag_text, line_text}
use Rattle.classbench_reader.proofs.PrintedParts.{bind, decimal_word, network_text-word, network_of-text, ports_of-text}
use Rattle.classbench_reader.proofs.PrintedParts.{protocol_text-word, protocol_of-text, most_bits-small}
use Rattle.classbench_reader.proofs.PrintedParts.{network_text-some}
use Rattle.list_lemmas.proofs.Elements.{list_any-lacks}

-- the word that stands next in a text, and what follows it
pub record NextWord (text word rest : List ℕ) : Type 0 where
  pub first : first_word (after_blanks text) ≡ word
  pub after : after_word (after_blanks text) ≡ rest

-- a word at the front of a text stands next
next_word : (word rest : List ℕ) → IsWord word → 0 < length word → EndsWord rest → NextWord (word ++ rest) word rest
next_word word rest is some ends =
    let blanks = after_blanks-word word rest is some in
    record {
      first = ap first_word blanks ∙ first_word-append word rest is ends;
      after = ap after_word blanks ∙ after_word-append word rest is ends;
    }

-- and so does a word after a tab
word_after_tab : (word rest : List ℕ) → IsWord word → 0 < length word → EndsWord rest
    → NextWord (tab ∷ (word ++ rest)) word rest
word_after_tab word rest is some ends =
    let blank = after_blanks-blank tab (word ++ rest) refl in
    let next = next_word word rest is some ends in
    record { first = ap first_word blank ∙ next.first; after = ap after_word blank ∙ next.after }

-- a network that stands next
network_next : (text rest : List ℕ) (network : Network) → NextWord text (network_text network) rest
    → IsLawfulNetwork network
    → next_network text ≡ Ok (read_of network rest)
network_next text rest network next lawful =
    bind (network_of (first_word (after_blanks text))) network (λ n. Ok (read_of n (after_word (after_blanks text))))
    (ap network_of next.first ∙ network_of-text network lawful)
    ∙ ap (λ r. Ok (read_of network r)) next.after

-- a protocol that stands next
protocol_next : (text rest : List ℕ) (value mask : ℕ) → value < 256 → mask < 256
    → NextWord text (protocol_text (Bitmask value mask)) rest
    → next_protocol text ≡ Ok (read_of (Bitmask value mask) rest)
protocol_next text rest value mask small masked next =
    bind (protocol_of (first_word (after_blanks text))) (Bitmask value mask)
    (λ (v : FieldValue). Ok (read_of v (after_word (after_blanks text))))
    (ap protocol_of next.first ∙ protocol_of-text value mask small masked)
    ∙ ap (λ r. Ok (read_of (Bitmask value mask) r)) next.after

-- the word of the priority
abbrev pri_word : ℕ → List ℕ
pri_word n = codes "pri=" ++ decimal n

-- the word of the categories
abbrev cat_word : ℕ → List ℕ
cat_word n = codes "cat=" ++ decimal n

-- the word of the userdata
abbrev data_word : ℕ → List ℕ
data_word n = codes "data=" ++ decimal n

-- the words of a printed tag are its three attributes
tag_words : (p c u : ℕ) → p < 2 ^ 64 → c < 2 ^ 64 → u < 2 ^ 64
    → words_of (tab ∷ tag_text (record { category_mask = c; priority = pos p; userdata = u }))
    ≡ pri_word p ∷ cat_word c ∷ data_word u ∷ []
tag_words p c u small_p small_c small_u =
    let third = data_word u in
    let second : List ℕ = cat_word c ++ space ∷ third in
    let last : words_of third ≡ third ∷ [] =
    ap words_of (sym (append-nil third)) ∙ words_of-append third [] (decimal_word u small_u) (omega arith) tt in
    words_of-blank tab (pri_word p ++ space ∷ second) refl
    ∙ words_of-append (pri_word p) (space ∷ second) (decimal_word p small_p) (omega arith) refl
    ∙ ap (λ words. pri_word p ∷ words) (
    words_of-blank space second refl
    ∙ words_of-append (cat_word c) (space ∷ third) (decimal_word c small_c) (omega arith) refl
    ∙ ap (λ words. cat_word c ∷ words) (words_of-blank space third refl ∙ last))

-- none of them is taken for flags
after_flags-pri : (p : ℕ) (words : List (List ℕ)) → p < 2 ^ 64
    → after_flags (pri_word p ∷ words) ≡ Ok (pri_word p ∷ words)
after_flags-pri p words small =
    rw (list_any-lacks (λ c. is_digit c 10) slash refl (decimal p) (decimal_spelled p small).digits)
    refl

-- they are read as the three numbers
attributes_of-words : (p c u : ℕ) → p ≤ max_written_priority → c ≤ max_category_mask → u ≤ max_userdata
    → attributes_of (pri_word p ∷ cat_word c ∷ data_word u ∷ [])
    ≡ Ok (record { priority = Some p; categories = Some c; userdata = Some u })
attributes_of-words p c u small_p small_c small_u =
    let first = whole_number-spelled max_written_priority p (decimal p) (decimal_spelled p (omega arith)) small_p in
    let second = whole_number-spelled max_category_mask c (decimal c) (decimal_spelled c (omega arith)) small_c in
    let third = whole_number-spelled max_userdata u (decimal u) (decimal_spelled u (omega arith)) small_u in
    rw (first, second, third) refl

-- and make the tag
tag_of-numbers : (ordinal p c u : ℕ) → (c % 65536 ≡ 0 → ⊥) → p ≤ max_priority
    → tag_of ordinal (record { priority = Some p; categories = Some c; userdata = Some u })
    ≡ Ok (record { category_mask = c; priority = pos p; userdata = u })
tag_of-numbers ordinal p c u some within = rw (ne_eqb (c % 65536) 0 some, le-ltb max_priority p within) refl

-- what a line says, part by part: each part is read, and the rest goes on
abbrev pub made : Network → Network → FieldValue → FieldValue → FieldValue → RuleTag → Result RuleLine LineKind
made from to ports others proto its_tag = Ok (record {
  source = from;
  destination = to;
  source_ports = ports;
  destination_ports = others;
  protocol = proto;
  tag = its_tag;
})

-- the line, after its attributes were read
abbrev pub with_attributes : ℕ → Network → Network → FieldValue → FieldValue → FieldValue → Attributes
    → Result RuleLine LineKind
with_attributes ordinal from to ports others proto attributes =
    tag_of ordinal attributes >>= made from to ports others proto

-- the line, from the words of its attributes on
abbrev pub with_words : ℕ → Network → Network → FieldValue → FieldValue → FieldValue → List (List ℕ)
    → Result RuleLine LineKind
with_words ordinal from to ports others proto words =
    attributes_of words >>= with_attributes ordinal from to ports others proto

-- the line, from what follows its protocol on
abbrev pub with_protocol : ℕ → Network → Network → FieldValue → FieldValue → Read FieldValue → Result RuleLine LineKind
with_protocol ordinal from to ports others proto =
    after_flags (words_of proto.rest) >>= with_words ordinal from to ports others proto.value

-- the line, from what follows its destination ports on
abbrev pub with_others : ℕ → Network → Network → FieldValue → Read FieldValue → Result RuleLine LineKind
with_others ordinal from to ports others =
    next_protocol others.rest >>= with_protocol ordinal from to ports others.value

-- the line, from what follows its source ports on
abbrev pub with_ports : ℕ → Network → Network → Read FieldValue → Result RuleLine LineKind
with_ports ordinal from to ports = ports_of ports.rest >>= with_others ordinal from to ports.value

-- the line, from what follows its destination on
abbrev pub with_destination : ℕ → Network → Read Network → Result RuleLine LineKind
with_destination ordinal from to = ports_of to.rest >>= with_ports ordinal from to.value

-- the line, from its second network on, which must be of the family of the source
abbrev pub with_another : ℕ → Network → Read Network → Result RuleLine LineKind
with_another ordinal from another = beside_source from another >>= with_destination ordinal from

-- the line, from what follows its source on
abbrev pub with_source : ℕ → Read Network → Result RuleLine LineKind
with_source ordinal from = next_network from.rest >>= with_another ordinal from.value

-- the line, from its first network on
abbrev pub with_text : ℕ → List ℕ → Result RuleLine LineKind
with_text ordinal text = next_network text >>= with_source ordinal

-- the numbers of a line, as they are printed
pub record Numbers : Type 0 where
  pub low : ℕ
  pub high : ℕ
  pub other_low : ℕ
  pub other_high : ℕ
  pub value : ℕ
  pub mask : ℕ
  pub priority : ℕ
  pub categories : ℕ
  pub userdata : ℕ

-- and their bounds
pub record Bounds (n : Numbers) : Type 0 where
  pub filled : n.low ≤ n.high
  pub within : n.high ≤ 65535
  pub other_filled : n.other_low ≤ n.other_high
  pub other_within : n.other_high ≤ 65535
  pub small : n.value < 256
  pub masked : n.mask < 256
  pub lawful_priority : n.priority ≤ max_priority
  pub some : n.categories % 65536 ≡ 0 → ⊥
  pub lawful_categories : n.categories ≤ max_category_mask
  pub lawful_userdata : n.userdata ≤ max_userdata

-- those of the tag are small
pub small_numbers : (n : Numbers) → Bounds n → (n.priority < 2 ^ 64) × (n.categories < 2 ^ 64) × (n.userdata < 2 ^ 64)
small_numbers n bounds = (
  omega (arith, bounds.lawful_priority),
  omega (arith, bounds.lawful_categories),
  omega (arith, bounds.lawful_userdata),
)

-- the tag of these numbers
abbrev pub numbered_tag : Numbers → RuleTag
numbered_tag n = record { category_mask = n.categories; priority = pos n.priority; userdata = n.userdata }

-- the line of two networks and these numbers
abbrev pub plain_line : Network → Network → Numbers → RuleLine
plain_line from to n = record {
  source = from;
  destination = to;
  source_ports = Range n.low n.high;
  destination_ports = Range n.other_low n.other_high;
  protocol = Bitmask n.value n.mask;
  tag = numbered_tag n;
}

-- the prefix length of a lawful network has 64 bits
pub network_small : (network : Network) → IsLawfulNetwork network → network.bits < 2 ^ 64
network_small network lawful = omega (arith, lawful.within, most_bits-small network.address)

-- a printed line is read as what it says
read_plain : (ordinal : ℕ) (from to : Network) (n : Numbers) → IsLawfulNetwork from → IsLawfulNetwork to
    → same_family (family_of from) (family_of to) ≡ true → Bounds n
    → rule_line_of ordinal (line_text (plain_line from to n)) ≡ Ok (plain_line from to n)
read_plain ordinal from to n lawful_from lawful_to same bounds =
    let ports = Range n.low n.high in
    let others = Range n.other_low n.other_high in
    let proto = Bitmask n.value n.mask in
    let its_tag = numbered_tag n in
    let found : Attributes = record {
      priority = Some n.priority;
      categories = Some n.categories;
      userdata = Some n.userdata;
    } in
    let small = small_numbers n bounds in
    let words = pri_word n.priority ∷ cat_word n.categories ∷ data_word n.userdata ∷ [] in
    let seventh : List ℕ = tab ∷ tag_text its_tag in
    let sixth : List ℕ = tab ∷ (protocol_text proto ++ seventh) in
    let fifth : List ℕ = tab ∷ (ports_text others ++ sixth) in
    let fourth : List ℕ = tab ∷ (ports_text ports ++ fifth) in
    let third : List ℕ = tab ∷ (network_text to ++ fourth) in
    let second : List ℕ = network_text from ++ third in
    let start : after_at_sign (after_blanks (64 ∷ second)) ≡ Ok second =
    ap after_at_sign (after_blanks-other 64 second refl) in
    let source = network_next second third from
    (next_word (network_text from) third (network_text-word from (network_small from lawful_from))
    (network_text-some from) refl)
    lawful_from in
    let destination = network_next third fourth to
    (word_after_tab (network_text to) fourth (network_text-word to (network_small to lawful_to))
    (network_text-some to) refl)
    lawful_to in
    let beside : beside_source from (read_of to fourth) ≡ Ok (read_of to fourth) = rw same refl in
    let first_ports = ports_of-text n.low n.high (ports_text others ++ sixth) bounds.filled bounds.within in
    let other_ports =
    ports_of-text n.other_low n.other_high (protocol_text proto ++ seventh) bounds.other_filled bounds.other_within in
    let protocol = protocol_next sixth seventh n.value n.mask bounds.small bounds.masked
    (word_after_tab (protocol_text proto) seventh (protocol_text-word n.value n.mask bounds.small bounds.masked)
    (omega arith) refl) in
    let flags : after_flags (words_of seventh) ≡ Ok words =
    ap after_flags
    (tag_words n.priority n.categories n.userdata small.0 small.1 small.2)
    ∙ after_flags-pri n.priority (cat_word n.categories ∷ data_word n.userdata ∷ []) small.0 in
    let attributes = attributes_of-words n.priority n.categories n.userdata (omega (arith, bounds.lawful_priority))
    bounds.lawful_categories bounds.lawful_userdata in
    bind (after_at_sign (after_blanks (64 ∷ second))) second (with_text ordinal) start
    ∙ bind (next_network second) (read_of from third) (with_source ordinal) source
    ∙ bind (next_network third) (read_of to fourth) (with_another ordinal from) destination
    ∙ bind (beside_source from (read_of to fourth)) (read_of to fourth) (with_destination ordinal from) beside
    ∙ bind (ports_of fourth) (read_of ports fifth) (with_ports ordinal from to) first_ports
    ∙ bind (ports_of fifth) (read_of others sixth) (with_others ordinal from to ports) other_ports
    ∙ bind (next_protocol sixth) (read_of proto seventh) (with_protocol ordinal from to ports others) protocol
    ∙ bind (after_flags (words_of seventh)) words (with_words ordinal from to ports others proto) flags
    ∙ bind (attributes_of words) found (with_attributes ordinal from to ports others proto) attributes
    ∙ bind (tag_of ordinal found) its_tag (made from to ports others proto)
    (tag_of-numbers ordinal n.priority n.categories n.userdata bounds.some bounds.lawful_priority)

-- two of the tests of a lawful value
record Tested (value : FieldValue) (size : ℕ) : Type 0 where
  narrow : is_within_size value size ≡ true
  filled : is_range_filled value ≡ true

-- a lawful value passes these tests
tested : (kind : FieldKind) (size : ℕ) (value : FieldValue) → IsTrue (is_lawful kind size value) → Tested value size
tested kind size value lawful =
    let filled = and_parts _ _ lawful in
    let short = and_parts _ _ filled.0 in
    record { narrow = (and_parts _ _ short.0).1; filled = filled.1 }

-- the numbers of a range, of a protocol and of a priority
record IsRange (value : FieldValue) : Type 0 where
  low : ℕ
  high : ℕ
  is : value ≡ Range low high
  filled : low ≤ high
  within : high ≤ 65535

-- a lawful value of a field of ports is a range
range_value : (value : FieldValue) → IsTrue (is_lawful kinds.Range 2 value) → IsRange value
range_value (Mask value bits) lawful = absurd (false≢true lawful)
range_value (Range low high) lawful =
    let tests = tested kinds.Range 2 (Range low high) lawful in
    let high_fits : high < 65536 =
    ltb-true high 65536 (and_parts (nat_lt low 65536) (nat_lt high 65536) tests.narrow).1 in
    record { low = low; high = high; is = refl; filled = leb-true low high tests.filled; within = omega arith }
range_value (Bitmask value mask) lawful = absurd (false≢true lawful)

-- a value and a mask of 8 bits each
record IsBitmask (value : FieldValue) : Type 0 where
  number : ℕ
  mask : ℕ
  is : value ≡ Bitmask number mask
  small : number < 256
  masked : mask < 256

-- a lawful value of a protocol is a value and a mask
bitmask_value : (value : FieldValue) → IsTrue (is_lawful kinds.Bitmask 1 value) → IsBitmask value
bitmask_value (Mask value bits) lawful = absurd (false≢true lawful)
bitmask_value (Range low high) lawful = absurd (false≢true lawful)
bitmask_value (Bitmask value mask) lawful =
    let tests = tested kinds.Bitmask 1 (Bitmask value mask) lawful in
    let numbers = and_parts (nat_lt value 256) (nat_lt mask 256) tests.narrow in
    record {
      number = value;
      mask = mask;
      is = refl;
      small = ltb-true value 256 numbers.0;
      masked =
          ltb-true mask 256 numbers.1;
    }

-- an integer that is a natural number
record IsNatural (z : ℤ) : Type 0 where
  number : ℕ
  is : z ≡ pos number

-- an integer from 0 on is a natural number
natural : (z : ℤ) → IsTrue (le_z (pos 0) z) → IsNatural z
natural (pos n) lawful = record { number = n; is = refl }
natural (negsuc n) lawful = absurd (false≢true lawful)

-- what fits 32 bits
pub record FitsTag (its_tag : RuleTag) : Type 0 where
  pub categories : its_tag.category_mask < 2 ^ 32
  pub userdata : its_tag.userdata < 2 ^ 32

-- a lawful tag names one of the sixteen categories
some_category_left : (its_tag : RuleTag) → IsLawfulTag its_tag → its_tag.category_mask % 65536 ≡ 0 → ⊥
some_category_left its_tag lawful none =
    let mask = its_tag.category_mask in
    let some : not (eqb (bit_and mask 65535) 0) ≡ true = some_category its_tag ∙ lawful.category in
    let zero_low : bit_and mask 65535 ≡ 0 = and_mask mask 16 ∙ none in
    false≢true (ap not (sym (eq-eqb (bit_and mask 65535) 0 zero_low)) ∙ some)

-- each lawful line has such numbers
pub record IsPlain (line : RuleLine) : Type 0 where
  pub numbers : Numbers
  pub is : line ≡ plain_line line.source line.destination numbers
  pub bounds : Bounds numbers

-- each lawful line has such numbers if its tag fits 32 bits
pub plain : (line : RuleLine) → IsLawfulLine line → FitsTag line.tag → IsPlain line
plain line lawful fits =
    let ports = range_value line.source_ports lawful.source_range in
    let others = range_value line.destination_ports lawful.destination_range in
    let proto = bitmask_value line.protocol lawful.protocol_bits in
    let priority = natural line.tag.priority lawful.lawful_tag.not_below in
    let above = rw priority.is at lawful.lawful_tag.not_above in
    record {
      numbers = record {
        low = ports.low;
        high = ports.high;
        other_low = others.low;
        other_high = others.high;
        value = proto.number;
        mask = proto.mask;
        priority = priority.number;
        categories = line.tag.category_mask;
        userdata = line.tag.userdata;
      };
      is = λ i. record {
        source = line.source;
        destination = line.destination;
        source_ports = ports.is i;
        destination_ports = others.is i;
        protocol = proto.is i;
        tag = record { category_mask = line.tag.category_mask; priority = priority.is i; userdata = line.tag.userdata };
      };
      bounds = record {
        filled = ports.filled;
        within = ports.within;
        other_filled = others.filled;
        other_within = others.within;
        small = proto.small;
        masked = proto.masked;
        lawful_priority = leb-true priority.number max_priority above;
        some = some_category_left line.tag lawful.lawful_tag;
        lawful_categories = omega (arith, fits.categories);
        lawful_userdata = omega (arith, fits.userdata);
      };
    }

-- a printed line is read back
pub rule_line_of-text : (ordinal : ℕ) (line : RuleLine) → IsLawfulLine line → FitsTag line.tag
    → rule_line_of ordinal (line_text line) ≡ Ok line
rule_line_of-text ordinal line lawful fits =
    let it = plain line lawful fits in
    let P : RuleLine → Type 0 = λ l. rule_line_of ordinal (line_text l) ≡ Ok l in
    subst P (sym it.is)
    (read_plain ordinal line.source line.destination it.numbers lawful.source_network lawful.destination_network
    lawful.one_family it.bounds)

-- A line that is read is lawful: its ports, its protocol and its tag are within their bounds.
use Rattle.std.proofs.Common.{◌≡◌, ℕ, ◌-◌, ◌%◌, ◌^◌, ◌<◌, ◌≤◌, Bool, true, false, not, eqb, nat_lt, pos, List, [], ◌∷◌}
use Rattle.std.proofs.Common.{Option, Some, None, Result, Ok, Err, refl, sym, ap, subst, ◌∙◌, arith, inl, inr}
use Rattle.std.specs.Prelude.{IsTrue, codes, unwrap_or, if◌then◌else◌}
use Rattle.std.specs.Option.{ok_or, option_map}
use Rattle.std.specs.Str.{bytes_eq}
use Rattle.std.proofs.lemmas.Bool.{cases_Bool, le-leb, lt-ltb, ltb-false}
use Rattle.std.proofs.lemmas.Int.{ints}
use Rattle.std.proofs.lemmas.Nat.{and_mask}
use Rattle.std.proofs.lemmas.Option.{option_and_then_some}
use Rattle.list_lemmas.proofs.Options.{from_option_map}
use Rattle.field_defs.specs.declared.field.FieldKind.TheVariants as kinds
use Rattle.field_defs.specs.declared.field.FieldValue.{FieldValue}
use Rattle.field_defs.specs.declared.field.FieldValue.TheVariants.{Bitmask}
use Rattle.rule_set.specs.declared.rule.RuleTag.{RuleTag}
use Rattle.rule_set.specs.Limits.{max_priority}
use Rattle.table_sizes.specs.Sizes.{max_rules}
use Rattle.rule_set.specs.Lawful.{IsLawfulTag}
use Rattle.rule_set.proofs.Offered.{some_category}
use Rattle.text_scan.specs.Parts.{slash, cut_at}
use Rattle.text_scan.specs.Numeral.{whole_number}
use Rattle.text_scan.proofs.Offered.{whole_within}
use Rattle.classbench_reader.specs.declared.attributes.Attributes.{Attributes}
use Rattle.classbench_reader.specs.declared.rules_fault.LineKind.{LineKind}
use Rattle.classbench_reader.specs.declared.rules_fault.LineKind.TheVariants.{BadAttribute, BadProtocol}
use Rattle.classbench_reader.specs.declared.line.RuleLine.{RuleLine}
use Rattle.classbench_reader.specs.Limits.{max_port, max_protocol, max_userdata, all_categories, equals_sign}
use Rattle.classbench_reader.specs.Limits.{max_written_priority, max_category_mask}
use Rattle.classbench_reader.specs.Attributes.{no_attributes, number_once, with_named, with_cut, with_word, with_words}
use Rattle.classbench_reader.specs.Attributes.{attributes_of, tag_with}
use Rattle.classbench_reader.specs.Columns.{pair_of_cut, pair_of, protocol_of}
use Rattle.classbench_reader.specs.Joined.{PortTexts, SpellsRange}
use Rattle.classbench_reader.specs.Lawful.{is_lawful, IsLawfulLine}
use Rattle.classbench_reader.specs.Line.{rule_line_of}
use Rattle.classbench_reader.proofs.NetworkBounds.{network_lawful, was_there}
use Rattle.classbench_reader.proofs.SplitLines.{read_lines_are_joined_parts}

-- ports are numbers of 16 bits, in order
ports_lawful : (ports : PortTexts) (value : FieldValue) → SpellsRange ports value →
    IsTrue (is_lawful kinds.Range 2 value)
ports_lawful ports value spells =
    let low : spells.low < 256 ^ 2 =
    omega (arith, whole_within max_port spells.low ports.low spells.low_spelled) in
    let high : spells.high < 256 ^ 2 =
    omega (arith, whole_within max_port spells.high ports.high spells.high_spelled) in
    rw (
      spells.is,
      lt-ltb spells.low (256 ^ 2) low,
      lt-ltb spells.high (256 ^ 2) high,
      le-leb spells.low spells.high spells.filled,
    ) refl

-- two numbers of one bound
record AreWithin (greatest : ℕ) (pair : ℕ × ℕ) : Type 0 where
  first : pair.0 ≤ greatest
  second : pair.1 ≤ greatest

-- two numbers of a text that was cut are within their bound
pair_within : (greatest : ℕ) (cut : Option (List ℕ × List ℕ)) (pair : ℕ × ℕ) → pair_of_cut greatest cut ≡ Some pair →
    AreWithin greatest pair
pair_within greatest None pair is = absurd (cc)
pair_within greatest (Some cut) pair is =
    option_and_then_some (λ first. option_map (λ second. (first, second)) (whole_number greatest cut.1))
    (whole_number greatest cut.0) pair is
    (λ first read more.
    let (second, other, same) = from_option_map (λ n. (first, n)) (whole_number greatest cut.1) pair more in
    subst (AreWithin greatest) same
    record {
      first = whole_within greatest first cut.0 read;
      second = whole_within greatest second cut.1 other;
    })

-- a protocol and its mask are bytes
protocol_lawful : (word : List ℕ) (value : FieldValue) → protocol_of word ≡ Ok value →
    IsTrue (is_lawful kinds.Bitmask 1 value)
protocol_lawful word value is =
    let made = was_there (option_map (λ (pair : ℕ × ℕ). Bitmask pair.0 pair.1) (pair_of max_protocol word)) BadProtocol
    value is in
    let (pair, read, same) = from_option_map (λ (pair : ℕ × ℕ). Bitmask pair.0 pair.1) (pair_of max_protocol word) value
    made in
    let within = pair_within max_protocol (cut_at slash word) pair read in
    let number : pair.0 < 256 ^ 1 = omega (arith, within.first) in
    let mask : pair.1 < 256 ^ 1 = omega (arith, within.second) in
    subst (λ v. IsTrue (is_lawful kinds.Bitmask 1 v)) same
    (rw (lt-ltb pair.0 (256 ^ 1) number, lt-ltb pair.1 (256 ^ 1) mask) refl)

-- the userdata that was written, if it was, is within its bound
abbrev FitsSome : Option ℕ → Type 0
FitsSome None = Unit {0}
FitsSome (Some n) = n ≤ max_userdata

-- and of what was read, if it was
abbrev Fits : Result Attributes LineKind → Type 0
Fits (Ok attributes) = FitsSome attributes.userdata
Fits (Err kind) = Unit {0}

-- the number of an attribute is within its bound
once_within : (earlier : Option ℕ) (greatest : ℕ) (text : List ℕ) (n : ℕ) → number_once earlier greatest text ≡ Some n →
    n ≤ greatest
once_within None greatest text n is = whole_within greatest n text is
once_within (Some other) greatest text n is = absurd (cc)

-- attributes with a number that was read fit if they fit with each such number
mapped_fits : (f : ℕ → Attributes) (read : Option ℕ) → ((n : ℕ) → read ≡ Some n → FitsSome (f n).userdata) →
    Fits (ok_or (option_map f read) BadAttribute)
mapped_fits f None all = tt
mapped_fits f (Some n) all = all n refl

-- whichever the name is
chosen_fits : (a b c : Bool) (x y z : Option Attributes) → Fits (ok_or x BadAttribute) → Fits (ok_or y BadAttribute) →
    Fits (ok_or z BadAttribute) →
    Fits (ok_or (if a then x else (if b then y else (if c then z else None))) BadAttribute)
chosen_fits true b c x y z one two three = one
chosen_fits false true c x y z one two three = two
chosen_fits false false true x y z one two three = three
chosen_fits false false false x y z one two three = tt

-- the userdata stays within its bound after one more named attribute
named_fits : (found : Attributes) (name text : List ℕ) → FitsSome found.userdata →
    Fits (ok_or (with_named found name text) BadAttribute)
named_fits found name text fits =
    chosen_fits (bytes_eq name (codes "pri")) (bytes_eq name (codes "cat")) (bytes_eq name (codes "data")) _ _ _
    (mapped_fits (λ n. record found { priority = Some n }) (number_once found.priority max_written_priority text)
    (λ n is. fits))
    (mapped_fits (λ n. record found { categories = Some n }) (number_once found.categories max_category_mask text)
    (λ n is. fits))
    (mapped_fits (λ n. record found { userdata = Some n }) (number_once found.userdata max_userdata text)
    (λ n is. once_within found.userdata max_userdata text n is))

-- and after one more word, cut at its `=` or not
cut_fits : (found : Attributes) (cut : Option (List ℕ × List ℕ)) → FitsSome found.userdata → Fits (with_cut found cut)
cut_fits found None fits = tt
cut_fits found (Some cut) fits = named_fits found cut.0 cut.1 fits

-- and after all further words
words_fit : (found : Result Attributes LineKind) (words : List (List ℕ)) → Fits found → Fits (with_words found words)
words_fit found [] fits = fits
words_fit (Ok attributes) (word ∷ words) fits =
    words_fit (with_word attributes word) words (cut_fits attributes (cut_at equals_sign word) fits)
words_fit (Err kind) (word ∷ words) fits = words_fit (Err kind) words tt

-- the userdata of attributes that were read is within its bound
read_fits : (words : List (List ℕ)) (attributes : Attributes) → attributes_of words ≡ Ok attributes →
    FitsSome attributes.userdata
read_fits words attributes is = subst Fits is (words_fit (Ok no_attributes) words tt)

-- so the userdata is, where the ordinal stands for what wasn't written
userdata_below : (written : Option ℕ) (ordinal : ℕ) → FitsSome written → ordinal ≤ max_rules →
    unwrap_or written ordinal < 2 ^ 32
userdata_below None ordinal fits few = omega (arith, few)
userdata_below (Some n) ordinal fits few = omega (arith, fits)

-- A tag that was read.
record IsReadTag (tag : RuleTag) : Type 0 where
  lawful : IsLawfulTag tag
  userdata : tag.userdata < 2 ^ 32

-- a tag is lawful if it names a category and its priority is at most the greatest
made_tag_lawful : (p c u : ℕ) → eqb (c % 65536) 0 ≡ false → p ≤ max_priority →
    IsLawfulTag (record { category_mask = c; priority = pos p; userdata = u })
made_tag_lawful p c u some within =
    let its : RuleTag = record { category_mask = c; priority = pos p; userdata = u } in
    record {
      category = sym (some_category its) ∙ ap (λ low. not (eqb low 0)) (and_mask c 16) ∙ ap not some;
      not_below = grind (arith, ints);
      not_above = grind (arith, ints);
    }

-- a tag that was made of its parts is lawful
tag_lawful : (p c u : ℕ) (tag : RuleTag) → tag_with p c u ≡ Ok tag → u < 2 ^ 32 → IsReadTag tag
tag_lawful p c u tag is below = elim (cases_Bool (eqb (c % 65536) 0)) [
  | inl none ↦ absurd (let fault = rw none at is in cc)
  | inr some ↦ elim (cases_Bool (nat_lt max_priority p)) [
    | inl above ↦ absurd (let fault = rw (some, above) at is in cc)
    | inr within ↦
        let its : RuleTag = record { category_mask = c; priority = pos p; userdata = u } in
        let same : its ≡ tag = let found = rw (some, within) at is in cc in
        subst IsReadTag same
        record { lawful = made_tag_lawful p c u some (ltb-false max_priority p within); userdata = below }
  ]
]

-- A line that was read.
pub record IsReadLine (line : RuleLine) : Type 0 where
  pub lawful : IsLawfulLine line
  pub userdata : line.tag.userdata < 2 ^ 32

-- a line that was read is lawful
pub line_lawful : (ordinal : ℕ) (text : List ℕ) (line : RuleLine) → ordinal ≤ max_rules →
    rule_line_of ordinal text ≡ Ok line → IsReadLine line
line_lawful ordinal text line few is =
    let joined = read_lines_are_joined_parts ordinal text line is in
    let parts = joined.parts in
    let says = joined.says in
    let fits = read_fits says.words says.attributes says.attributes_read in
    let tag = tag_lawful (unwrap_or says.attributes.priority (max_priority - ordinal))
    (unwrap_or says.attributes.categories all_categories) (unwrap_or says.attributes.userdata ordinal) line.tag
    says.tag (userdata_below says.attributes.userdata ordinal fits few) in
    record {
      lawful = record {
        source_network = network_lawful parts.source line.source says.source;
        destination_network = network_lawful parts.destination line.destination says.destination;
        one_family = says.one_family;
        source_range = ports_lawful parts.source_ports line.source_ports says.source_ports;
        destination_range =
            ports_lawful parts.destination_ports line.destination_ports says.destination_ports;
        protocol_bits = protocol_lawful parts.protocol line.protocol says.protocol;
        lawful_tag = tag.lawful;
      };
      userdata = tag.userdata;
    }

-- The other way to say what a line is: its parts, joined. What is read from left to right is this.
use Rattle.std.specs.Prelude.{◌≡◌, ℕ, ◌<◌, ◌≤◌, true, not, List, [], ◌∷◌, ◌++◌, length, Some, Ok}
use Rattle.std.specs.List.{list_all}
use Rattle.field_defs.specs.declared.field.FieldValue.{FieldValue}
use Rattle.field_defs.specs.declared.field.FieldValue.TheVariants.{Range}
use Rattle.text_scan.specs.Parts.{colon, is_blank, words_of}
use Rattle.text_scan.specs.Numeral.{whole_number}
use Rattle.classbench_reader.specs.declared.attributes.Attributes.{Attributes}
use Rattle.classbench_reader.specs.declared.line.RuleLine.{RuleLine}
use Rattle.classbench_reader.specs.Limits.{max_port, at_sign}
use Rattle.classbench_reader.specs.Network.{family_of, network_of}
use Rattle.classbench_reader.specs.Columns.{protocol_of, after_flags}
use Rattle.classbench_reader.specs.Attributes.{attributes_of, tag_of}
use Rattle.classbench_reader.specs.Line.{same_family, rule_line_of}

-- blanks alone, or nothing
abbrev pub IsBlanks : List ℕ → Type 0
IsBlanks text = list_all is_blank text ≡ true

-- what separates two columns: blanks alone, and at least one of them
pub record IsGap (text : List ℕ) : Type 0 where
  pub blanks : IsBlanks text
  pub some : 0 < length text

-- the texts of two ports, and what stands around the `:`
pub record PortTexts : Type 0 where
  pub low : List ℕ
  pub before_colon : List ℕ
  pub after_colon : List ℕ
  pub high : List ℕ

-- the column of two ports: their texts on both sides of the `:`
abbrev pub port_text : PortTexts → List ℕ
port_text ports = ports.low ++ (ports.before_colon ++ colon ∷ (ports.after_colon ++ ports.high))

-- they spell the range
pub record SpellsRange (ports : PortTexts) (value : FieldValue) : Type 0 where
  pub low : ℕ
  pub high : ℕ
  pub is : value ≡ Range low high
  pub filled : low ≤ high
  pub low_spelled : whole_number max_port ports.low ≡ Some low
  pub high_spelled : whole_number max_port ports.high ≡ Some high
  pub before : IsBlanks ports.before_colon
  pub after : IsBlanks ports.after_colon

-- the texts of a line's parts, and the gaps between them
pub record LineParts : Type 0 where
  pub indent : List ℕ
  pub after_sign : List ℕ
  pub source : List ℕ
  pub first_gap : List ℕ
  pub destination : List ℕ
  pub second_gap : List ℕ
  pub source_ports : PortTexts
  pub third_gap : List ℕ
  pub destination_ports : PortTexts
  pub fourth_gap : List ℕ
  pub protocol : List ℕ
  pub tail : List ℕ

-- what follows a word: nothing, or a blank
abbrev pub EndsTheWord : List ℕ → Type 0
EndsTheWord [] = Unit {0}
EndsTheWord (c ∷ cs) = is_blank c ≡ true

-- a word has no blank
abbrev pub HasNoBlank : List ℕ → Type 0
HasNoBlank word = list_all (λ c. not (is_blank c)) word ≡ true

-- the parts, joined
abbrev pub joined_line : LineParts → List ℕ
joined_line parts =
    parts.indent ++ at_sign ∷ (parts.after_sign ++ (parts.source ++ (parts.first_gap
    ++ (parts.destination ++ (parts.second_gap ++ (port_text parts.source_ports ++ (parts.third_gap
    ++ (port_text parts.destination_ports ++
    (parts.fourth_gap ++ (parts.protocol ++ parts.tail))))))))))

-- What the parts say: each is there, in order, and the words of the tail are flags and attributes.
pub record SaysLine (ordinal : ℕ) (parts : LineParts) (line : RuleLine) : Type 0 where
  pub indent : IsBlanks parts.indent
  pub after_sign : IsBlanks parts.after_sign
  pub source_word : HasNoBlank parts.source
  pub source : network_of parts.source ≡ Ok line.source
  pub first_gap : IsGap parts.first_gap
  pub destination_word : HasNoBlank parts.destination
  pub destination : network_of parts.destination ≡ Ok line.destination
  pub one_family : same_family (family_of line.source) (family_of line.destination) ≡ true
  pub second_gap : IsGap parts.second_gap
  pub source_ports : SpellsRange parts.source_ports line.source_ports
  pub third_gap : IsGap parts.third_gap
  pub destination_ports : SpellsRange parts.destination_ports line.destination_ports
  pub fourth_gap : IsGap parts.fourth_gap
  pub protocol_word : HasNoBlank parts.protocol
  pub protocol : protocol_of parts.protocol ≡ Ok line.protocol
  pub tail : EndsTheWord parts.tail
  pub words : List (List ℕ)
  pub flags : after_flags (words_of parts.tail) ≡ Ok words
  pub attributes : Attributes
  pub attributes_read : attributes_of words ≡ Ok attributes
  pub tag : tag_of ordinal attributes ≡ Ok line.tag

-- such parts, joined, are read as what they say
abbrev pub JoinedPartsAreRead : Type 0
JoinedPartsAreRead =
    (ordinal : ℕ) (parts : LineParts) (line : RuleLine) → SaysLine ordinal parts line
    → rule_line_of ordinal (joined_line parts) ≡ Ok line

-- The text is parts, joined, that say the line.
pub record IsJoined (ordinal : ℕ) (text : List ℕ) (line : RuleLine) : Type 0 where
  pub parts : LineParts
  pub joined : joined_line parts ≡ text
  pub says : SaysLine ordinal parts line

-- a line that is read is such parts, joined
abbrev pub ReadLinesAreJoinedParts : Type 0
ReadLinesAreJoinedParts =
    (ordinal : ℕ) (text : List ℕ) (line : RuleLine) → rule_line_of ordinal text ≡ Ok line
    → IsJoined ordinal text line

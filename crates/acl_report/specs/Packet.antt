-- The line of a packet: what is printed of a record of a capture.
use Rattle.std.specs.Prelude.{ℕ, List, [], ◌∷◌, map, Option, Some, None, codes, decimal}
use Rattle.header_extract.specs.declared.class.Class.{Class}
use Rattle.header_extract.specs.declared.class.Class.TheVariants.{Ip4, Ip6, Other, Short}
use Rattle.acl_report.specs.Line.{line_of}

-- how a packet's line names the class of its frame
abbrev pub class_word : Class → List ℕ
class_word Ip4 = codes "ip4"
class_word Ip6 = codes "ip6"
class_word Other = codes "other"
class_word Short = codes "short"

-- what a category says of a packet: the userdata of the rule that wins, or a dash
abbrev pub answer_word : Option ℕ → List ℕ
answer_word (Some userdata) = decimal userdata
answer_word None = codes "-"

-- a frame without a packet has one dash in the place of all categories
abbrev pub answer_words : Class → List (Option ℕ) → List (List ℕ)
answer_words Ip4 answers = map answer_word answers
answer_words Ip6 answers = map answer_word answers
answer_words Other answers = answer_word None ∷ []
answer_words Short answers = answer_word None ∷ []

-- the line of a packet: its number, its class, and what each category says, from category 0 on
abbrev pub packet_text : ℕ → Class → List (Option ℕ) → List ℕ
packet_text number class answers =
    line_of (decimal number) (class_word class ∷ answer_words class answers)

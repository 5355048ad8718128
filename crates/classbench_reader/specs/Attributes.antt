-- The attributes of a rule, an extension of this project: the words after the columns, each a name,
-- `=` and a number.
use Rattle.std.specs.Prelude.{ℕ, ◌-◌, ◌%◌, ◌==◌, nat_lt, if◌then◌else◌, List, [], ◌∷◌, codes}
use Rattle.std.specs.Prelude.{unwrap_or, Option, Some, None, Result, Ok, Err, pos}
use Rattle.std.specs.Option.{ok_or, option_map}
use Rattle.std.specs.Str.{bytes_eq}
use Rattle.rule_set.specs.declared.rule.RuleTag.{RuleTag}
use Rattle.rule_set.specs.Limits.{max_priority}
use Rattle.text_scan.specs.Parts.{cut_at}
use Rattle.text_scan.specs.Numeral.{whole_number}
use Rattle.classbench_reader.specs.declared.attributes.Attributes.{Attributes}
use Rattle.classbench_reader.specs.declared.rules_fault.LineKind.{LineKind}
use Rattle.classbench_reader.specs.declared.rules_fault.LineKind.TheVariants.{BadAttribute, TailLeft}
use Rattle.classbench_reader.specs.declared.rules_fault.LineKind.TheVariants.{NoCategory, PriorityRange}
use Rattle.classbench_reader.specs.Limits.{equals_sign, max_written_priority, max_category_mask}
use Rattle.classbench_reader.specs.Limits.{max_userdata, all_categories}
use Rattle.classbench_reader.specs.LineReading.{◌>>=◌}

-- no attribute
abbrev pub no_attributes : Attributes
no_attributes = record { priority = None; categories = None; userdata = None }

-- the number of an attribute that hasn't come before
abbrev pub number_once : Option ℕ → ℕ → List ℕ → Option ℕ
number_once None greatest text = whole_number greatest text
number_once (Some earlier) greatest text = None

-- the attributes with one more
abbrev pub with_named : Attributes → List ℕ → List ℕ → Option Attributes
with_named found name text =
    if bytes_eq name (codes "pri")
    then option_map (λ n. record found { priority = Some n })
    (number_once found.priority max_written_priority text)
    else (if bytes_eq name (codes "cat")
    then option_map (λ n. record found { categories = Some n })
    (number_once found.categories max_category_mask text)
    else (if bytes_eq name (codes "data")
    then option_map (λ n. record found { userdata = Some n })
    (number_once found.userdata max_userdata text)
    else None))

-- a word is cut at its first `=`
abbrev pub with_cut : Attributes → Option (List ℕ × List ℕ) → Result Attributes LineKind
with_cut found None = Err TailLeft
with_cut found (Some cut) = ok_or (with_named found cut.0 cut.1) BadAttribute

-- the attributes with the one that a word spells, which has to have a `=`
abbrev pub with_word : Attributes → List ℕ → Result Attributes LineKind
with_word found word = with_cut found (cut_at equals_sign word)

-- the attributes with those of further words, from left to right
abbrev pub with_words : Result Attributes LineKind → List (List ℕ) → Result Attributes LineKind
with_words found [] = found
with_words found (word ∷ words) =
    with_words (found >>= λ attributes. with_word attributes word) words

-- the attributes that the words of a line spell, of each name at most one
abbrev pub attributes_of : List (List ℕ) → Result Attributes LineKind
attributes_of words = with_words (Ok no_attributes) words

-- The tag of these parts. It has to name one of the sixteen categories, and its priority has to be
-- one that a rule may have.
abbrev pub tag_with : ℕ → ℕ → ℕ → Result RuleTag LineKind
tag_with priority categories userdata =
    if categories % 65536 == 0 then Err NoCategory
    else (if nat_lt max_priority priority then Err PriorityRange
    else Ok (record { category_mask = categories; priority = pos priority; userdata = userdata }))

-- The tag of the rule of an ordinal, from 1. What isn't said is a priority that falls with each
-- rule, all categories, and the ordinal as userdata.
abbrev pub tag_of : ℕ → Attributes → Result RuleTag LineKind
tag_of ordinal attributes = tag_with
    (unwrap_or attributes.priority (max_priority - ordinal))
    (unwrap_or attributes.categories all_categories)
    (unwrap_or attributes.userdata ordinal)

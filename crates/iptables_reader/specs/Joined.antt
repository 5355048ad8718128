-- The other way to say what the words of a rule are: whole options, one after the other. So no word
-- of a line that is read is passed over.
use Rattle.std.specs.Prelude.{◌≡◌, ℕ, ◌-◌, ◌==◌, Bool, true, false, if◌then◌else◌, codes, List, [], ◌∷◌}
use Rattle.std.specs.Prelude.{◌++◌, Option, Some, None, Ok, option_and_then}
use Rattle.std.specs.List.{AllByRecursion, flat_map}
use Rattle.std.specs.Str.{bytes_eq}
use Rattle.iptables_reader.specs.declared.options.RuleOption.{RuleOption}
use Rattle.iptables_reader.specs.declared.options.Match.{Match}
use Rattle.iptables_reader.specs.declared.reading.Reading.{Reading}
use Rattle.iptables_reader.specs.declared.quotes.Quotes.{Quotes}
use Rattle.iptables_reader.specs.declared.quotes.Quotes.TheVariants as quotes
use Rattle.iptables_reader.specs.declared.tables.Listed.{Listed}
use Rattle.iptables_reader.specs.Chains.{RuleSetting}
use Rattle.iptables_reader.specs.Options.{Row, any_option, own_option}
use Rattle.iptables_reader.specs.Quotes.{first_quotes, quotes_after}
use Rattle.iptables_reader.specs.Reading.{options_of}
use Rattle.iptables_reader.specs.Tables.{match_table, option_in, target_table}

-- nothing, or `!`
pub data IsNegation (words : List (List ℕ)) : Type 0 where
  Plain : words ≡ [] → IsNegation words
  Negated : (word : List ℕ) → bytes_eq word (codes "!") ≡ true → words ≡ word ∷ []
      → IsNegation words

-- a word is the name of an option, of a match or of any rule
pub data IsName (word : List ℕ) (row : Row) : Type 0 where
  Own : (kind : Match) → own_option kind word ≡ Some row → IsName word row
  Any : any_option word ≡ Some row → IsName word row

-- a word is the name of an option that so many words follow, which decide nothing
pub data IsSkipped (word : List ℕ) (count : ℕ) : Type 0 where
  Comment : (row : Row) → IsName word row → row.0 ≡ None → count ≡ 1 → IsSkipped word count
  OfMatch : (place : ℕ) (row : Listed) → option_in word place match_table ≡ Some row
      → count ≡ row.count → IsSkipped word count
  OfTarget : (place : ℕ) (row : Listed) → option_in word place target_table ≡ Some row
      → count ≡ row.count → IsSkipped word count

-- so many words are left, and the quotes of the first of them are open
pub record WordsLeft : Type 0 where
  pub count : ℕ
  pub quoted : Bool

-- a part of a word, by what its quotes are after it
abbrev pub after_quotes : ℕ → Quotes → Option WordsLeft
after_quotes count quotes.Closed = Some (record { count = count - 1; quoted = false })
after_quotes count quotes.Open = Some (record { count = count; quoted = true })
after_quotes count quotes.Broken = None

-- a part more, where a word is left
abbrev pub after_part : List ℕ → WordsLeft → Option WordsLeft
after_part part left =
    if left.count == 0 then None
    else after_quotes left.count
    (if left.quoted then quotes_after false part else first_quotes part)

-- parts, one after the other
abbrev pub after_parts : Option WordsLeft → List (List ℕ) → Option WordsLeft
after_parts left [] = left
after_parts left (part ∷ parts) = after_parts (option_and_then (after_part part) left) parts

-- so many words, each in one part, or in several between quotes
abbrev pub AreWords : ℕ → List (List ℕ) → Type 0
AreWords count parts =
    after_parts (Some (record { count = count; quoted = false })) parts
    ≡ Some (record { count = 0; quoted = false })

-- The words of a whole option, perhaps after `!`: a name and a value, or a name and words that
-- decide nothing.
pub data IsOption (words : List (List ℕ)) : Type 0 where
  Value : (negation : List (List ℕ)) (name value : List ℕ) (row : Row) (it : RuleOption)
      → IsNegation negation → IsName name row → row.0 ≡ Some it
      → words ≡ negation ++ name ∷ value ∷ [] → IsOption words
  Skipped : (negation : List (List ℕ)) (name : List ℕ) (count : ℕ) (parts : List (List ℕ))
      → IsNegation negation → IsSkipped name count → AreWords count parts
      → words ≡ negation ++ name ∷ parts → IsOption words

-- words are such options, one after the other
pub record AreOptions (words : List (List ℕ)) : Type 0 where
  pub parts : List (List (List ℕ))
  pub whole : AllByRecursion IsOption parts
  pub joined : flat_map (λ part. part) parts ≡ words

-- the words of a rule that is read, after the name of its chain, are such
abbrev pub ReadWordsAreOptions : Type 0
ReadWordsAreOptions =
    (setting : RuleSetting) (words : List (List ℕ)) (reading : Reading)
    → options_of setting words ≡ Ok reading → AreOptions words

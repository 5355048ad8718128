-- Quotes around a word that has blanks (iptables-restore(8)): they stand at both its ends, and a
-- backslash within them before what is meant literally.
use Rattle.std.specs.Prelude.{ℕ, ◌==◌, Bool, false, not, ◌&&◌, if◌then◌else◌, List, [], ◌∷◌, length}
use Rattle.std.specs.Prelude.{Result, Ok, Err}
use Rattle.std.proofs.Common.{zero, suc}
use Rattle.std.specs.List.{list_any}
use Rattle.iptables_reader.specs.declared.fault.LineKind.{LineKind}
use Rattle.iptables_reader.specs.declared.fault.LineKind.TheVariants.{MissingWord, BadQuotes}
use Rattle.iptables_reader.specs.declared.quotes.Quotes.{Quotes}
use Rattle.iptables_reader.specs.declared.quotes.Quotes.TheVariants.{Closed, Open, Broken}
use Rattle.iptables_reader.specs.Stops.{◌>>=◌}

-- quotes that end before so many bytes of a part
abbrev pub ended_quotes : ℕ → Quotes
ended_quotes after = if after == 0 then Closed else Broken

-- a byte ends quotes: a quote that no backslash stands before; 34 is `"`
abbrev pub is_end : Bool → ℕ → Bool
is_end escaped byte = not escaped && byte == 34

-- the byte after another is meant literally; 92 is a backslash
abbrev pub is_escape : Bool → ℕ → Bool
is_escape escaped byte = not escaped && byte == 92

-- what the quotes are after bytes of a part, the first of which may be meant literally
abbrev pub quotes_after : Bool → List ℕ → Quotes
quotes_after escaped [] = Open
quotes_after escaped (c ∷ cs) =
    if is_end escaped c then ended_quotes (length cs) else quotes_after (is_escape escaped c) cs

-- a word without quotes has none within it
abbrev pub bare_quotes : List ℕ → Quotes
bare_quotes text = if list_any (λ c. c == 34) text then Broken else Closed

-- what the quotes are after the first part of a word
abbrev pub first_quotes : List ℕ → Quotes
first_quotes [] = Closed
first_quotes (c ∷ cs) = if c == 34 then quotes_after false cs else bare_quotes (c ∷ cs)

-- ---- words that decide nothing

-- after quotes the words are left that follow, or those that end the quotes still come
abbrev pub by_quotes : Quotes → List (List ℕ) → Result (List (List ℕ)) LineKind →
    Result (List (List ℕ)) LineKind
by_quotes Closed words ended = Ok words
by_quotes Open words ended = ended
by_quotes Broken words ended = Err BadQuotes

-- the words after quotes that are open
abbrev pub after_open : List (List ℕ) → Result (List (List ℕ)) LineKind
after_open [] = Err MissingWord
after_open (part ∷ parts) = by_quotes (quotes_after false part) parts (after_open parts)

-- the words after the first one, which stands in several parts where it has blanks
abbrev pub after_word : List (List ℕ) → Result (List (List ℕ)) LineKind
after_word [] = Err MissingWord
after_word (part ∷ parts) = by_quotes (first_quotes part) parts (after_open parts)

-- the words after so many
abbrev pub after_words : ℕ → List (List ℕ) → Result (List (List ℕ)) LineKind
after_words zero words = Ok words
after_words (suc count) words = after_word words >>= after_words count

-- Texts in parts: between separators, line by line, and word by word. A line is ended by LF or CR
-- LF, as in files of either habit, and a blank is a space or a tab.
use Rattle.std.specs.Prelude.{ℕ, ◌==◌, Bool, ◌||◌, not, if◌then◌else◌, List, [], ◌∷◌, length, drop}
use Rattle.std.specs.Prelude.{map, filter, Option, Some, None}
use Rattle.std.specs.List.{slice_split, take_while, list_any, before_first, after_first}
use Rattle.std.specs.Str.Lines.{strip_carriage_return}

-- `.`, which separates the bytes of an IPv4 address
abbrev pub dot : ℕ
dot = 46

-- `:`, which separates the groups of an IPv6 address
abbrev pub colon : ℕ
colon = 58

-- `/`, which stands before a prefix length or a mask
abbrev pub slash : ℕ
slash = 47

-- LF, which ends a line
abbrev pub line_feed : ℕ
line_feed = 10

-- CR, which may stand before the LF of a line
abbrev pub carriage_return : ℕ
carriage_return = 13

-- TAB, one of the two blanks within a line
abbrev pub tab : ℕ
tab = 9

-- the space, the other blank
abbrev pub space : ℕ
space = 32

-- a byte that separates the words of a line
abbrev pub is_blank : ℕ → Bool
is_blank c = c == space || c == tab

-- the parts of a text between its separators: one more than there are separators, and some may be
-- empty
abbrev pub parts_of : ℕ → List ℕ → List (List ℕ)
parts_of separator text = slice_split (λ c. c == separator) text

-- the texts before and after the first separator, where there is one
abbrev pub cut_at : ℕ → List ℕ → Option (List ℕ × List ℕ)
cut_at separator text =
    let is_it = λ (c : ℕ). c == separator in
    if list_any is_it text then Some (before_first is_it text, after_first is_it text) else None

-- the parts without the last one, where that is empty
abbrev pub without_empty_end : List (List ℕ) → List (List ℕ)
without_empty_end [] = []
without_empty_end (part ∷ []) = if length part == 0 then [] else part ∷ []
without_empty_end (part ∷ next ∷ parts) = part ∷ without_empty_end (next ∷ parts)

-- The lines of a text: what stands between its LF, where a last line without LF counts if it has a
-- byte. One CR at the end of a line is no part of it.
abbrev pub lines_of : List ℕ → List (List ℕ)
lines_of text = map strip_carriage_return (without_empty_end (parts_of line_feed text))

-- what is left of a text from its first byte on that is no blank
abbrev pub after_blanks : List ℕ → List ℕ
after_blanks text = drop (length (take_while is_blank text)) text

-- the word that a text begins with, which is empty before a blank: as many bytes as follow that are
-- no blanks
abbrev pub first_word : List ℕ → List ℕ
first_word text = take_while (λ c. not (is_blank c)) text

-- and what is left of the text
abbrev pub after_word : List ℕ → List ℕ
after_word text = drop (length (first_word text)) text

-- the words of a text: its parts between blanks that have a byte
abbrev pub words_of : List ℕ → List (List ℕ)
words_of text = filter (λ part. not (length part == 0)) (slice_split is_blank text)

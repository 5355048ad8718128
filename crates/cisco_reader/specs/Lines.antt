-- The lines of a configuration, of which those of a text say nothing (Cisco IOS Configuration
-- Fundamentals Command Reference, "banner exec", "banner login", "banner motd" and "macro name"):
-- after the kind of a banner stands a mark, and the text goes on to where the mark stands again, in
-- this line or a later one; a macro goes on to `@`. A line of a text that looks like one of a list
-- is refused, so that no list is lost to a text that is read wrongly.
use Rattle.std.specs.Prelude.{ℕ, ◌+◌, ◌==◌, Bool, true, false, ◌&&◌, if◌then◌else◌, codes, take, drop, nat_eq}
use Rattle.std.specs.Prelude.{List, [], ◌∷◌, ◌++◌, Option, Some, None, Result, Ok, Err}
use Rattle.std.specs.Borrow.{Bor}
use Rattle.std.specs.List.{starts_with}
use Rattle.std.specs.Str.{bytes_eq}
use Rattle.text_scan.specs.Parts.{lines_of, words_of}
use Rattle.cisco_reader.specs.declared.fault.LineFault.{LineFault}
use Rattle.cisco_reader.specs.declared.fault.LineKind.TheVariants.{BadText}
use Rattle.cisco_reader.specs.declared.names.Known.TheVariants.{BannerKind}
use Rattle.cisco_reader.specs.Heads.{head_of, is_of_lists}
use Rattle.cisco_reader.specs.Names.{is_known}
use Rattle.cisco_reader.specs.Read.{◌>>=◌, all_after}

-- a line: its number, from 1, and its text
pub record TextLine : Type 0 where
  pub number : ℕ
  pub text : List ℕ

-- what is at no place
abbrev pub no_line : TextLine
no_line = record { number = 0; text = [] }

-- the words of a line
abbrev pub words_in : TextLine → List (List ℕ)
words_in line = words_of line.text

-- the lines outside of texts, how many lines there are, and the mark of the text in which the next
-- one stands, with the line that began it
pub record LinesSoFar : Type 0 where
  pub outside : List TextLine
  pub count : ℕ
  pub mark : Option (List ℕ)
  pub begun : ℕ

-- nothing was read
abbrev pub no_lines : LinesSoFar
no_lines = record { outside = []; count = 0; mark = None; begun = 0 }

-- ---- texts

-- a mark stands in a word
unfoldable pub is_marked : List ℕ → List ℕ → Bool
is_marked mark [] = false
is_marked mark (c ∷ cs) = if starts_with nat_eq (c ∷ cs) mark then true else is_marked mark cs

-- a mark stands in one of some words
unfoldable pub are_marked : List ℕ → List (List ℕ) → Bool
are_marked mark [] = false
are_marked mark (word ∷ words) = if is_marked mark word then true else are_marked mark words

-- the length of the mark at the start of a word: `^C`, 94 and 67, or one byte
abbrev pub mark_len : List ℕ → ℕ
mark_len [] = 0
mark_len (c ∷ []) = 1
mark_len (c ∷ d ∷ cs) = if c == 94 && d == 67 then 2 else 1

-- the mark, if it stands in none of these words
abbrev pub open_mark : List ℕ → List (List ℕ) → Option (List ℕ)
open_mark mark words = if are_marked mark words then None else Some mark

-- a banner begins with these words, and its mark
abbrev pub begins_banner : List ℕ → List ℕ → Bool
begins_banner first kind = bytes_eq first (codes "banner") && is_known BannerKind kind

-- a macro begins with these words, and its name
abbrev pub begins_macro : List ℕ → List ℕ → Bool
begins_macro first kind = bytes_eq first (codes "macro") && bytes_eq kind (codes "name")

-- the mark of the text that the words of a line begin and don't end
abbrev pub text_mark : List (List ℕ) → Option (List ℕ)
text_mark [] = None
text_mark (first ∷ []) = None
text_mark (first ∷ kind ∷ []) = None
text_mark (first ∷ kind ∷ word ∷ words) =
    if begins_macro first kind then Some (codes "@")
    else (if begins_banner first kind
    then open_mark (take (mark_len word) word) (drop (mark_len word) word ∷ words) else None)

-- ---- lines

-- the lines with one more, which stands in the text of a mark or outside
abbrev pub with_next : LinesSoFar → List ℕ → ℕ → Option (List ℕ) → Result LinesSoFar LineFault
with_next so_far text number None = Ok (record {
  outside = so_far.outside ++ record { number = number; text = text } ∷ [];
  count = number;
  mark = text_mark (words_of text);
  begun = number;
})
with_next so_far text number (Some mark) =
    if is_of_lists (head_of text) then Err (record { line = number; kind = BadText })
    else Ok (record so_far {
      count = number;
      mark = open_mark mark (words_of text);
    })

-- the lines with the next one
abbrev pub with_text : LinesSoFar → List ℕ → Result LinesSoFar LineFault
with_text so_far text = with_next so_far text (so_far.count + 1) so_far.mark

-- no text is left without an end
abbrev pub without_text : LinesSoFar → Option (List ℕ) → Result LinesSoFar LineFault
without_text so_far None = Ok so_far
without_text so_far (Some mark) = Err (record { line = so_far.begun; kind = BadText })

-- and so of all lines
abbrev pub closed : LinesSoFar → Result LinesSoFar LineFault
closed so_far = without_text so_far so_far.mark

-- the lines of a file, or the first fault of a text
abbrev pub file_lines : List ℕ → Result LinesSoFar LineFault
file_lines bytes = all_after with_text no_lines (lines_of bytes) >>= closed

-- a text that is lent
abbrev pub seen : Bor (List ℕ) → List ℕ
seen text = text.now

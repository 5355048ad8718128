-- Texts that are cut at separators, at the ends of lines and at blanks.
use Rattle.std.proofs.Common.{◌≡◌, ℕ, suc, ◌+◌, ◌<◌, eqb, true, List, [], ◌∷◌, length, take, drop, map, Some, None}
use Rattle.std.proofs.Common.{refl, ap, ◌∙◌, arith, get_or, ◌-◌, ◌++◌, ◌&&◌, not, Bool, sym, append_assoc, add-one}
use Rattle.std.proofs.Common.{false}
use Rattle.std.proofs.lemmas.Bool.{cond-false, ne_eqb, false_from_ne_true, and_parts, eq-eqb, not-true}
use Rattle.std.proofs.lemmas.List.Sums.{position_or_len_is, AllPass-from_list_all}
use Rattle.std.specs.Str.Lines.{strip_carriage_return}
use Rattle.std.specs.List.{list_all, position_or_len}
use Rattle.memchr.specs.Find.{Nowhere, NoneBefore, Passes, is_byte}
use Rattle.text_scan.specs.Parts.{carriage_return, line_feed, parts_of, cut_at, without_empty_end, lines_of, is_blank}
use Rattle.text_scan.specs.Parts.{after_blanks, first_word, after_word, words_of}
use Rattle.std.proofs.Math.Seq.{take-append_seam}
use Rattle.std.proofs.lemmas.List.{length_push, drop_at, get_or_default}
use Rattle.std.proofs.lemmas.List.Folds.{list_any_none, list_any_at}
use Rattle.std.proofs.lemmas.List.Splits.{slice_split_at, slice_split_first}
use Rattle.list_lemmas.proofs.Elements.{any-append, place-append}
use Rattle.list_lemmas.proofs.Texts.{Lacks, parts_of_one, some_part, past_blanks-blank, past_blanks-other, LacksBlanks}
use Rattle.list_lemmas.proofs.Texts.{EndsRun, front_word-append, past_word-append, all_words-append, all_words-blank}
use Rattle.list_lemmas.proofs.Texts.{past_blanks-word}

-- a text in which no separator is found lacks it
lacks : (separator : ℕ) (text : List ℕ) → Nowhere (Passes (is_byte separator) text) 0 (length text)
    → Lacks separator text
lacks separator text nowhere k d inside = false_from_ne_true _ (λ here. nowhere k (omega arith) inside
    (ap (λ c. eqb c separator) (get_or_default text k 0 d inside) ∙ here))

-- it is its only part, and isn't cut
pub parts_of-whole : (separator : ℕ) (text : List ℕ) → Nowhere (Passes (is_byte separator) text) 0 (length text)
    → parts_of separator text ≡ text ∷ []
parts_of-whole separator text nowhere = parts_of_one separator text (lacks separator text nowhere)

-- a text without the separator isn't cut
pub cut_at-none : (separator : ℕ) (text : List ℕ) → Nowhere (Passes (is_byte separator) text) 0 (length text)
    → cut_at separator text ≡ None
cut_at-none separator text nowhere =
    rw (list_any_none (λ c. eqb c separator) text (lacks separator text nowhere)) refl

-- the place that is found is that of the first separator
place_is : (separator : ℕ) (text : List ℕ) (place : ℕ)
    → NoneBefore (Passes (is_byte separator) text) 0 (length text) place → Passes (is_byte separator) text place
    → position_or_len (λ c. eqb c separator) text ≡ place
place_is separator text place first here =
    position_or_len_is (λ c. eqb c separator) text place 0 (omega (arith, first.high))
    (λ k below. false_from_ne_true _ (first.before k (omega arith) below)) (λ inside. here)

-- the first part ends there, and there a text is cut
pub parts_of-cut : (separator : ℕ) (text : List ℕ) (place : ℕ)
    → NoneBefore (Passes (is_byte separator) text) 0 (length text) place → Passes (is_byte separator) text place
    → parts_of separator text ≡ take place text ∷ parts_of separator (drop (suc place) text)
parts_of-cut separator text place first here =
    let at = place_is separator text place first here in
    slice_split_first (λ c. eqb c separator) text 0 (omega (arith, at, first.high)) ∙ rw (at, add-one) refl

-- a text is cut at the first separator in it
pub cut_at-some : (separator : ℕ) (text : List ℕ) (place : ℕ)
    → NoneBefore (Passes (is_byte separator) text) 0 (length text) place → Passes (is_byte separator) text place
    → cut_at separator text ≡ Some (take place text, drop (place + 1) text)
cut_at-some separator text place first here =
    rw (list_any_at (λ c. eqb c separator) text place 0 first.high here, place_is separator text place first here) refl

-- a text with a byte and without LF is its only line
pub lines_of-whole : (text : List ℕ) → 0 < length text → Nowhere (Passes (is_byte line_feed) text) 0 (length text)
    → lines_of text ≡ strip_carriage_return text ∷ []
lines_of-whole text filled nowhere =
    ap (λ parts. map strip_carriage_return (without_empty_end parts)) (parts_of-whole line_feed text nowhere)
    ∙ ap (map strip_carriage_return) (cond-false _ _ _ (ne_eqb (length text) 0 (λ empty. omega arith)))

-- a part that others follow is kept
without_empty_end-more : (part : List ℕ) (parts : List (List ℕ)) → 0 < length parts
    → without_empty_end (part ∷ parts) ≡ part ∷ without_empty_end parts
without_empty_end-more part [] some = absurd (omega arith)
without_empty_end-more part (next ∷ parts) some = refl

-- the first line ends at the first LF
pub lines_of-cut : (text : List ℕ) (place : ℕ)
    → NoneBefore (Passes (is_byte line_feed) text) 0 (length text) place → Passes (is_byte line_feed) text place
    → lines_of text ≡ strip_carriage_return (take place text) ∷ lines_of (drop (suc place) text)
lines_of-cut text place first here =
    let rest = drop (suc place) text in
    ap (λ parts. map strip_carriage_return (without_empty_end parts)) (parts_of-cut line_feed text place first here)
    ∙ ap (map strip_carriage_return)
    (without_empty_end-more (take place text) (parts_of line_feed rest) (some_part line_feed rest))

-- a text is cut where its first separator was put
pub cut_at-append : (separator : ℕ) (before rest : List ℕ) → list_all (λ b. not (eqb b separator)) before ≡ true
    → cut_at separator (before ++ separator ∷ rest) ≡ Some (before, rest)
cut_at-append separator before rest lacks =
    let is_it : ℕ → Bool = λ c. eqb c separator in
    let here : is_it separator ≡ true = eq-eqb separator separator refl in
    let place = place-append is_it before rest separator lacks here in
    let first = take-append_seam before (separator ∷ rest) in
    let second : drop (length before + 1) (before ++ separator ∷ rest) ≡ rest =
    ap (drop (length before + 1)) (sym (append_assoc before (separator ∷ []) rest))
    ∙ drop_at (before ++ separator ∷ []) rest (length before + 1) (length_push before separator) in
    rw (any-append is_it before rest separator here, place, first, second) refl

-- bytes that end no line
abbrev pub ends_no_line : ℕ → Bool
ends_no_line c = not (eqb c line_feed) && not (eqb c carriage_return)

-- a text of bytes that end no line has no line feed
lacks_line_feed : (text : List ℕ) → list_all ends_no_line text ≡ true → Lacks line_feed text
lacks_line_feed text plain = λ k d inside.
    not-true _ (and_parts _ _ (AllPass-from_list_all ends_no_line text plain k d inside)).0

-- nor a carriage return at its end that would be stripped
strip-plain : (text : List ℕ) → list_all ends_no_line text ≡ true → strip_carriage_return text ≡ text
strip-plain [] plain = refl
strip-plain (c ∷ cs) plain =
    let last = length (c ∷ cs) - 1 in
    let passes = and_parts _ _ (AllPass-from_list_all ends_no_line (c ∷ cs) plain last 0 (omega arith)) in
    cond-false (eqb (get_or (c ∷ cs) last 0) carriage_return) _ _ (not-true _ passes.1)

-- one line, ended by LF, where none of its bytes ends a line
pub lines_of-one : (text : List ℕ) → list_all ends_no_line text ≡ true
    → lines_of (text ++ line_feed ∷ []) ≡ text ∷ []
lines_of-one text plain =
    let cut = slice_split_at (λ c. eqb c line_feed) text line_feed [] (lacks_line_feed text plain) refl in
    ap (λ parts. map strip_carriage_return (without_empty_end parts)) cut
    ∙ ap (λ line. line ∷ []) (strip-plain text plain)

-- A text that is a word, as long as it has a byte, and what follows one.
abbrev pub IsWord : List ℕ → Type 0
IsWord text = LacksBlanks is_blank text

-- what follows a word so that it ends there: nothing, or a blank
abbrev pub EndsWord : List ℕ → Type 0
EndsWord rest = EndsRun is_blank rest

-- a blank at the beginning is passed over
pub after_blanks-blank : (c : ℕ) (cs : List ℕ) → is_blank c ≡ true → after_blanks (c ∷ cs) ≡ after_blanks cs
after_blanks-blank = past_blanks-blank is_blank

-- nothing is skipped if the first byte is no blank
pub after_blanks-other : (c : ℕ) (cs : List ℕ) → is_blank c ≡ false → after_blanks (c ∷ cs) ≡ c ∷ cs
after_blanks-other = past_blanks-other is_blank

-- nor in front of a word that has a byte
pub after_blanks-word : (word rest : List ℕ) → IsWord word → 0 < length word
    → after_blanks (word ++ rest) ≡ word ++ rest
after_blanks-word = past_blanks-word is_blank

-- the first word of a text that begins with one is that word
pub first_word-append : (word rest : List ℕ) → IsWord word → EndsWord rest → first_word (word ++ rest) ≡ word
first_word-append = front_word-append is_blank

-- after a word comes what follows it, if the word ends there
pub after_word-append : (word rest : List ℕ) → IsWord word → EndsWord rest → after_word (word ++ rest) ≡ rest
after_word-append = past_word-append is_blank

-- the words of a text that begins with a word are that one and those of the rest
pub words_of-append : (word rest : List ℕ) → IsWord word → 0 < length word → EndsWord rest
    → words_of (word ++ rest) ≡ word ∷ words_of rest
words_of-append = all_words-append is_blank

-- a blank in front adds no word
pub words_of-blank : (c : ℕ) (rest : List ℕ) → is_blank c ≡ true → words_of (c ∷ rest) ≡ words_of rest
words_of-blank = all_words-blank is_blank

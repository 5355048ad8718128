-- Examples of texts in parts, each checked by evaluation.
use Rattle.std.specs.Prelude.{◌≡◌, [], ◌∷◌, codes, Some, None, refl}
use Rattle.text_scan.specs.Parts.{dot, parts_of, cut_at, lines_of, after_blanks, first_word}
use Rattle.text_scan.specs.Parts.{after_word, words_of}

groups : parts_of dot (codes "10.1..7.") ≡ codes "10" ∷ codes "1" ∷ [] ∷ codes "7" ∷ [] ∷ []
groups = refl

no_separator : parts_of dot (codes "10") ≡ codes "10" ∷ []
no_separator = refl

nothing : parts_of dot [] ≡ [] ∷ []
nothing = refl

-- a text is cut at the first separator
the_first : cut_at dot (codes "10.1.7") ≡ Some (codes "10", codes "1.7")
the_first = refl

at_the_end : cut_at dot (codes "10.") ≡ Some (codes "10", [])
at_the_end = refl

nowhere : cut_at dot (codes "10") ≡ None
nowhere = refl

-- a last line counts with and without LF
two_lines : lines_of (codes "a\nb\n") ≡ codes "a" ∷ codes "b" ∷ []
two_lines = refl

no_last_line_feed : lines_of (codes "a\nb") ≡ codes "a" ∷ codes "b" ∷ []
no_last_line_feed = refl

-- an empty line in the middle and at the end counts, and an empty text has none
empty_lines : lines_of (codes "\na\n\n") ≡ [] ∷ codes "a" ∷ [] ∷ []
empty_lines = refl

no_lines : lines_of [] ≡ []
no_lines = refl

-- one CR at the end of a line is dropped, with and without LF, and no other
carriage_returns : lines_of
    (codes "a\r\n\r\nb\r\r\nc\rd\r") ≡ codes "a" ∷ [] ∷ codes "b\r" ∷ codes "c\rd" ∷ []
carriage_returns = refl

-- blanks are spaces and tabs
first_blanks : after_blanks (codes " \t \ta b ") ≡ codes "a b "
first_blanks = refl

blanks_alone : after_blanks (codes " \t") ≡ []
blanks_alone = refl

a_word : first_word (codes "a\rb\tc") ≡ codes "a\rb"
a_word = refl

after_a_word : after_word (codes "a\rb\tc") ≡ codes "\tc"
after_a_word = refl

no_word : first_word (codes " a") ≡ []
no_word = refl

words : words_of (codes "  pri=1\t\tcat=3 ") ≡ codes "pri=1" ∷ codes "cat=3" ∷ []
words = refl

no_words : words_of (codes " \t") ≡ []
no_words = refl

-- A line of words, as text (POSIX.1-2017, 3.206 Line).
use Rattle.std.specs.Prelude.{ℕ, List, [], ◌∷◌, ◌++◌}
use Rattle.std.specs.List.{flat_map}

-- what separates the words of a line
abbrev pub space : ℕ
space = 32

-- LF, which ends a line
abbrev pub line_feed : ℕ
line_feed = 10

-- the words, each after a space
abbrev pub spaced : List (List ℕ) → List ℕ
spaced words = flat_map (λ word. space ∷ word) words

-- a line: its first word, the others each after a space, and LF
abbrev pub line_of : List ℕ → List (List ℕ) → List ℕ
line_of first words = first ++ spaced words ++ line_feed ∷ []

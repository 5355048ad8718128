-- How the words of a line are read, one after the other. Where a word lacks, where one is too many,
-- or where another one stands in its place, the line says nothing.
use Rattle.std.specs.Prelude.{ℕ, Bool, true, false, List, [], ◌∷◌, Option, Some, None}
use Rattle.std.specs.Prelude.{if◌then◌else◌}
use Rattle.text_scan.specs.Numeral.{whole_number}

infixl 10 ◌>>=◌
-- what was read goes into what follows, and where nothing could be read the line says nothing
abbrev pub ◌>>=◌ : {A B : Type 0} → Option A → (A → Option B) → Option B
(Some value) >>= next = next value
None >>= next = None

-- what the first words say, and the words after them
pub record Read (A : Type 0) : Type 0 where
  pub value : A
  pub rest : List (List ℕ)

-- what was read, before the words that are left
abbrev pub read_of : {A : Type 0} → A → List (List ℕ) → Read A
read_of value rest = record { value = value; rest = rest }

-- the next word
abbrev pub next_word : List (List ℕ) → Option (Read (List ℕ))
next_word [] = None
next_word (word ∷ words) = Some (read_of word words)

-- the number that the next word is, at most `greatest`
abbrev pub next_number : ℕ → List (List ℕ) → Option (Read ℕ)
next_number greatest words = do
  word ← next_word words
  number ← whole_number greatest word.value
  Some (read_of number word.rest)

-- no word is left
abbrev pub are_none : List (List ℕ) → Bool
are_none [] = true
are_none (word ∷ words) = false

-- what a line says that ends here
abbrev pub ended : {A : Type 0} → List (List ℕ) → A → Option A
ended words said = if are_none words then Some said else None

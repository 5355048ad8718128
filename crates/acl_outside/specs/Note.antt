-- Notes on what the outside was asked and what it answered.
use Rattle.std.specs.Prelude.{ℕ, List}

-- a note of a call: numbers, of which the first says its kind, and bytes
pub record Note : Type 0 where
  pub numbers : List ℕ
  pub bytes : List ℕ

-- the note of these numbers and bytes
abbrev pub note_of : List ℕ → List ℕ → Note
note_of numbers bytes = record { numbers = numbers; bytes = bytes }

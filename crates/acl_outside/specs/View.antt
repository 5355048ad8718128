-- What a desk shows: the files that it reads and makes, and what it answered so far.
use Rattle.std.specs.Prelude.{ℕ, List, Bool, Option}

-- a file: its name and its bytes
pub record File : Type 0 where
  pub name : List ℕ
  pub bytes : List ℕ

-- the files of a desk, the name of the opened one, what is left to read of it, and the name of the
-- one that is created and not finished
pub record Content : Type 0 where
  pub files : List File
  pub opened : Option (List ℕ)
  pub left : List ℕ
  pub created : Option (List ℕ)

-- An answer of a desk: the file of this name was opened or not, a read with room for so many bytes
-- gave these or failed, the file of this name was created or not, a write took these bytes or
-- failed, or the created file was finished or not.
pub data Answer : Type 0 where
  Opening : (name : List ℕ) → (succeeded : Bool) → Answer
  Reading : (room : ℕ) → (given : Option (List ℕ)) → Answer
  Creating : (name : List ℕ) → (succeeded : Bool) → Answer
  Writing : (taken : Option (List ℕ)) → Answer
  Finishing : (succeeded : Bool) → Answer

-- What a desk shows: its files where it tells them, its answers so far, newest first, whether a
-- file is opened, whether one is created and not finished, and the counts of its faults.
pub record DeskView : Type 0 where
  pub content : Option Content
  pub answers : List Answer
  pub reading : Bool
  pub writing : Bool
  pub read_faults : ℕ
  pub absent : ℕ
  pub write_faults : ℕ

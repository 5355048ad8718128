-- How the parts of a line are read, one after the other: each gives what it says, or the kind of
-- its fault, and the first fault is that of the line.
use Rattle.std.specs.Prelude.{ℕ, List, Result, Ok, Err}

infixl 10 ◌>>=◌
-- what a part says goes into what follows it, and a fault ends the reading
abbrev pub ◌>>=◌ : {A B K : Type 0} → Result A K → (A → Result B K) → Result B K
(Ok value) >>= next = next value
(Err kind) >>= next = Err kind

-- what a part says, and the text after it
pub record Read (A : Type 0) : Type 0 where
  pub value : A
  pub rest : List ℕ

-- what a part says, beside the text that it leaves for the next part
abbrev pub read_of : {A : Type 0} → A → List ℕ → Read A
read_of value rest = record { value = value; rest = rest }

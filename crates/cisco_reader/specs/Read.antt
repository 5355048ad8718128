-- Reading words and lines: what was read, what is left, and the first fault.
use Rattle.std.specs.Prelude.{◌≡◌, ℕ, Bool, true, false, List, [], ◌∷◌, Option, Some, None, Result, Ok, Err}
use Rattle.std.specs.Str.{bytes_eq}
use Rattle.cisco_reader.specs.declared.fault.CiscoFault.{CiscoFault}
use Rattle.cisco_reader.specs.declared.fault.CiscoFault.TheVariants.{Line, OutOfMemory}
use Rattle.cisco_reader.specs.declared.fault.LineFault.{LineFault}
use Rattle.cisco_reader.specs.declared.fault.LineKind.{LineKind}
use Rattle.cisco_reader.specs.declared.fault.LineKind.TheVariants.{MissingWord, UnknownWord}
use Rattle.cisco_reader.specs.declared.fault.Stop.{Stop}
use Rattle.cisco_reader.specs.declared.fault.Stop.TheVariants as stopped

-- what was read, and the words after it
pub record After (A : Type 0) : Type 0 where
  pub value : A
  pub words : List (List ℕ)

-- this was read, and these words are left
abbrev pub done : {A : Type 0} → A → List (List ℕ) → Result (After A) LineKind
done value words = Ok (record { value = value; words = words })

infixl 10 ◌>>=◌
-- what was read goes into what follows it, and a fault ends the reading
abbrev pub ◌>>=◌ : {A B E : Type 0} → Result A E → (A → Result B E) → Result B E
(Ok value) >>= following = following value
(Err kind) >>= following = Err kind

infixl 10 ◌>>-◌
-- and so do the words that are left
abbrev pub ◌>>-◌ : {A B E : Type 0} → Result (After A) E → (A → List (List ℕ) → Result B E)
    → Result B E
(Ok read) >>- following = following read.value read.words
(Err kind) >>- following = Err kind

-- what was found, or the fault where there is nothing
abbrev pub found : {A : Type 0} → LineKind → Option A → Result A LineKind
found kind None = Err kind
found kind (Some value) = Ok value

-- the next word, which has to be there
abbrev pub required : List (List ℕ) → Result (After (List ℕ)) LineKind
required [] = Err MissingWord
required (word ∷ words) = done word words

-- no word is left
abbrev pub is_end : List (List ℕ) → Bool
is_end [] = true
is_end (word ∷ words) = false

-- the next word, by what it stands for
abbrev pub one_word : {A : Type 0} → (List ℕ → Result A LineKind) → List (List ℕ)
    → Result (After A) LineKind
one_word means words =
    required words >>- λ word rest. (means word >>= λ it. done it rest)

-- the words after the first one
abbrev pub rest_of : List (List ℕ) → List (List ℕ)
rest_of [] = []
rest_of (word ∷ words) = words

-- the next word is this one
abbrev pub is_next : List ℕ → List (List ℕ) → Bool
is_next word [] = false
is_next word (first ∷ words) = bytes_eq first word

-- what was read, after which nothing may follow
abbrev pub alone : {A : Type 0} → List (List ℕ) → A → Result A LineKind
alone [] it = Ok it
alone (word ∷ words) it = Err UnknownWord

-- what some elements make of a state, one after the other; the first fault ends it
abbrev pub all_after : {S X E : Type 0} → (S → X → Result S E) → S → List X → Result S E
all_after step state [] = Ok state
all_after step state (x ∷ xs) = step state x >>= λ next. all_after step next xs

-- ---- lines

-- a fault of a line
abbrev pub in_line : {A : Type 0} → ℕ → Result A LineKind → Result A LineFault
in_line number (Ok value) = Ok value
in_line number (Err kind) = Err (record { line = number; kind = kind })

-- ---- what calls promise

-- a call read what is said, and left these words
abbrev pub Reads : {A : Type 0} → Result (After A) LineKind → Result A LineKind → List (List ℕ)
    → Type 0
Reads said (Ok value) words = said ≡ Ok (record { value = value; words = words })
Reads said (Err kind) words = said ≡ Err kind

-- a call stopped at the fault that is said, or for want of memory
abbrev pub Refuses : {A : Type 0} → Result A LineKind → Stop → Type 0
Refuses said (stopped.Faulty kind) = said ≡ Err kind
Refuses said stopped.OutOfMemory = Unit {0}

-- a call made what is said, and this is it
abbrev pub Becomes : {A : Type 0} → Result A LineKind → Result (Unit {0}) Stop → A → Type 0
Becomes said (Ok none) new = said ≡ Ok new
Becomes said (Err stop) new = Refuses said stop

-- the fault of a list whose line isn't read
abbrev pub fault_of : ℕ → Stop → CiscoFault
fault_of number (stopped.Faulty kind) = Line (record { line = number; kind = kind })
fault_of number stopped.OutOfMemory = OutOfMemory

-- a call failed with the fault that is said, or for want of memory
abbrev pub Fails : {A : Type 0} → Result A LineFault → CiscoFault → Type 0
Fails said (Line fault) = said ≡ Err fault
Fails said OutOfMemory = Unit {0}

-- a call gave what is said, as it is seen
abbrev pub Gives : {A V : Type 0} → Result A LineFault → (V → A) → Result V CiscoFault → Type 0
Gives said view (Ok value) = said ≡ Ok (view value)
Gives said view (Err fault) = Fails said fault

-- A command as a plan: what it asks for, and what it does with what it is given.
use Rattle.std.specs.Prelude.{ℕ, List, [], Option, Some, None, Result, Ok, Err}
use Rattle.std.specs.Option.{option_map_or}
use Rattle.acl_outside.specs.Desk.{File, bytes_of}
use Rattle.command_ending.specs.declared.status.Status.{Status}
use Rattle.command_ending.specs.declared.status.Status.TheVariants.{Done, ReadFault}

-- a status, the text that is printed, how many transitions the tables take, and the file that is
-- made, if one is
pub record Outcome : Type 0 where
  pub status : Status
  pub text : List ℕ
  pub transitions : ℕ
  pub made : Option File

-- a status with a text and so many transitions, and no file made
abbrev pub printed : Status → List ℕ → ℕ → Outcome
printed status text transitions =
    record { status = status; text = text; transitions = transitions; made = None }

-- the named file is made of the bytes, and nothing printed
abbrev pub making : List ℕ → List ℕ → Outcome
making name bytes = record {
  status = Done;
  text = [];
  transitions = 0;
  made = Some (record { name = name; bytes = bytes });
}

-- a status with nothing printed, no transition and no file made
abbrev pub silent : Status → Outcome
silent status = printed status [] 0

-- A plan gives a value, stops with a status, or reads the named file and goes on with its bytes.
-- The text beside a reading is what is printed in all once these bytes of the file were read.
pub data Plan (A : Type 0) : Type 0 where
  Give : (value : A) → Plan A
  Stop : (status : Status) → Plan A
  Read : (name : List ℕ) → (shown : List ℕ → List ℕ) → (next : List ℕ → Plan A) → Plan A

infixl 10 ◌>>=◌
-- one plan, and then another with its value
abbrev pub ◌>>=◌ : {A B : Type 0} → Plan A → (A → Plan B) → Plan B
Give value >>= f = f value
Stop status >>= f = Stop status
Read name shown next >>= f = Read name shown (λ bytes. next bytes >>= f)

-- nothing is printed while a file is read
abbrev pub nothing : List ℕ → List ℕ
nothing bytes = []

-- the bytes of the named file, with nothing printed meanwhile
abbrev pub reading : List ℕ → Plan (List ℕ)
reading name = Read name nothing Give

-- a value or the status of its fault, without asking for anything
abbrev pub unless_refused : {A : Type 0} → Result A Status → Plan A
unless_refused (Ok value) = Give value
unless_refused (Err status) = Stop status

-- what a plan comes to where these files are there: a file that isn't there is a read fault
abbrev pub found : {A : Type 0} → Plan A → List File → Result A Status
found (Give value) files = Ok value
found (Stop status) files = Err status
found (Read name shown next) files =
    option_map_or (λ bytes. found (next bytes) files) (bytes_of files name) (Err ReadFault)

-- the outcome of a result
abbrev pub settled : Result Outcome Status → Outcome
settled (Ok outcome) = outcome
settled (Err status) = silent status

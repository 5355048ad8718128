-- How far a plan was followed, by what was heard of the files that it asks for.
use Rattle.std.specs.Prelude.{◌≡◌, ℕ, ◌⊎◌, List, [], ◌∷◌, ◌++◌, Option, Some, None, ⊤}
use Rattle.acl_outside.specs.Desk.{File, bytes_of}
use Rattle.acl_outside.specs.Heard.{Heard, Ending, NotOpened, GoesOn, Ended, BrokenOff}
use Rattle.command_ending.specs.declared.status.Status.{Status}
use Rattle.command_ending.specs.declared.status.Status.TheVariants.{ReadFault, OutOfMemory}
use Rattle.command_ending.specs.Plan.{Plan, Give, Stop, Read, Outcome, printed, silent}

-- A plan was followed to its value, to a stop, to the opening of a file, or into a file with this
-- text printed so far.
pub data Reached (A : Type 0) : Type 0 where
  Given : (value : A) → Reached A
  Stopped : (status : Status) → Reached A
  Before : (name : List ℕ) → Reached A
  Within : (file : Heard) → (text : List ℕ) → Reached A

-- All of the file was heard, or no further byte of it would change what comes next.
abbrev pub IsEnough : {A : Type 0} → (List ℕ → Plan A) → Heard → Type 0
IsEnough next file =
    (file.ending ≡ Ended)
    ⊎ ((file.ending ≡ GoesOn) × ((more : List ℕ) → next (file.bytes ++ more) ≡ next file.bytes))

-- the file was opened, whatever came of it
abbrev pub IsOpened : Ending → Type 0
IsOpened NotOpened = ⊥
IsOpened GoesOn = ⊤
IsOpened Ended = ⊤
IsOpened BrokenOff = ⊤

-- the name of the file that is opened then, or none where it couldn't be
abbrev pub opened_by : Ending → List ℕ → Option (List ℕ)
opened_by NotOpened name = None
opened_by GoesOn name = Some name
opened_by Ended name = Some name
opened_by BrokenOff name = Some name

-- The bytes that were heard are the first of the file of that name, and all of them where its end
-- was met.
pub record IsPartOf (files : List File) (file : Heard) : Type 0 where
  pub rest : List ℕ
  pub there : bytes_of files file.name ≡ Some (file.bytes ++ rest)
  pub whole : file.ending ≡ Ended → rest ≡ []

-- the same where the files are told and the file was opened
abbrev pub IsOneOf : Option (List File) → Heard → Type 0
IsOneOf told file = (files : List File) → told ≡ Some files → IsOpened file.ending →
    IsPartOf files file

-- what is printed once so much of a file was heard, and nothing where it couldn't be opened
abbrev pub said_in : Ending → List ℕ → List ℕ
said_in NotOpened text = []
said_in GoesOn text = text
said_in Ended text = text
said_in BrokenOff text = text

-- the same, by how the reading of the file stands
abbrev pub said : (List ℕ → List ℕ) → Heard → List ℕ
said shown file = said_in file.ending (shown file.bytes)

-- What was heard newly is one opening for each reading of the plan, in its order and of the files
-- that are told, and the plan was followed so far. Openings stand newest first.
abbrev pub Follows : {A : Type 0} → Option (List File) → Plan A → List Heard → List Heard →
    Reached A → Type 0
Follows told (Give value) old new reached = (new ≡ old) × (reached ≡ Given value)
Follows told (Stop status) old new reached = (new ≡ old) × (reached ≡ Stopped status)
Follows told (Read name shown next) old new reached =
    ((new ≡ old) × (reached ≡ Before name))
    ⊎ ((file : Heard) × (file.name ≡ name) × IsOneOf told file × (
    ((new ≡ file ∷ old) × (reached ≡ Within file (said shown file)))
    ⊎ (IsEnough next file × Follows told (next file.bytes) (file ∷ old) new reached)))

-- Where a command ends within a file, the file couldn't be read, or memory ran out.
abbrev pub status_within : Ending → Status
status_within NotOpened = ReadFault
status_within GoesOn = OutOfMemory
status_within Ended = OutOfMemory
status_within BrokenOff = ReadFault

-- The outcome of what was heard. Before a file is opened only want of memory ends a command. Within
-- a file no number of transitions is promised.
abbrev pub outcome_of : Reached Outcome → Outcome
outcome_of (Given outcome) = outcome
outcome_of (Stopped status) = silent status
outcome_of (Before name) = silent OutOfMemory
outcome_of (Within file text) = printed (status_within file.ending) text 0

-- how a part of a command may end that gives no value and prints nothing
abbrev pub IsCutOff : {A : Type 0} → Reached A → Status → Type 0
IsCutOff (Given value) status = ⊥
IsCutOff (Stopped refusal) status = status ≡ refusal
IsCutOff (Before name) status = status ≡ OutOfMemory
IsCutOff (Within file text) status =
    (text ≡ []) × ((status ≡ OutOfMemory) ⊎ (status ≡ status_within file.ending))

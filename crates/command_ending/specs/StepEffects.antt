-- What a part of a command says of the outside, before and after it.
use Rattle.std.specs.Prelude.{◌≡◌, ◌≢◌, ℕ, ◌+◌, ◌≤◌, ◌⊎◌, List, [], ◌∷◌, length, false, true}
use Rattle.std.specs.Prelude.{Option, Some, None, Result, Ok, Err, IfOk, IfErr, OnOk, OnErr}
use Rattle.std.specs.Prelude.{◌++◌, ⊤}
use Rattle.std.specs.Option.{option_map}
use Rattle.std.specs.declared.vec.Vec.{Vec}
use Rattle.std.specs.declared.alloc.Global.{Global}
use Rattle.acl_outside.specs.Fault.{Rose}
use Rattle.acl_outside.specs.Desk.{File, DeskView, KeepsCounts, bytes_of, finished}
use Rattle.acl_outside.specs.Heard.{Heard, GoesOn, Ended, KeepsHeard, heard}
use Rattle.acl_outside.specs.Made.{Made, NotCreated, Finished, Broken, KeepsMade, made}
use Rattle.acl_outside.specs.Sink.{SinkView, Gains, GainsPrefix}
use Rattle.acl_outside.specs.Together.{HoldsTogether}
use Rattle.command_ending.specs.declared.status.Status.{Status}
use Rattle.command_ending.specs.declared.status.Status.TheVariants.{ReadFault, WriteFault}
use Rattle.command_ending.specs.declared.status.Status.TheVariants.{OutOfMemory, Done}
use Rattle.command_ending.specs.Plan.{Outcome, Plan, found, settled}
use Rattle.command_ending.specs.Follow.{Reached, Given, Stopped, Before, Within, Follows, IsOneOf}
use Rattle.command_ending.specs.Follow.{IsCutOff, opened_by, outcome_of, status_within}
use Rattle.command_ending.specs.Endings.{is_decided, is_reported, is_usage}

-- the files of a desk that tells them
abbrev pub files_of : DeskView → Option (List File)
files_of desk = option_map (λ content. content.files) desk.content

-- the name of the opened file, of a desk that tells it
abbrev pub opened_of : DeskView → Option (Option (List ℕ))
opened_of desk = option_map (λ content. content.opened) desk.content

-- what was heard before the newest opening
abbrev pub earlier_of : List Heard → List Heard
earlier_of [] = []
earlier_of (file ∷ files) = files

-- what a desk was asked for, one opening after the other, newest first
abbrev pub heard_of : DeskView → List Heard
heard_of desk = heard desk.answers

-- the outside of a command: the desk that it reads through, the sink that it prints to, and the
-- counter of the transitions that the tables take
pub record Outside : Type 0 where
  pub desk : DeskView
  pub out : SinkView
  pub steps : ℕ

-- an outside with these three
abbrev pub outside : DeskView → SinkView → ℕ → Outside
outside desk out steps = record { desk = desk; out = out; steps = steps }

-- what a desk was asked to make, one creation after the other, newest first
abbrev pub made_of : DeskView → List Made
made_of desk = made desk.answers

-- The files are as before, none was made, and no count fell. If what was heard of the opened file
-- and what is left of it were the file, they still are.
pub record KeepsFiles (old new : DeskView) : Type 0 where
  pub files : files_of new ≡ files_of old
  pub made : KeepsMade old new
  pub counts : KeepsCounts old new
  pub together : HoldsTogether old → HoldsTogether new

-- Where the files are told, all but the named one are as before, and the rest is kept likewise.
pub record KeepsOthers (name : List ℕ) (old new : DeskView) : Type 0 where
  pub files : (before : List File) → files_of old ≡ Some before → (after : List File)
      × (files_of new ≡ Some after)
      × ((other : List ℕ) → other ≢ name → bytes_of after other ≡ bytes_of before other)
  pub counts : KeepsCounts old new
  pub together : HoldsTogether old → HoldsTogether new

-- what a command leaves as it was: all files but the one that it makes, and all where it makes none
abbrev pub Keeps : Option (List ℕ) → DeskView → DeskView → Type 0
Keeps None old new = KeepsFiles old new
Keeps (Some name) old new = KeepsOthers name old new

-- The file was made, whole, and nothing else. It is finished, and it holds its bytes where the
-- files are told.
pub record MakesFile (file : File) (old new : DeskView) : Type 0 where
  pub made : made_of new
      ≡ record { name = file.name; bytes = file.bytes; standing = Finished } ∷ made_of old
  pub finished : finished new ≡ true
  pub holds : (files : List File) → files_of new ≡ Some files →
      bytes_of files file.name ≡ Some file.bytes

-- The file couldn't be made: it couldn't be created, and is as before, or a prefix of its bytes was
-- written, which it holds where the files are told. Nothing else was made.
pub record MakesPrefix (file : File) (old new : DeskView) : Type 0 where
  pub part : Made
  pub rest : List ℕ
  pub made : made_of new ≡ part ∷ made_of old
  pub named : part.name ≡ file.name
  pub parts : file.bytes ≡ part.bytes ++ rest
  pub unfinished : (part.standing ≡ NotCreated) ⊎ (part.standing ≡ Broken)
  pub holds : (before after : List File) → files_of old ≡ Some before →
      files_of new ≡ Some after →
      ((part.standing ≡ NotCreated) × (after ≡ before))
      ⊎ ((part.standing ≡ Broken) × (bytes_of after file.name ≡ Some part.bytes))

-- The file of an outcome was made, whole, and nothing else; where it has none, all files are as
-- before.
abbrev pub Makes : Option File → DeskView → DeskView → Type 0
Makes None old new = KeepsFiles old new
Makes (Some file) old new = MakesFile file old new

-- The same where the desk couldn't write.
abbrev pub MakesPart : Option File → DeskView → DeskView → Type 0
MakesPart None old new = KeepsFiles old new
MakesPart (Some file) old new = MakesPrefix file old new

-- The named file was made of these bytes, or a prefix of it where the desk couldn't write. All
-- other files are as before, and no file was opened or read.
pub record MakesAll {T E : Type 0} (name bytes : List ℕ) (old new : DeskView)
    (result : Result T E) : Type 0 where
  pub whole : OnOk result (MakesFile (record { name = name; bytes = bytes }) old new)
  pub part : OnErr result (MakesPrefix (record { name = name; bytes = bytes }) old new)
  pub cause : OnErr result (Rose old.write_faults new.write_faults)
  pub heard : KeepsHeard old new
  pub others : KeepsOthers name old new

-- What a command writes to failed: the file that it makes, and the sink where it makes none.
abbrev pub CannotWrite : Option (List ℕ) → Outside → Outside → Type 0
CannotWrite None old new = Rose old.out.faults new.out.faults
CannotWrite (Some name) old new = Rose old.desk.write_faults new.desk.write_faults

-- A file couldn't be read: the desk's own count rose, or a file is absent and the files say so.
abbrev pub CannotRead : DeskView → DeskView → (List File → Type 0) → Type 0
CannotRead old new IsAbsentIn =
    Rose old.read_faults new.read_faults
    ⊎ (Rose old.absent new.absent
    × ((files : List File) → files_of old ≡ Some files → IsAbsentIn files))

-- Where the files are told, no file was asked for that isn't there, unless this is so.
abbrev pub AsksForNothingAbsent : DeskView → DeskView → Type 0 → Type 0
AsksForNothingAbsent old new IsFault = (files : List File) → files_of old ≡ Some files → ¬ IsFault →
    new.absent ≡ old.absent

-- A plan that was followed into a file has it opened, unless it couldn't be.
abbrev pub IsOpenIn : {A : Type 0} → Reached A → DeskView → Type 0
IsOpenIn (Given value) desk = ⊤
IsOpenIn (Stopped status) desk = ⊤
IsOpenIn (Before name) desk = ⊤
IsOpenIn (Within file text) desk = opened_of desk ≡ Some (opened_by file.ending file.name)

-- The named file was read to its end or to the cap, and nothing else was asked for.
pub record ReadsFile (name : List ℕ) (cap : ℕ) (old new : DeskView)
    (result : Result (Vec ℕ Global) Status) : Type 0 where
  pub file : Heard
  pub named : file.name ≡ name
  pub heard : heard_of new ≡ file ∷ heard_of old
  pub told : IsOneOf (files_of old) file
  pub bytes : IfOk result (λ bytes. file.bytes ≡ bytes.items)
  pub within : IfOk result (λ bytes. length bytes.items ≤ cap)
  pub ending : IfOk result
      (λ bytes. (file.ending ≡ Ended) ⊎ ((file.ending ≡ GoesOn) × (length bytes.items ≡ cap)))
  pub fault : IfErr result
      (λ status. (status ≡ OutOfMemory)
      ⊎ ((status ≡ ReadFault) × (status ≡ status_within file.ending)))
  pub read_fault : result ≡ Err ReadFault → CannotRead old new (λ files. bytes_of files name ≡ None)
  pub opened : (files : List File) → files_of old ≡ Some files →
      opened_of new ≡ Some (opened_by file.ending file.name)
  pub absent : AsksForNothingAbsent old new (result ≡ Err ReadFault)
  pub kept : KeepsFiles old new

-- The bytes of a file were parsed: to a value, to the status of their fault, or to none, where
-- memory ran out.
pub record Parses {X Y : Type 0} (parse : List ℕ → Result Y Status) (seen : X → Y) (bytes : List ℕ)
    (result : Result X Status) : Type 0 where
  pub value : IfOk result (λ x. parse bytes ≡ Ok (seen x))
  pub fault : IfErr result (λ status. (parse bytes ≡ Err status) ⊎ (status ≡ OutOfMemory))
  pub unread : IfErr result (λ status. status ≢ ReadFault)
  pub unreported : IfErr result (λ status. is_reported status ≡ false)
  pub lawful : IfErr result (λ status. is_usage status ≡ false)

-- The answer of a step of a command that was followed so far: a value, or how the command ends.
abbrev pub IsAnswer : {X Y : Type 0} → (X → Y) → Reached Y → Result X Status → Type 0
IsAnswer seen reached (Ok x) = reached ≡ Given (seen x)
IsAnswer seen reached (Err status) = IsCutOff reached status

-- A step of a command followed its plan to a value, or to an end with nothing printed.
pub record Takes {X Y : Type 0} (plan : Plan Y) (seen : X → Y) (old new : DeskView)
    (result : Result X Status) : Type 0 where
  pub reached : Reached Y
  pub follows : Follows (files_of old) plan (heard_of old) (heard_of new) reached
  pub answer : IsAnswer seen reached result
  pub read_fault : result ≡ Err ReadFault →
      CannotRead old new (λ files. found plan files ≡ Err ReadFault)
  pub unreported : IfErr result (λ status. is_reported status ≡ false)
  pub lawful : IfErr result (λ status. is_usage status ≡ false)
  pub absent : AsksForNothingAbsent old new (result ≡ Err ReadFault)
  pub opened : (files : List File) → files_of old ≡ Some files → IsOpenIn reached new
  pub kept : KeepsFiles old new

-- A command that makes the named file, or none, ended by its plan. So it is for every desk and
-- sink: the status, the bytes that `out` took and the file that was made are those of the outcome
-- of what was heard, each file was opened once, and nothing else was asked for.
pub record EndsMaking (makes : Option (List ℕ)) (plan : Plan Outcome) (old new : Outside)
    (status : Status) : Type 0 where
  pub reached : Reached Outcome
  pub follows : Follows (files_of old.desk) plan (heard_of old.desk) (heard_of new.desk) reached
  pub ended : (status ≡ (outcome_of reached).status)
      ⊎ ((status ≡ WriteFault) ⊎ (status ≡ OutOfMemory))
  pub text : status ≢ WriteFault → status ≢ OutOfMemory →
      Gains (outcome_of reached).text old.out new.out
  pub prefix : status ≡ WriteFault → GainsPrefix (outcome_of reached).text old.out new.out
  pub out_of_memory : status ≡ OutOfMemory → Gains [] old.out new.out
  pub steps : is_decided status ≡ true → new.steps ≡ old.steps + (outcome_of reached).transitions
  -- the file of the outcome was made whole, or a prefix of it where it couldn't be written, and
  -- after every other end all files are as before
  pub made : is_decided status ≡ true → Makes (outcome_of reached).made old.desk new.desk
  pub broken : status ≡ WriteFault → MakesPart (outcome_of reached).made old.desk new.desk
  pub unmade : (status ≡ ReadFault) ⊎ (status ≡ OutOfMemory) → KeepsFiles old.desk new.desk
  -- each fault has its cause
  pub read_fault : status ≡ ReadFault →
      CannotRead old.desk new.desk (λ files. (settled (found plan files)).status ≡ ReadFault)
  pub write_fault : status ≡ WriteFault → CannotWrite makes old new
  -- in every case
  pub absent : AsksForNothingAbsent old.desk new.desk (status ≡ ReadFault)
  pub opened : (files : List File) → files_of old.desk ≡ Some files → IsOpenIn reached new.desk
  pub kept : Keeps makes old.desk new.desk
  pub count : old.out.faults ≤ new.out.faults

-- A command that makes no file ended by its plan.
abbrev pub Ends : Plan Outcome → Outside → Outside → Status → Type 0
Ends plan old new status = EndsMaking None plan old new status

-- The same against the files, where the desk tells them: status, text and made file are those of
-- the outcome of the files.
pub record EndsAsTold (expected : Outcome) (old new : Outside) (status : Status) : Type 0 where
  pub decided : is_decided status ≡ true → status ≡ expected.status
  pub text : is_decided status ≡ true → Gains expected.text old.out new.out
  pub prefix : status ≡ WriteFault → GainsPrefix expected.text old.out new.out
  pub steps : is_decided status ≡ true → new.steps ≡ old.steps + expected.transitions
  pub made : is_decided status ≡ true → Makes expected.made old.desk new.desk
  pub broken : status ≡ WriteFault →
      KeepsFiles old.desk new.desk ⊎ MakesPart expected.made old.desk new.desk

-- A line was put to a sink, or a prefix of it where the sink failed.
pub record PutsLine (line : List ℕ) (old new : SinkView) : Type 0 where
  pub told : Gains line old new ⊎ (Rose old.faults new.faults × GainsPrefix line old new)
  pub count : old.faults ≤ new.faults

-- No count of what a command reads or writes to rose.
pub record HasNoFaultMaking (makes : Option (List ℕ)) (old new : Outside) : Type 0 where
  pub read_faults : ¬ Rose old.desk.read_faults new.desk.read_faults
  pub absent : ¬ Rose old.desk.absent new.desk.absent
  pub written : ¬ CannotWrite makes old new

-- The same of a command that makes no file.
abbrev pub HasNoFault : Outside → Outside → Type 0
HasNoFault old new = HasNoFaultMaking None old new

-- The last lines were put, or a prefix of them where the sink failed.
pub record PutsLast (lines : List ℕ) (old new : SinkView) (status : Status) : Type 0 where
  pub puts : ((status ≡ Done) × Gains lines old new)
      ⊎ ((status ≡ WriteFault) × GainsPrefix lines old new × Rose old.faults new.faults)
  pub count : old.faults ≤ new.faults

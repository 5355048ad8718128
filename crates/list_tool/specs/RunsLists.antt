-- What a run promises, before and after it.
use Rattle.std.specs.Prelude.{◌≡◌, ℕ, ◌⊎◌, ◌≤◌, List, [], ◌∷◌, ◌++◌, Option, Some, None, Result, Ok, Err}
use Rattle.std.specs.Prelude.{IfOk, IfErr}
use Rattle.acl_outside.specs.Desk.{File, bytes_of}
use Rattle.acl_outside.specs.Fault.{Rose}
use Rattle.acl_outside.specs.Heard.{Heard, Ended}
use Rattle.acl_outside.specs.Sink.{SinkView, Gains, GainsPrefix}
use Rattle.command_ending.specs.Follow.{IsOneOf, IsOpened}
use Rattle.command_ending.specs.StepEffects.{CannotRead, HasNoFault, KeepsFiles, Outside, PutsLine}
use Rattle.command_ending.specs.StepEffects.{files_of, heard_of}
use Rattle.list_tool.specs.declared.status.ListFault.{ListFault}
use Rattle.list_tool.specs.declared.status.ListStatus.{ListStatus}
use Rattle.list_tool.specs.declared.status.ListStatus.TheVariants.{Done, Usage, Refused, ReadFault}
use Rattle.list_tool.specs.declared.status.ListStatus.TheVariants.{WriteFault, OutOfMemory}
use Rattle.list_tool.specs.Decides.{IsRuleFileOf}
use Rattle.list_tool.specs.Message.{message_after}
use Rattle.list_tool.specs.Printed.{text_of}
use Rattle.list_tool.specs.Words.{Request, command}

-- The list was read to its end, and this is the text of the rule file that is asked for, which
-- decides as the chain of the list does.
pub record Tells (request : Request) (file : Heard) (text : List ℕ) : Type 0 where
  pub whole : file.ending ≡ Ended
  pub said : text_of request file.bytes ≡ Ok text
  pub decides : IsRuleFileOf request file.bytes text

-- All of the text was printed.
pub record PrintsAll (request : Request) (file : Heard) (old new : SinkView) : Type 0 where
  pub text : List ℕ
  pub told : Tells request file text
  pub printed : Gains text old new

-- A first part of it was printed, since the output failed.
pub record PrintsPart (request : Request) (file : Heard) (old new : SinkView) : Type 0 where
  pub text : List ℕ
  pub told : Tells request file text
  pub printed : GainsPrefix text old new
  pub cause : Rose old.faults new.faults

-- The list is refused with its first fault, whatever more of it may come, and nothing was printed.
pub record RefusesList (request : Request) (file : Heard) (fault : ListFault) (old new : SinkView)
    : Type 0 where
  pub opened : IsOpened file.ending
  pub refused : (more : List ℕ) → (file.ending ≡ Ended → more ≡ []) →
      text_of request (file.bytes ++ more) ≡ Err fault
  pub unprinted : Gains [] old new

-- what was printed, by how the run ended, after so much of the list was heard
abbrev pub Prints : Request → Heard → SinkView → SinkView → ListStatus → Type 0
Prints request file old new Done = PrintsAll request file old new
Prints request file old new (Refused fault) = RefusesList request file fault old new
Prints request file old new WriteFault = PrintsPart request file old new
Prints request file old new ReadFault = Gains [] old new
Prints request file old new OutOfMemory = Gains [] old new
Prints request file old new (Usage fault) = ⊥

-- A request was answered: its file was opened once, and nothing else asked for.
pub record AnswersList (request : Request) (old new : Outside) (status : ListStatus) : Type 0 where
  pub file : Heard
  pub named : file.name ≡ request.file
  pub once : heard_of new.desk ≡ file ∷ heard_of old.desk
  -- where the files are told, what was heard is a first part of that file, or all of it
  pub told : IsOneOf (files_of old.desk) file
  pub prints : Prints request file old.out new.out status
  pub read_fault : status ≡ ReadFault →
      CannotRead old.desk new.desk (λ files. bytes_of files request.file ≡ None)
  pub kept : KeepsFiles old.desk new.desk
  pub count : old.out.faults ≤ new.out.faults

-- Words that ask for nothing that is known: nothing is asked or printed.
pub record FaultsWords (old new : Outside) (fault status : ListStatus) : Type 0 where
  pub is : status ≡ fault
  pub silent : new ≡ old

-- how a run ends where there are these files, and what it prints
pub record ListOutcome : Type 0 where
  pub status : ListStatus
  pub text : List ℕ

-- the outcome of a text or a fault
abbrev pub outcome_of_text : Result (List ℕ) ListFault → ListOutcome
outcome_of_text (Ok text) = record { status = Done; text = text }
outcome_of_text (Err fault) = record { status = Refused fault; text = [] }

-- and of a file that is there or not
abbrev pub outcome_of_file : Request → Option (List ℕ) → ListOutcome
outcome_of_file request None = record { status = ReadFault; text = [] }
outcome_of_file request (Some bytes) = outcome_of_text (text_of request bytes)

-- What a run comes to where the outside has no fault and memory suffices.
abbrev pub outcome : Request → List File → ListOutcome
outcome request files = outcome_of_file request (bytes_of files request.file)

-- where the outside has no fault, only memory keeps a run from its outcome
abbrev pub Completes : Request → Outside → Outside → ListStatus → Type 0
Completes request old new status =
    HasNoFault old new → (files : List File) → files_of old.desk ≡ Some files →
    ((status ≡ (outcome request files).status) × Gains (outcome request files).text old.out new.out)
    ⊎ (status ≡ OutOfMemory)

-- All that `run_lists` promises.
pub record RunsLists (words : List (List ℕ)) (old new : Outside) (err_old err_new : SinkView)
    (status : ListStatus) : Type 0 where
  pub answers : IfOk (command words) (λ request. AnswersList request old new status)
  pub usage : IfErr (command words) (λ fault. FaultsWords old new (Usage fault) status)
  pub complete : IfOk (command words) (λ request. Completes request old new status)
  -- the message names the list, and shows the line of it that is refused
  pub message : PutsLine (message_after (heard_of new.desk) status) err_old err_new

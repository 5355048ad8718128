-- What a run comes to: where the outside has no fault, by the files that are there.
use Rattle.std.proofs.Common.{◌≡◌, ℕ, List, [], ◌∷◌, ◌++◌, Some, None, Ok, Err}
use Rattle.std.proofs.Common.{refl, sym, ap, subst, ◌∙◌, inl, inr, append-nil}
use Rattle.acl_outside.specs.Desk.{File, bytes_of}
use Rattle.acl_outside.specs.Heard.{Heard, Ending, Ended}
use Rattle.acl_outside.specs.Sink.{Gains, SinkView}
use Rattle.command_ending.specs.Follow.{IsOneOf, IsOpened, IsPartOf}
use Rattle.command_ending.specs.StepEffects.{CannotRead, Outside, PutsLine, files_of, heard_of}
use Rattle.command_words.specs.declared.usage_fault.UsageFault.{UsageFault}
use Rattle.list_tool.specs.declared.status.ListStatus.{ListStatus}
use Rattle.list_tool.specs.declared.status.ListStatus.TheVariants.{Done, Usage, Refused, ReadFault}
use Rattle.list_tool.specs.declared.status.ListStatus.TheVariants.{WriteFault, OutOfMemory}
use Rattle.list_tool.specs.Printed.{text_of}
use Rattle.list_tool.specs.RunsLists.{AnswersList, Completes, Prints, RunsLists, outcome, outcome_of_file, outcome_of_text}
use Rattle.list_tool.specs.Words.{Request, command}
use Rattle.list_tool.specs.Message.{message, message_after}

-- a file that ended was opened
ended_opened : (ending : Ending) → ending ≡ Ended → IsOpened ending
ended_opened ending is = rw is tt

-- the outcome of a file that is there is that of its bytes
there : (request : Request) (files : List File) (file : Heard) (bytes : List ℕ) → file.name ≡ request.file →
    bytes_of files file.name ≡ Some bytes → outcome request files ≡ outcome_of_text (text_of request bytes)
there request files file bytes named is =
    ap (λ name. outcome_of_file request (bytes_of files name)) (sym named) ∙ ap (outcome_of_file request) is

-- what is printed is the outcome of the files, unless there is a fault or no memory
completes_so : (request : Request) (old new : Outside) (status : ListStatus) (file : Heard) →
    file.name ≡ request.file → IsOneOf (files_of old.desk) file → Prints request file old.out new.out status →
    (status ≡ ReadFault → CannotRead old.desk new.desk (λ files. bytes_of files request.file ≡ None)) →
    Completes request old new status
completes_so request old new Done file named told prints fault none files is =
    let part : IsPartOf files file = told files is (ended_opened file.ending prints.told.whole) in
    let all = part.there ∙ ap (λ rest. Some (file.bytes ++ rest)) (part.whole prints.told.whole)
    ∙ ap Some (append-nil file.bytes) in
    let comes = there request files file file.bytes named all ∙ ap outcome_of_text prints.told.said in
    inl (
      sym (ap (λ o. o.status) comes),
      subst (λ (text : List ℕ). Gains text old.out new.out) (sym (ap (λ o. o.text) comes)) prints.printed,
    )
completes_so request old new (Refused it) file named told prints fault none files is =
    let part : IsPartOf files file = told files is prints.opened in
    let comes = there request files file (file.bytes ++ part.rest) named part.there
    ∙ ap outcome_of_text (prints.refused part.rest part.whole) in
    inl (
      sym (ap (λ o. o.status) comes),
      subst (λ (text : List ℕ). Gains text old.out new.out) (sym (ap (λ o. o.text) comes)) prints.unprinted,
    )
completes_so request old new WriteFault file named told prints fault none files is = absurd (none.written prints.cause)
completes_so request old new ReadFault file named told prints fault none files is =
    elim (fault refl) [
      | inl rose ↦ absurd (none.read_faults rose)
      | inr absent ↦ absurd (none.absent absent.0)
    ]
completes_so request old new OutOfMemory file named told prints fault none files is = inr refl
completes_so request old new (Usage it) file named told prints fault none files is = absurd prints

-- so is each answer
pub completes : (request : Request) (old new : Outside) (status : ListStatus) → AnswersList request old new status →
    Completes request old new status
completes request old new status answers =
    completes_so request old new status answers.file answers.named answers.told answers.prints answers.read_fault

-- words that ask for something: they were answered
pub runs_asked : (words : List (List ℕ)) (request : Request) (old new : Outside) (err_old err_new : SinkView)
    (status : ListStatus) → command words ≡ Ok request → AnswersList request old new status →
    PutsLine (message_after (heard_of new.desk) status) err_old err_new → RunsLists words old new err_old err_new status
runs_asked words request old new err_old err_new status is answers said = record {
  answers = rw is answers;
  usage = rw is tt;
  complete = rw is (completes request old new status answers);
  message = said;
}

-- what tells a usage fault names no list
usage_said : (heard : List Heard) (fault : UsageFault) →
    message [] [] (Usage fault) ≡ message_after heard (Usage fault)
usage_said [] fault = refl
usage_said (file ∷ earlier) fault = refl

-- words that ask for nothing
pub runs_nothing : (words : List (List ℕ)) (fault : UsageFault) (old : Outside) (err_old err_new : SinkView) →
    command words ≡ Err fault → PutsLine (message [] [] (Usage fault)) err_old err_new →
    RunsLists words old old err_old err_new (Usage fault)
runs_nothing words fault old err_old err_new is said = record {
  answers = rw is tt;
  usage = rw is (record { is = refl; silent = refl });
  complete = rw is tt;
  message = subst (λ (line : List ℕ). PutsLine line err_old err_new) (usage_said (heard_of old.desk) fault) said;
}

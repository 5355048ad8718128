-- How a request is answered, whatever it asks for, and how words end that are no command.
use Rattle.std.proofs.Common.{◌≡◌, List, true, false, Some, None, Result, Ok, Err, IfSome, refl, sym, subst, ℕ, ap}
use Rattle.std.proofs.Common.{◌∙◌}
use Rattle.acl_outside.specs.Desk.{File, DeskView}
use Rattle.command_words.specs.declared.usage_fault.UsageFault.{UsageFault}
use Rattle.command_words.specs.Command.{Request, capture_name, made_name}
use Rattle.command_ending.specs.declared.status.Status.{Status}
use Rattle.command_ending.specs.declared.status.Status.TheVariants.{Done, Usage, WriteFault}
use Rattle.command_ending.specs.Endings.{is_reported, is_usage}
use Rattle.command_ending.specs.StepEffects.{Outside, EndsMaking, files_of, heard_of, opened_of}
use Rattle.command_ending.proofs.Offered.{IsFaithful, Ends-stopped, Ends-told}
use Rattle.capture_report.specs.PrintsCapture.{KeepsUp}
use Rattle.acl_tool.specs.Outcome.{plan_of, plan_of_request}
use Rattle.acl_tool.specs.CommandEffects.{Answers}
use Rattle.acl_tool.specs.BuildSaved.{HasImage}
use Rattle.acl_tool.specs.ClassifyTotals.{HasTotals}
use Rattle.std.proofs.lemmas.Bool.{false≢true}

-- What each command shows of its request: how it ended, and what it says of the capture that it reports, if it does.
pub record IsAnswered (request : Request) (old new : Outside) (status : Status) : Type 0 where
  pub faithful : (files : List File) → IsFaithful files (plan_of_request request)
  pub ends : EndsMaking (made_name request) (plan_of_request request) old new status
  pub lawful : is_usage status ≡ false
  pub opened : (files : List File) → files_of old.desk ≡ Some files → is_reported status ≡ true →
      IfSome (capture_name request) (λ name. opened_of new.desk ≡ Some (Some name))
  pub totals : is_reported status ≡ true → HasTotals request (heard_of old.desk) (heard_of new.desk)
  pub image : status ≡ Done → HasImage request (heard_of old.desk) (heard_of new.desk)
  pub keeps_up : status ≡ WriteFault → IfSome (capture_name request) (λ name. KeepsUp name old new)

-- A request was answered, as it ended.
pub Answers-request : (request : Request) (old new : Outside) (status : Status) →
    IsAnswered request old new status → Answers (Ok request) old new status
Answers-request request old new status is = record {
  usage = tt;
  usage_only = is.lawful;
  usage_is_silent = tt;
  ends = is.ends;
  told = Ends-told (plan_of_request request) old new status is.faithful is.ends;
  opened = is.opened;
  totals = is.totals;
  image = is.image;
  keeps_up = is.keeps_up;
}

-- Nothing was asked and nothing was printed.
pub Answers-usage : (request : Result Request UsageFault) (fault : UsageFault) (view : Outside) → request
    ≡ Err fault →
    Answers request view view (Usage fault)
Answers-usage request fault view is =
    let ends : EndsMaking None (plan_of (Err fault)) view view (Usage fault) =
    Ends-stopped None (Usage fault) view refl refl in
    subst (λ (r : Result Request UsageFault). Answers r view view (Usage fault)) (sym is)
    record {
      usage = refl;
      usage_only = tt;
      usage_is_silent = refl;
      ends = ends;
      told = Ends-told (plan_of (Err fault)) view view (Usage fault) (λ files. tt) ends;
      opened = λ files told reported. tt;
      totals = λ reported. tt;
      image = λ done. tt;
      keeps_up = λ e. tt;
    }

-- the desk heard of another file before the capture
pub keeps_up_later : (capture : List ℕ) (old new : Outside) (mid : DeskView) →
    KeepsUp capture (record old { desk = mid }) new → KeepsUp capture old new
keeps_up_later capture old new mid k = record {
  file = k.file;
  named = k.named;
  newest = k.newest;
  put = k.put;
  gains = k.gains;
  few = k.few;
}

-- a status that is no usage fault isn't this one
pub no_usage : {A : Type 0} (status : Status) (usage : UsageFault) → is_usage status ≡ false → status ≡ Usage usage → A
no_usage status usage lawful is = absurd (false≢true (sym lawful ∙ ap is_usage is))

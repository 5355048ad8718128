-- What a command promises, before and after it.
use Rattle.std.specs.Prelude.{◌≡◌, ℕ, ◌⊎◌, List, false, true, Option, Some, None, Result, Ok, Err}
use Rattle.std.specs.Prelude.{IfOk, IfErr, IfSome}
use Rattle.acl_outside.specs.Desk.{File}
use Rattle.acl_outside.specs.Sink.{SinkView}
use Rattle.command_ending.specs.declared.status.Status.{Status}
use Rattle.command_ending.specs.declared.status.Status.TheVariants.{Done, Usage, WriteFault}
use Rattle.command_ending.specs.declared.status.Status.TheVariants.{OutOfMemory}
use Rattle.command_words.specs.declared.usage_fault.UsageFault.{UsageFault}
use Rattle.command_words.specs.Command.{Request, capture_name, made_name, command}
use Rattle.command_ending.specs.Message.{message}
use Rattle.command_ending.specs.Plan.{found, settled}
use Rattle.command_ending.specs.Endings.{is_reported, is_usage}
use Rattle.acl_tool.specs.BuildSaved.{HasImage}
use Rattle.acl_tool.specs.Outcome.{outcome, plan_of}
use Rattle.acl_tool.specs.Headline.{ClassifyPrints}
use Rattle.acl_tool.specs.BenchWalks.{BenchWalks}
use Rattle.acl_tool.specs.ClassifyWalks.{ClassifyWalks}
use Rattle.acl_tool.specs.ClassifySizes.{ClassifySizes}
use Rattle.acl_tool.specs.BuildMakes.{BuildMakes}
use Rattle.acl_tool.specs.ReplayPrints.{ReplayPrints}
use Rattle.acl_tool.specs.AuditTells.{AuditTells}
use Rattle.acl_tool.specs.CompareTells.{CompareTells}
use Rattle.acl_tool.specs.SessionTells.{SessionTells}
use Rattle.command_ending.specs.StepEffects.{Outside, EndsMaking, EndsAsTold, HasNoFaultMaking, PutsLine}
use Rattle.command_ending.specs.StepEffects.{files_of, heard_of, opened_of}
use Rattle.capture_report.specs.PrintsCapture.{KeepsUp}
use Rattle.acl_tool.specs.ClassifyTotals.{HasTotals}

-- the name of the file that a request makes, if it makes one; words that are no command make none
abbrev pub makes_of : Result Request UsageFault → Option (List ℕ)
makes_of (Ok request) = made_name request
makes_of (Err fault) = None

-- A request or a usage fault was answered: all that is promised of a command but its message.
pub record Answers (request : Result Request UsageFault) (old new : Outside)
    (status : Status) : Type 0 where
  -- a usage fault comes exactly of such words, whatever memory and the outside do, and then nothing
  -- is asked or printed
  pub usage : IfErr request (λ fault. status ≡ Usage fault)
  pub usage_only : IfOk request (λ _. is_usage status ≡ false)
  pub usage_is_silent : IfErr request (λ _. new ≡ old)
  pub ends : EndsMaking (makes_of request) (plan_of request) old new status
  -- where the desk tells its files
  pub told : (files : List File) → files_of old.desk ≡ Some files →
      EndsAsTold (settled (found (plan_of request) files)) old new status
  pub opened : (files : List File) → files_of old.desk ≡ Some files → is_reported status ≡ true →
      IfOk request (λ r. IfSome (capture_name r)
      (λ name. opened_of new.desk ≡ Some (Some name)))
  -- the tables that a report tells have the words of their splits
  pub totals : is_reported status ≡ true →
      IfOk request (λ r. HasTotals r (heard_of old.desk) (heard_of new.desk))
  -- the image that is made is one
  pub image : status ≡ Done → IfOk request (λ r. HasImage r (heard_of old.desk) (heard_of new.desk))
  -- lines are put soon after their records were read
  pub keeps_up : status ≡ WriteFault →
      IfOk request (λ r. IfSome (capture_name r) (λ name. KeepsUp name old new))

-- All that `run` promises.
pub record Runs (words : List (List ℕ)) (old new : Outside) (err_old err_new : SinkView)
    (status : Status) : Type 0 where
  -- what is printed, said by rule lines, winners, captures, headers and lines alone
  pub prints : ClassifyPrints words status (heard_of old.desk) (heard_of new.desk) old.out.taken
      new.out.taken
  -- how many transitions are taken, by the tables of the rules, and how many at most
  pub walks : ClassifyWalks words status (heard_of old.desk) (heard_of new.desk) old.steps new.steps
  pub bench_walks : BenchWalks words status old.steps new.steps
  -- how large the tables are that are told, and when rules are too large
  pub sizes : ClassifySizes words status (heard_of old.desk) (heard_of new.desk) old.out.taken
      new.out.taken old.steps new.steps
  -- the image that is made, and what is printed by an image
  pub builds : BuildMakes words status old new
  pub replays : ReplayPrints words status old new
  -- which rules are told as live, and at which least keys
  pub audits : AuditTells words status old new
  -- whether two lists decide alike
  pub compares : CompareTells words status old new
  -- the replies to a script
  pub sessions : SessionTells words status old new
  pub answers : Answers (command words) old new status
  -- where the outside has no fault, only memory keeps the command from its outcome
  pub complete : HasNoFaultMaking (makes_of (command words)) old new → (files : List File) →
      files_of old.desk ≡ Some files →
      (status ≡ (outcome words files).status) ⊎ (status ≡ OutOfMemory)
  pub message : PutsLine (message status) err_old err_new

-- How `session` ends, link by link.
use Rattle.std.proofs.Common.{◌≡◌, ℕ, ◌+◌, ◌<◌, List, ◌++◌, length, length-append, false, None, Ok, Err, refl, sym}
use Rattle.std.proofs.Common.{subst, ◌∙◌, arith}
use Rattle.std.proofs.lemmas.Bool.{lt-ltb}
use Rattle.acl_outside.specs.Desk.{File, DeskView}
use Rattle.acl_outside.specs.Sink.{SinkView}
use Rattle.command_words.specs.Command.{Session}
use Rattle.command_ending.specs.declared.status.Status.{Status}
use Rattle.command_ending.specs.declared.status.Status.TheVariants.{Done, ScriptRefused}
use Rattle.command_ending.specs.Plan.{printed}
use Rattle.command_ending.specs.Endings.{is_usage}
use Rattle.command_ending.specs.StepEffects.{Ends, Outside, PutsLast, Takes, outside}
use Rattle.command_ending.proofs.Offered.{BeginsWith-nothing, IsFaithful, faithful_unless, Ends-cut, Ends-put, Ends-then}
use Rattle.acl_tool.specs.Texts.{only_text}
use Rattle.acl_tool.specs.SessionPlan.{max_script, replies_in, replies_of, session_plan}
use Rattle.acl_tool.specs.CommandEffects.{Answers}
use Rattle.acl_tool.proofs.Answering.{Answers-request}
use Rattle.acl_tool.proofs.Texts.{lawful_put}

-- a script of too many bytes is refused
long_script : (bytes : List ℕ) → max_script < length bytes → replies_of bytes ≡ Err ScriptRefused
long_script bytes long = rw (lt-ltb max_script (length bytes) long) refl

-- one byte past the limit tells all of a script
pub replies_of-more : (front more : List ℕ) → length front ≡ max_script + 1 →
    replies_of (front ++ more) ≡ replies_of front
replies_of-more front more long =
    long_script (front ++ more) (omega (arith, length-append front more, long))
    ∙ sym (long_script front (omega (arith, long)))

-- what `session` prints while it reads is the first part of what it prints in all
script_faithful : (script : List ℕ) (files : List File) → IsFaithful files (session_plan script)
script_faithful script files = (
  λ bytes more. BeginsWith-nothing _,
  λ bytes. faithful_unless files (replies_of bytes) only_text (λ text. tt),
)

-- a request that ended so
answered : (script : List ℕ) (old new : Outside) (status : Status) → Ends (session_plan script) old new status →
    is_usage status ≡ false → Answers (Ok (Session script)) old new status
answered script old new status ends lawful =
    Answers-request (Session script) old new status
    record {
      faithful = script_faithful script;
      ends = ends;
      lawful = lawful;
      opened = λ files told reported. tt;
      totals = λ reported. tt;
      image = λ done. tt;
      keeps_up = λ w. tt;
    }

-- the script ends the command
pub Session-refused : {X : Type 0} (script : List ℕ) (seen : X → List ℕ) (old : Outside) (desk : DeskView)
    (status : Status) → Takes (replies_in script) seen old.desk desk (Err status) →
    Answers (Ok (Session script)) old (record old { desk = desk }) status
Session-refused script seen old desk status step =
    answered script old (record old { desk = desk }) status
    (Ends-cut None (replies_in script) seen only_text old desk status step) step.lawful

-- the replies were put
pub Session-put : {X : Type 0} (script : List ℕ) (seen : X → List ℕ) (old : Outside) (desk : DeskView) (out : SinkView)
    (replies : X) (status : Status) → Takes (replies_in script) seen old.desk desk (Ok replies) →
    PutsLast (seen replies) old.out out status →
    Answers (Ok (Session script)) old (outside desk out old.steps) status
Session-put script seen old desk out replies status step puts =
    let new : Outside = outside desk out old.steps in
    let text : List ℕ = seen replies in
    let put : Ends (only_text text) (outside desk old.out old.steps) new status =
    subst (λ (n : ℕ). Ends (only_text text) (outside desk old.out old.steps) (outside desk out n) status)
    (let same : old.steps + 0 ≡ old.steps = omega arith in same)
    (Ends-put (printed Done text 0) desk old.out out old.steps status refl refl puts) in
    answered script old new status
    (Ends-then None (replies_in script) seen only_text old new desk replies status step put)
    (lawful_put text old.out out status puts)

-- What `session` told, by what was heard.
use Rattle.std.proofs.Common.{◌≡◌, ℕ, ◌+◌, ◌<◌, List, [], ◌∷◌, ◌++◌, length, length-append, Bool, true, false, Option}
use Rattle.std.proofs.Common.{Result, Ok, Err, inl, inr, refl, sym, ap, subst, ◌∙◌, append-nil, arith}
use Rattle.std.specs.Prelude.{codes, nat_lt, if◌then◌else◌, ◌⊎◌}
use Rattle.std.proofs.lemmas.Bool.{false≢true, lt-ltb, ltb-true}
use Rattle.acl_outside.specs.Desk.{File}
use Rattle.acl_outside.specs.Heard.{Heard, Ended}
use Rattle.acl_session.specs.Session.{session_of}
use Rattle.command_words.specs.Options.{for_session}
use Rattle.command_words.specs.Command.{asked_by, command, session_request, single_of}
use Rattle.command_ending.specs.declared.status.Status.{Status}
use Rattle.command_ending.specs.declared.status.Status.TheVariants.{Done, OutOfMemory, ScriptRefused, WriteFault}
use Rattle.command_ending.specs.Plan.{Outcome, Plan, ◌>>=◌, nothing, unless_refused}
use Rattle.command_ending.specs.Follow.{Reached, Follows, IsEnough, outcome_of}
use Rattle.command_ending.specs.Endings.{is_usage}
use Rattle.command_ending.specs.StepEffects.{Ends, Outside, files_of, heard_of}
use Rattle.acl_tool.specs.Texts.{only_text}
use Rattle.acl_tool.specs.SessionPlan.{max_script, replies_of, session_plan}
use Rattle.acl_tool.specs.SessionTells.{HearsScript, PrintsReplies, RefusesScript, SessionTells}
use Rattle.acl_tool.specs.CommandEffects.{Answers}
use Rattle.acl_tool.proofs.Answering.{no_usage}
use Rattle.acl_tool.proofs.ReadOn.{done_told}
use Rattle.acl_tool.proofs.ReadOn.{IsTest, ReadsOn, is_told, longer, read_on, told_test, unless_on}
use Rattle.acl_tool.proofs.WholeRules.{stops}

-- The words are a name, and the command ended by its plan.
record Asked (words : List (List ℕ)) (old new : Outside) (status : Status) : Type 0 where
  script : List ℕ
  is : words ≡ codes "session" ∷ script ∷ []
  ends : Ends (session_plan script) old new status

-- words after `session` that were answered are a name
asked_after : (after : List (List ℕ)) (old new : Outside) (status : Status) → is_usage status ≡ false →
    Answers (asked_by session_request (single_of for_session after)) old new status →
    Asked (codes "session" ∷ after) old new status
asked_after [] old new status lawful answers = no_usage status _ lawful answers.usage
asked_after (script ∷ []) old new status lawful answers =
    record { script = script; is = refl; ends = answers.ends }
asked_after (script ∷ word ∷ words) old new status lawful answers = no_usage status _ lawful answers.usage

-- the words of a `session` that was answered are `session` and a name
asked_words : (words : List (List ℕ)) (old new : Outside) (status : Status) → Answers (command words) old new status →
    is_usage status ≡ false → (after : List (List ℕ)) → words ≡ codes "session" ∷ after → Asked words old new status
asked_words words old new status answers lawful after is =
    subst (λ (w : List (List ℕ)). Asked w old new status) (sym is)
    (asked_after after old new status lawful
    (subst (λ (w : List (List ℕ)). Answers (command w) old new status) is answers))

-- what comes after the bytes of the script
abbrev after_bytes : List ℕ → Plan Outcome
after_bytes bytes = unless_refused (replies_of bytes) >>= only_text

-- what is said of the bytes: a script that is too long is refused, and any other has its replies
abbrev said_if : Bool → List ℕ → Result (List ℕ) Status
said_if long bytes = if long then Err ScriptRefused else Ok (session_of bytes)

-- what is said of a script are its replies
text_is : (long : Bool) (bytes text : List ℕ) → said_if long bytes ≡ Ok text → text ≡ session_of bytes
text_is true bytes text is = absurd (cc)
text_is false bytes text is = cc

-- a script that is refused comes without a report
untold : (long : Bool) (bytes : List ℕ) (status : Status) → said_if long bytes ≡ Err status → is_told status ≡ false
untold true bytes status is = let same : ScriptRefused ≡ status = cc in rw (← same) refl
untold false bytes status is = absurd (cc)

-- a script that is refused is too long
is_long : (long : Bool) (bytes : List ℕ) (status : Status) → nat_lt max_script (length bytes) ≡ long →
    said_if long bytes ≡ Err status → max_script < length bytes
is_long true bytes status test is = ltb-true max_script (length bytes) test
is_long false bytes status test is = absurd (cc)

-- with enough bytes more the script would be too long, and the command would stop
whole_script : (file : Heard) (text : List ℕ) → replies_of file.bytes ≡ Ok text → IsEnough after_bytes file →
    file.ending ≡ Ended
whole_script file text said (inl ended) = ended
whole_script file text said (inr on) =
    let (more, is_more) = longer max_script in
    let long : replies_of (file.bytes ++ more) ≡ Err ScriptRefused =
    rw (lt-ltb max_script (length (file.bytes ++ more)) (omega (arith, length-append file.bytes more, is_more))) refl in
    let stopped : stops (after_bytes (file.bytes ++ more)) ≡ true =
    ap (λ (r : Result (List ℕ) Status). stops (unless_refused r >>= only_text)) long in
    let going : stops (after_bytes file.bytes) ≡ false =
    ap (λ (r : Result (List ℕ) Status). stops (unless_refused r >>= only_text)) said in
    absurd (false≢true (sym going ∙ ap stops (sym ((on.1) more)) ∙ stopped))

-- what is heard of the script, by the words
hears : (words : List (List ℕ)) (script : List ℕ) (file : Heard) (old new : Outside) →
    words ≡ codes "session" ∷ script ∷ [] → file.name ≡ script → heard_of new.desk ≡ file ∷ heard_of old.desk →
    HearsScript words old new
hears words script file old new is named newest = record {
  script = file;
  named = is ∙ ap (λ (name : List ℕ). codes "session" ∷ name ∷ []) (sym named);
  once = newest;
}

-- Where `session` is done, its replies were taken.
prints : (words : List (List ℕ)) (old new : Outside) → Asked words old new Done → PrintsReplies words old new
unfolding hears
prints words old new asked =
    let ends = asked.ends in
    let passed = done_told (outcome_of ends.reached).status ends.ended in
    let first : ReadsOn (files_of old.desk) asked.script after_bytes (heard_of old.desk) (heard_of new.desk)
    ends.reached =
    read_on is_told told_test (files_of old.desk) asked.script nothing after_bytes (heard_of old.desk)
    (heard_of new.desk) ends.reached ends.follows passed in
    let bytes = first.file.bytes in
    let (text, said, last) =
    unless_on is_told (files_of old.desk) (replies_of bytes) only_text (first.file ∷ heard_of old.desk)
    (heard_of new.desk) ends.reached first.rest passed
    (λ status e. untold (nat_lt max_script (length bytes)) bytes status e) in
    let gains = ends.text (λ e. absurd (cc)) (λ e. absurd (cc)) in
    let steps : new.steps ≡ old.steps + 0 =
    ends.steps refl ∙ ap (λ (r : Reached Outcome). old.steps + (outcome_of r).transitions) (last.1) in
    record {
      heard = hears words asked.script first.file old new asked.is first.named (last.0);
      whole = whole_script first.file text said first.enough;
      taken =
          gains.taken
          ∙ ap (λ (r : Reached Outcome). old.out.taken ++ (outcome_of r).text) (last.1)
          ∙ ap (λ (t : List ℕ). old.out.taken ++ t)
          (text_is (nat_lt max_script (length bytes)) bytes text said);
      steps = steps ∙ omega arith;
    }

-- a script that is too long
abbrev is_refused : Status → Bool
is_refused ScriptRefused = true
is_refused status = false

-- no end within a file is that of a script that is too long
refused_test : IsTest is_refused
refused_test = record { unread = refl; full = refl }

-- a command that ends with a script that is too long has this status
refused_status : (status : Status) →
    (ScriptRefused ≡ status) ⊎ ((ScriptRefused ≡ WriteFault) ⊎ (ScriptRefused ≡ OutOfMemory)) → ScriptRefused ≡ status
refused_status status (inl is) = is
refused_status status (inr (inl written)) = absurd (cc)
refused_status status (inr (inr full)) = absurd (cc)

-- What was heard of a script that is too long.
record Long (bytes : List ℕ) (file : Heard) (old new : List Heard) (reached : Reached Outcome) : Type 0 where
  long : max_script < length bytes
  newest : new ≡ file ∷ old
  silent : (outcome_of reached).text ≡ []

-- a command that ends with a script that is too long heard it, and printed nothing
long_bytes : (bytes : List ℕ) (told : Option (List File)) (file : Heard) (old new : List Heard)
    (reached : Reached Outcome) → ScriptRefused ≡ (outcome_of reached).status →
    Follows told (after_bytes bytes) (file ∷ old) new reached → Long bytes file old new reached
long_bytes bytes told file old new reached is follows = go (replies_of bytes) refl follows
  where
    go : (said : Result (List ℕ) Status) → replies_of bytes ≡ said →
        Follows told (unless_refused said >>= only_text) (file ∷ old) new reached → Long bytes file old new reached
    go (Ok text) at rest = absurd (
        let done : ScriptRefused ≡ Done = is ∙ ap (λ (r : Reached Outcome). (outcome_of r).status) (rest.1) in cc)
    go (Err refusal) at rest = record {
      long = is_long (nat_lt max_script (length bytes)) bytes refusal refl at;
      newest = rest.0;
      silent = ap (λ (r : Reached Outcome). (outcome_of r).text) (rest.1);
    }

-- Where the script is too long, nothing was taken.
refuses : (words : List (List ℕ)) (old new : Outside) → Asked words old new ScriptRefused →
    RefusesScript words old new
unfolding hears
refuses words old new asked =
    let ends = asked.ends in
    let same = refused_status (outcome_of ends.reached).status ends.ended in
    let first : ReadsOn (files_of old.desk) asked.script after_bytes (heard_of old.desk) (heard_of new.desk)
    ends.reached =
    read_on is_refused refused_test (files_of old.desk) asked.script nothing after_bytes (heard_of old.desk)
    (heard_of new.desk) ends.reached ends.follows (sym (ap is_refused same)) in
    let l = long_bytes first.file.bytes (files_of old.desk) first.file (heard_of old.desk) (heard_of new.desk)
    ends.reached same first.rest in
    let gains = ends.text (λ e. absurd (cc)) (λ e. absurd (cc)) in
    record {
      heard = hears words asked.script first.file old new asked.is first.named l.newest;
      long = l.long;
      taken = gains.taken ∙ ap (λ (t : List ℕ). old.out.taken ++ t) l.silent ∙ append-nil old.out.taken;
    }

-- a `session` that is done, or whose script is too long, did so
pub session_tells : (words : List (List ℕ)) (old new : Outside) (status : Status) →
    Answers (command words) old new status → SessionTells words status old new
session_tells words old new status answers = record {
  prints = λ after is done.
      prints words old new
      (asked_words words old new Done (subst (λ (s : Status). Answers (command words) old new s) done answers) refl
      after is);
  refuses = λ after is refused.
      refuses words old new
      (asked_words words old new ScriptRefused
      (subst (λ (s : Status). Answers (command words) old new s) refused answers) refl after is);
}

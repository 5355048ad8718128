-- Commands that print one text end by it, or by its refusal.
use Rattle.std.proofs.Common.{◌≡◌, ℕ, ◌+◌, List, true, false, None, Result, Ok, inl, inr, refl, sym, ap, subst, arith}
use Rattle.std.proofs.lemmas.Bool.{false≢true}
use Rattle.acl_outside.specs.Desk.{DeskView}
use Rattle.acl_outside.specs.Sink.{SinkView}
use Rattle.command_ending.specs.declared.status.Status.{Status}
use Rattle.command_ending.specs.declared.status.Status.TheVariants.{Done, TooLarge, TooManyTogether}
use Rattle.command_ending.specs.Plan.{Outcome, Plan, ◌>>=◌, printed, unless_refused}
use Rattle.command_ending.specs.Endings.{is_decided, is_reported, is_usage}
use Rattle.command_ending.specs.StepEffects.{Ends, Outside, PutsLast, outside}
use Rattle.command_ending.proofs.Offered.{Ends-stopped, Ends-full, Ends-put}
use Rattle.acl_tool.specs.Texts.{Refuses, is_refusal, only_text}

-- a refusal is decided by words and files, comes without a report, and isn't of the words
record IsPlain (status : Status) : Type 0 where
  decided : is_decided status ≡ true
  unreported : is_reported status ≡ false
  lawful : is_usage status ≡ false

-- each refusal is such a status
plain : (status : Status) → is_refusal status ≡ true → IsPlain status
plain (TooLarge family words budget) is = record { decided = refl; unreported = refl; lawful = refl }
plain TooManyTogether is = record { decided = refl; unreported = refl; lawful = refl }
plain status is = absurd (false≢true is)

-- what is printed of a text, or its refusal
abbrev pub told : Result (List ℕ) Status → Plan Outcome
told said = unless_refused said >>= only_text

-- the text was put
pub Ends-text : (said : Result (List ℕ) Status) (text : List ℕ) (desk : DeskView) (out_old out_new : SinkView)
    (steps : ℕ) (status : Status) → said ≡ Ok text → PutsLast text out_old out_new status →
    Ends (told said) (outside desk out_old steps) (outside desk out_new steps) status
Ends-text said text desk out_old out_new steps status is puts =
    rw is (subst (λ (n : ℕ). Ends (only_text text) (outside desk out_old steps) (outside desk out_new n) status)
    (let same : steps + 0 ≡ steps = omega arith in same)
    (Ends-put (printed Done text 0) desk out_old out_new steps status refl refl puts))

-- the rules are refused, or there is no memory
pub Ends-refused : (said : Result (List ℕ) Status) (view : Outside) (status : Status) → Refuses said status →
    Ends (told said) view view status
Ends-refused said view status (inl (is, refusal)) =
    rw is (Ends-stopped None status view (plain status refusal).unreported (plain status refusal).decided)
Ends-refused said view status (inr full) =
    subst (Ends (told said) view view) (sym full) (Ends-full None (told said) view)

-- neither is a fault of the words
pub lawful_put : (text : List ℕ) (old new : SinkView) (status : Status) → PutsLast text old new status →
    is_usage status ≡ false
lawful_put text old new status puts = elim puts.puts [ inl all ↦ ap is_usage all.0 | inr part ↦ ap is_usage part.0 ]

-- a command that refuses its rules, or has no memory, isn't refused for its words
pub lawful_refusal : {A : Type 0} (said : Result A Status) (status : Status) → Refuses said status →
    is_usage status ≡ false
lawful_refusal said status (inl (is, refusal)) = (plain status refusal).lawful
lawful_refusal said status (inr full) = ap is_usage full

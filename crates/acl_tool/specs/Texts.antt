-- Commands that print one text, which is whole before its first byte is put.
use Rattle.std.specs.Prelude.{◌≡◌, ℕ, ◌⊎◌, List, Bool, true, false, Result, Ok, Err, IfOk, IfErr}
use Rattle.std.specs.declared.vec.Vec.{Vec}
use Rattle.std.specs.declared.alloc.Global.{Global}
use Rattle.command_ending.specs.declared.status.Status.{Status}
use Rattle.command_ending.specs.declared.status.Status.TheVariants.{Done, OutOfMemory}
use Rattle.command_ending.specs.declared.status.Status.TheVariants.{TooLarge, TooManyTogether}
use Rattle.command_ending.specs.Plan.{Outcome, Plan, Give, printed}

-- the text is printed, and no transition taken
abbrev pub only_text : List ℕ → Plan Outcome
only_text text = Give (printed Done text 0)

-- a status that says of rules that they are too large or too many
abbrev pub is_refusal : Status → Bool
is_refusal (TooLarge family words budget) = true
is_refusal TooManyTogether = true
is_refusal status = false

infixl 10 ◌>>=◌
-- a value, and then what comes of it, or the status of its refusal
abbrev pub ◌>>=◌ : {A B : Type 0} → Result A Status → (A → Result B Status) → Result B Status
(Ok value) >>= next = next value
(Err status) >>= next = Err status

-- The rules are refused, as is said, or memory ran out.
abbrev pub Refuses : {A : Type 0} → Result A Status → Status → Type 0
Refuses said status = ((said ≡ Err status) × (is_refusal status ≡ true)) ⊎ (status ≡ OutOfMemory)

-- The text is the one that is said, or none was made.
pub record Tells (said : Result (List ℕ) Status) (result : Result (Vec ℕ Global) Status)
    : Type 0 where
  pub text : IfOk result (λ text. said ≡ Ok text.items)
  pub refused : IfErr result (Refuses said)

-- First faults: of a list of checks the first that fails says what is wrong.
use Rattle.std.specs.Prelude.{ℕ, List, [], ◌∷◌, Bool, true, false, not, Option, Some, None}
use Rattle.std.specs.List.{find, range_with_len}

-- the fault where the test fails
abbrev pub fault_unless : {F : Type 0} → Bool → F → Option F
fault_unless true fault = None
fault_unless false fault = Some fault

-- the first of the faults that is there
abbrev pub first_of : {F : Type 0} → List (Option F) → Option F
first_of [] = None
first_of (None ∷ faults) = first_of faults
first_of (Some fault ∷ faults) = Some fault

-- the least number below the count at which the test fails
unfoldable pub failing_number : (ℕ → Bool) → ℕ → Option ℕ
failing_number holds count = find (λ number. not (holds number)) (range_with_len 0 count)

-- Loops that make something element by element, up to the first fault.
use Rattle.std.proofs.Common.{◌≡◌, ℕ, List, drop, Result}
use Rattle.cisco_reader.specs.declared.fault.LineFault.{LineFault}
use Rattle.cisco_reader.specs.Read.{all_after}

-- of some elements so many were gone over, and those that are left make of this state what all make
pub record IsMadeUpTo {S X : Type 0} (step : S → X → Result S LineFault) (start : S) (xs : List X) (k : ℕ)
    (state : S) : Type 0 where
  pub same : all_after step start xs ≡ all_after step state (drop k xs)

-- Lines in which groups are replaced by theirs, by how many times are left.
use Rattle.std.proofs.Common.{◌≡◌, ℕ, zero, suc, ◌-◌, ◌<◌, List, Some, None, Ok, Err, Result}
use Rattle.std.proofs.Common.{refl, ap, ◌∙◌, arith}
use Rattle.cisco_reader.specs.declared.fault.CiscoFault.{CiscoFault}
use Rattle.cisco_reader.specs.declared.fault.CiscoFault.TheVariants as cisco
use Rattle.cisco_reader.specs.declared.fault.LineFault.{LineFault}
use Rattle.cisco_reader.specs.declared.fault.LineKind.TheVariants.{GroupLoop}
use Rattle.cisco_reader.specs.Groups.{ListedGroup}
use Rattle.cisco_reader.specs.Lines.{TextLine}
use Rattle.cisco_reader.specs.Held.{all_opened, first_naming, number_at, opened_times}
use Rattle.cisco_reader.specs.Read.{◌>>=◌}
use Rattle.cisco_reader.specs.Read.{Fails}

-- no group is named
pub opened_none : (times : ℕ) (groups : List ListedGroup) (kind : List ℕ) (number : ℕ) (lines : List TextLine) →
    first_naming lines ≡ None → opened_times times groups kind number lines ≡ Ok lines
unfolding opened_times
opened_none zero groups kind number lines none = rw none refl
opened_none (suc times) groups kind number lines none = rw none refl

-- lines that aren't read, since a group is named in a loop
abbrev pub loop_at : ℕ → Result (List TextLine) LineFault
loop_at number = Err (record { line = number; kind = GroupLoop })

-- one is named, and no time is left
pub opened_loop : (groups : List ListedGroup) (kind : List ℕ) (number : ℕ) (lines : List TextLine) (place : ℕ) →
    first_naming lines ≡ Some place →
    opened_times 0 groups kind number lines ≡ loop_at (number_at lines place)
unfolding opened_times
opened_loop groups kind number lines place named = rw named refl

-- one is named, and some time is left
pub opened_some : (times : ℕ) (groups : List ListedGroup) (kind : List ℕ) (number : ℕ) (lines : List TextLine)
    (place : ℕ) → 0 < times → first_naming lines ≡ Some place →
    opened_times times groups kind number lines
    ≡ (all_opened groups kind number lines >>= opened_times (times - 1) groups kind number)
unfolding opened_times
opened_some zero groups kind number lines place some named = absurd (omega (arith, some))
opened_some (suc times) groups kind number lines place some named =
    let e : suc times - 1 ≡ times = omega arith in rw (named, e) refl

-- then the lines are opened once
pub opened_once : (times : ℕ) (groups : List ListedGroup) (kind : List ℕ) (number : ℕ) (lines more : List TextLine)
    (place : ℕ) → 0 < times → first_naming lines ≡ Some place → all_opened groups kind number lines ≡ Ok more →
    opened_times times groups kind number lines ≡ opened_times (times - 1) groups kind number more
opened_once times groups kind number lines more place some named said =
    opened_some times groups kind number lines place some named
    ∙ ap (λ (made : Result (List TextLine) LineFault). made >>= opened_times (times - 1) groups kind number) said

-- or they can't be
pub not_opened : (times : ℕ) (groups : List ListedGroup) (kind : List ℕ) (number : ℕ) (lines : List TextLine)
    (place : ℕ) → 0 < times → first_naming lines ≡ Some place → (fault : CiscoFault) →
    Fails (all_opened groups kind number lines) fault → Fails (opened_times times groups kind number lines) fault
not_opened times groups kind number lines place some named (cisco.Line fault) said =
    opened_some times groups kind number lines place some named
    ∙ ap (λ (made : Result (List TextLine) LineFault). made >>= opened_times (times - 1) groups kind number) said
not_opened times groups kind number lines place some named cisco.OutOfMemory said = tt

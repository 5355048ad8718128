use Rattle.std.proofs.Common.{◌≡◌, length}
use Rattle.field_defs.specs.Faults.{failing_number}
use Rattle.field_defs.specs.LayoutFault.{passes}
use Rattle.field_defs.proofs.Faultless.{failing_from}
use Rattle.field_defs.proofs.lawful.DefCheck.first_failing.Given as goal

-- the first that fails is the first of the places to come
abbrev pub invariant-loop-place : goal.invariant-loop-place
invariant-loop-place l =
    failing_number (passes l.self l.defs) (length l.defs) ≡ failing_from (passes l.self l.defs) l.place (length l.defs)

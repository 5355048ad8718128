-- no rule before the place was refused
use Rattle.std.proofs.Common.{◌≡◌, map}
use Rattle.acl_context.proofs.Refusals.{first_from}
use Rattle.field_defs.specs.Faults.{first_of}
use Rattle.acl_context.specs.Add.{refusals}
use Rattle.acl_context.proofs.add.check_all.Given as goal

abbrev pub invariant-loop-place : goal.invariant-loop-place
invariant-loop-place g l =
    first_of (refusals l.layout (map g.R.Given.view l.rules)) ≡ first_from l.layout (map g.R.Given.view l.rules)
    l.place

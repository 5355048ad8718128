-- the links so far, with those of the runs that are left, are those of all runs
use Rattle.std.proofs.Common.{◌≡◌, drop}
use Rattle.acl_audit.specs.Links.{runs_linked}
use Rattle.acl_audit.proofs.links.link_runs.Given as goal

abbrev pub invariant-loop-run : goal.invariant-loop-run
invariant-loop-run l =
    runs_linked l.links.items l.before l.byte (drop l.run-index l.runs) ≡ runs_linked l.fn.links.items l.before 0 l.runs

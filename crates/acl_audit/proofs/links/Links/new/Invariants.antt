-- the links so far, with those of the states that are left, are those of all states
use Rattle.std.proofs.Common.{◌≡◌, [], drop, get_or}
use Rattle.acl_audit.specs.Links.{states_linked}
use Rattle.acl_audit.proofs.links.Links.new.Given as goal

abbrev pub invariant-loop-state : goal.invariant-loop-state
invariant-loop-state l =
    states_linked l.links.items l.state (drop l.state (get_or l.levels.levels l.depth []))
    ≡ states_linked [] 0 (get_or l.levels.levels l.depth [])

-- so many were counted
use Rattle.std.proofs.Common.{◌≡◌, ◌+◌}
use Rattle.lane_walk.proofs.classify.raise_by.Given as goal

abbrev pub invariant-loop : goal.invariant-loop
invariant-loop g l = l.steps ≡ l.initial.steps + l.counter

-- the edge is one that stands before the place, which counts the bytes so far
use Rattle.std.proofs.Common.{◌≡◌}
use Rattle.node_expand.specs.Edges.{StandsBefore}
use Rattle.tests_of_tables.proofs.edges.shows.Given as goal

abbrev pub invariant-loop-byte : goal.invariant-loop-byte
invariant-loop-byte g l = (l.place ≡ l.byte-index) × StandsBefore l.value l.size l.place l.reached

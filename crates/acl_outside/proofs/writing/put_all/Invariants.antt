use Rattle.std.proofs.Common.{◌≤◌, ◌-◌, length, take}
use Rattle.acl_outside.specs.Sink.{Gains}
use Rattle.acl_outside.proofs.writing.put_all.Given as goal

-- the first bytes of the piece were taken
abbrev pub invariant-puts : goal.invariant-puts
invariant-puts g l = record {
  in_piece : l.written ≤ length l.piece;
  so_far : Gains (take l.written l.piece) (g.O.Sink.view l.initial.out) (g.O.Sink.view l.out);
  count : (g.O.Sink.view l.initial.out).faults ≤ (g.O.Sink.view l.out).faults;
}

abbrev pub decreases-puts : goal.decreases-puts
decreases-puts g l = length l.piece - l.written

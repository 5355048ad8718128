use Rattle.std.proofs.Common.{◌≡◌, ◌≤◌, ◌-◌, length, take}
use Rattle.acl_outside.specs.Desk.{KeepsCounts}
use Rattle.acl_outside.specs.Heard.{KeepsHeard}
use Rattle.acl_outside.specs.Made.{and_stands}
use Rattle.acl_outside.specs.Writing.{WritesOn}
use Rattle.acl_outside.proofs.writing.write_all.Given as goal

-- the first bytes of the piece were written
abbrev pub invariant-writes : goal.invariant-writes
invariant-writes g l = record {
  in_piece : l.written ≤ length l.piece;
  so_far : WritesOn and_stands (take l.written l.piece) (g.D.Desk.view l.initial.desk) (g.D.Desk.view l.desk);
  reading : (g.D.Desk.view l.desk).reading ≡ (g.D.Desk.view l.initial.desk).reading;
  writing : (g.D.Desk.view l.desk).writing ≡ (g.D.Desk.view l.initial.desk).writing;
  kept : KeepsHeard (g.D.Desk.view l.initial.desk) (g.D.Desk.view l.desk);
  counts : KeepsCounts (g.D.Desk.view l.initial.desk) (g.D.Desk.view l.desk);
}

abbrev pub decreases-writes : goal.decreases-writes
decreases-writes g l = length l.piece - l.written

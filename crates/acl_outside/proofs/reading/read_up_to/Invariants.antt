use Rattle.std.proofs.Common.{◌≡◌, ◌≤◌, ◌-◌, take, vec_len}
use Rattle.acl_outside.specs.Desk.{KeepsCounts}
use Rattle.acl_outside.specs.Made.{KeepsMade}
use Rattle.acl_outside.specs.DeskReading.{ReadsOn, and_goes_on}
use Rattle.acl_outside.proofs.reading.read_up_to.Given as goal

-- the bytes so far were given
abbrev pub invariant-parts : goal.invariant-parts
invariant-parts g l = record {
  in_bytes : l.len ≤ vec_len l.bytes;
  in_cap : vec_len l.bytes ≤ l.cap;
  read : ReadsOn and_goes_on (take l.len l.bytes.items) (g.D.Desk.view l.initial.desk) (g.D.Desk.view l.desk);
  reading : (g.D.Desk.view l.desk).reading ≡ (g.D.Desk.view l.initial.desk).reading;
  writing : (g.D.Desk.view l.desk).writing ≡ (g.D.Desk.view l.initial.desk).writing;
  made : KeepsMade (g.D.Desk.view l.initial.desk) (g.D.Desk.view l.desk);
  absent : (g.D.Desk.view l.desk).absent ≡ (g.D.Desk.view l.initial.desk).absent;
  counts : KeepsCounts (g.D.Desk.view l.initial.desk) (g.D.Desk.view l.desk);
}

abbrev pub decreases-parts : goal.decreases-parts
decreases-parts g l = l.cap - l.len

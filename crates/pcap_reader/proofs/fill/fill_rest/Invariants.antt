use Rattle.std.proofs.Common.{◌≡◌, ◌≤◌, ◌-◌, length, take}
use Rattle.acl_outside.specs.Desk.{DeskView}
use Rattle.acl_outside.specs.DeskReading.{ReadsOn, and_goes_on}
use Rattle.pcap_reader.specs.Fill.{KeepsReading}
use Rattle.pcap_reader.proofs.fill.fill_rest.Given as goal

-- the bytes so far were given
abbrev pub invariant-parts : goal.invariant-parts
invariant-parts g l = record {
  within : l.len ≤ length l.into;
  reads : (before : DeskView) → ReadsOn and_goes_on (take l.so_far l.fn.into) before (g.D.Desk.view l.fn.desk) →
      ReadsOn and_goes_on (take l.len l.into) before (g.D.Desk.view l.desk);
  keeps : (before : DeskView) → KeepsReading before (g.D.Desk.view l.fn.desk) →
      KeepsReading before (g.D.Desk.view l.desk);
  stays : (g.D.Desk.view l.desk).reading ≡ (g.D.Desk.view l.fn.desk).reading;
}

abbrev pub decreases-parts : goal.decreases-parts
decreases-parts g l = length l.into - l.len

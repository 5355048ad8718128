-- some rows were written, and a file is opened
use Rattle.std.proofs.Common.{◌-◌, length}
use Rattle.std.specs.Bool.{IsTrue}
use Rattle.acl_outside.specs.Memory.{shown_desk}
use Rattle.aclc_page.proofs.Rowing.{IsWritten}
use Rattle.aclc_page.proofs.records.write_rows.Given as goal

abbrev pub invariant-rows : goal.invariant-rows
invariant-rows l = record {
  written : IsWritten l.fn.capture l.capture l.fn.desk l.desk l.fn.rows l.rows l.count;
  reading : IsTrue (shown_desk l.desk).reading;
}

abbrev pub decreases-rows : goal.decreases-rows
decreases-rows l = length l.rows - l.count

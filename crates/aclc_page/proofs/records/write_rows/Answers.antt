-- each turn writes a row, or finds that no record is left
use Rattle.std.proofs.Common.{arith}
use Rattle.aclc_page.proofs.Rowing.{none_left, one_left, written_all, written_more}
use Rattle.aclc_page.proofs.records.write_rows.Goals as goal

pub returns-then-not-is_record : goal.returns-then-not-is_record
returns-then-not-is_record c =
    let taken = c.take_row-is_record in
    written_all c.rows.invariant.written _ _ taken.new.row
    (none_left c.rows.capture taken.new.capture c.rows.desk taken.new.desk _ taken.new.row c.never_failed.ensures
    c.never_failed-in-rows.ensures taken.result c.if-not-is_record.true taken.ensures)
    taken.ensures.size (omega arith) (omega arith) (omega (arith, c.rows-test.true))

pub rows-preserved : goal.rows-preserved
rows-preserved c =
    let taken = c.take_row-is_record in
    let one = one_left c.rows.capture taken.new.capture c.rows.desk taken.new.desk _ taken.new.row
    c.never_failed.ensures c.never_failed-in-rows.ensures taken.result c.if-not-is_record.false taken.ensures in
    record {
      written = written_more c.rows.invariant.written _ _ taken.new.row one.0 one.1 one.2 taken.ensures.size one.3
          (omega arith) (omega arith) (omega (arith, c.rows-test.true));
      reading = rw taken.ensures.takes.keeps.reading c.rows.invariant.reading;
    }

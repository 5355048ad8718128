-- what the first bytes say of the records
use Rattle.std.proofs.Common.{sym, subst}
use Rattle.aclc_page.specs.Rows.{WritesRows}
use Rattle.aclc_page.proofs.Rowing.{WritesRows-none, begun_whole, refused_whole}
use Rattle.aclc_page.proofs.records.list_rows.Goals as goal

pub write_rows-requires-clause-state : goal.write_rows-requires-clause-state
write_rows-requires-clause-state c =
    (begun_whole c.args.capture.now c.in-Ok.capture c.in_ok-desk.desk c.begin.new.desk c.in_ok-desk.ensures.left
    c.in-Ok.ensures).1

pub returns-in-Ok-clause-rows : goal.returns-in-Ok-clause-rows
returns-in-Ok-clause-rows c =
    subst (λ records. WritesRows records c.args.rows.now c.write_rows.new.rows c.write_rows.result)
    (sym (begun_whole c.args.capture.now c.in-Ok.capture c.in_ok-desk.desk c.begin.new.desk c.in_ok-desk.ensures.left
    c.in-Ok.ensures).0) c.write_rows.ensures

pub returns-in-Err-Capture-clause-rows : goal.returns-in-Err-Capture-clause-rows
returns-in-Err-Capture-clause-rows c =
    WritesRows-none _ c.args.rows.now
    (refused_whole c.args.capture.now c.in-Err-Capture._fault c.in_ok-desk.desk c.begin.new.desk
    c.in_ok-desk.ensures.left c.never_failed.ensures c.never_failed-in-Err-Capture.ensures
    (rw c.in-Err-Capture.field-0-is at c.in-Err-Capture.ensures))

use Rattle.command_ending.proofs.Inputs.{ReadsFile-unopened, ReadsFile-read, ReadsFile-broken, ReadsFile-full}
use Rattle.command_ending.proofs.input.read_file.Goals as goal

pub returns-in-Err : goal.returns-in-Err
returns-in-Err g c =
    let view = g.D.Desk.view in
    ReadsFile-unopened c.args.name.now c.args.cap (view c.args.desk.now)
    (view c.open_file.new.self) c.in-Err.field-0 c.in-Err.ensures

pub returns-in-Ok-read_up_to : goal.returns-in-Ok-read_up_to
returns-in-Ok-read_up_to g c =
    let view = g.D.Desk.view in
    ReadsFile-read c.args.name.now c.args.cap (view c.args.desk.now) (view c.open_file.new.self)
    (view c.read_up_to.new.desk) c.in-Ok.field-0
    c.in-Ok-read_up_to.bytes c.in-Ok.ensures c.in-Ok-read_up_to.ensures

pub returns-in-Err-ReadFault : goal.returns-in-Err-ReadFault
returns-in-Err-ReadFault g c =
    let view = g.D.Desk.view in
    ReadsFile-broken c.args.name.now c.args.cap (view c.args.desk.now) (view c.open_file.new.self)
    (view c.read_up_to.new.desk) c.in-Ok.field-0
    c.in-Ok.ensures (rw c.in-Err-ReadFault.field-0-is at c.in-Err-ReadFault.ensures)

pub returns-in-Err-OutOfMemory : goal.returns-in-Err-OutOfMemory
returns-in-Err-OutOfMemory g c =
    let view = g.D.Desk.view in
    ReadsFile-full c.args.name.now c.args.cap (view c.args.desk.now) (view c.open_file.new.self)
    (view c.read_up_to.new.desk) c.in-Ok.field-0
    c.in-Ok.ensures (rw c.in-Err-OutOfMemory.field-0-is at c.in-Err-OutOfMemory.ensures)

use Rattle.std.proofs.lemmas.Result.{err_from_is_err_and}
use Rattle.command_ending.proofs.Outputs.{MakesAll-uncreated, MakesAll-unwritten, MakesAll-finished}
use Rattle.command_ending.proofs.output.make_file.Goals as goal

pub returns-in_err-create_file : goal.returns-in_err-create_file
returns-in_err-create_file g c =
    let view = g.D.Desk.view in
    let failed = err_from_is_err_and c.from_residual.result c.from_residual.ensures.1 in
    rw failed.1 (MakesAll-uncreated c.args.name.now c.args.bytes.now (view c.args.desk.now)
    (view c.create_file.new.self) c.in_err-create_file.field-0.0 failed.0 c.in_err-create_file.ensures)

pub returns-in_err-write_all : goal.returns-in_err-write_all
returns-in_err-write_all g c =
    let view = g.D.Desk.view in
    let failed = err_from_is_err_and c.from_residual-in_err-write_all.result
    c.from_residual-in_err-write_all.ensures.1 in
    rw failed.1 (MakesAll-unwritten c.args.name.now c.args.bytes.now (view c.args.desk.now)
    (view c.create_file.new.self) (view c.write_all.new.desk) c.in_ok-create_file.field-0
    c.in_err-write_all.field-0.0 failed.0 c.in_ok-create_file.ensures c.in_err-write_all.ensures)

pub returns : goal.returns
returns g c =
    let view = g.D.Desk.view in
    MakesAll-finished c.args.name.now c.args.bytes.now (view c.args.desk.now) (view c.create_file.new.self)
    (view c.write_all.new.desk) (view c.finish.new.self) c.in_ok-create_file.field-0 c.in_ok-write_all.field-0
    c.finish.result c.in_ok-create_file.ensures c.in_ok-write_all.ensures c.finish.ensures

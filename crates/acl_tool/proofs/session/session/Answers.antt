use Rattle.std.proofs.Common.{List, ℕ, subst}
use Rattle.command_ending.specs.StepEffects.{Outside, PutsLast, outside}
use Rattle.acl_tool.specs.SessionTells.{text_of}
use Rattle.acl_tool.proofs.SessionEnds.{Session-put, Session-refused}
use Rattle.acl_tool.proofs.session.session.Goals as goal

pub returns-in-Ok : goal.returns-in-Ok
returns-in-Ok g c = λ steps.
    let desk = g.D.Desk.view in
    let out = g.O.Sink.view in
    let old : Outside = outside (desk c.args.desk.now) (out c.args.out.now) steps in
    Session-put c.args.script.now text_of old (desk c.read_script.new.desk) (out c.put_text.new.out) c.in-Ok.replies
    c.put_text.result c.in-Ok.ensures
    (subst (λ (text : List ℕ). PutsLast text (out c.args.out.now) (out c.put_text.new.out) c.put_text.result)
    c.deref.ensures.value c.put_text.ensures)

pub returns-in-Err : goal.returns-in-Err
returns-in-Err g c = λ steps.
    let desk = g.D.Desk.view in
    let old : Outside = outside (desk c.args.desk.now) (g.O.Sink.view c.args.out.now) steps in
    Session-refused c.args.script.now text_of old (desk c.read_script.new.desk) c.in-Err.status c.in-Err.ensures

use Rattle.std.proofs.Common.{List, ℕ, subst}
use Rattle.command_ending.specs.StepEffects.{Parses}
use Rattle.command_ending.proofs.Offered.{Takes-read, Takes-unread}
use Rattle.acl_tool.specs.SessionPlan.{replies_of}
use Rattle.acl_tool.specs.SessionTells.{text_of}
use Rattle.acl_tool.proofs.SessionEnds.{replies_of-more}
use Rattle.acl_tool.proofs.session.read_script.Goals as goal

pub returns-in-Ok : goal.returns-in-Ok
returns-in-Ok g c =
    let view = g.D.Desk.view in
    let replies = c.replies_to.ensures in
    let parses : Parses replies_of text_of c.deref.result.now c.replies_to.result = record {
      value = replies.replies;
      fault = replies.fault;
      unread = replies.unread;
      unreported = replies.unreported;
      lawful = replies.lawful;
    } in
    Takes-read c.args.name.now _ replies_of text_of (view c.args.desk.now) (view c.read_file.new.desk) c.in-Ok.bytes
    c.replies_to.result c.in-Ok.ensures replies_of-more
    (subst (λ (bytes : List ℕ). Parses replies_of text_of bytes c.replies_to.result) c.deref.ensures.value parses)

pub returns-in-Err : goal.returns-in-Err
returns-in-Err g c =
    let view = g.D.Desk.view in
    Takes-unread c.args.name.now _ _ text_of (view c.args.desk.now) (view c.read_file.new.desk) c.in-Err.status
    c.in-Err.ensures

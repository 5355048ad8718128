use Rattle.std.proofs.Common.{◌∙◌, List, ℕ, [], ap, sym, subst, inl, inr}
use Rattle.command_ending.specs.StepEffects.{PutsLine, heard_of}
use Rattle.list_tool.specs.Message.{message, message_after}
use Rattle.list_tool.specs.Requests.{request_of}
use Rattle.list_tool.proofs.Endings.{answers_read, answers_unread, said_read, said_unread}
use Rattle.list_tool.proofs.tool.answer_request.Goals as goal

pub returns-in-Ok-clause-answers : goal.returns-in-Ok-clause-answers
returns-in-Ok-clause-answers g c =
    answers_read (request_of c.args.request.now) (g.D.Desk.view c.args.desk.now) (g.D.Desk.view c.read_file.new.desk)
    (g.O.Sink.view c.args.out.now) (g.O.Sink.view c.answer_bytes-status.new.out) c.in-Ok.bytes
    c.answer_bytes-status.result
    c.in-Ok.ensures (λ file same. c.answer_bytes-status.ensures.prints file (same ∙ sym c.deref.ensures.value))
    c.answer_bytes-status.ensures.count
    c.answer_bytes-status.ensures.not_unread

pub returns-in-Ok-clause-message : goal.returns-in-Ok-clause-message
returns-in-Ok-clause-message g c =
    let read = c.in-Ok.ensures in
    subst (λ (line : List ℕ). PutsLine line (g.E.Sink.view c.args.err.now) (g.E.Sink.view c.put_message.new.err))
    (said_read (heard_of (g.D.Desk.view c.read_file.new.desk)) (heard_of (g.D.Desk.view c.args.desk.now)) read.file
    c.as_bytes.result.now c.deref-in-Ok.result.now c.answer_bytes-status.result read.heard
    (read.named ∙ sym c.as_bytes.ensures.value) (read.bytes ∙ sym c.deref-in-Ok.ensures.value))
    c.put_message.ensures

pub returns-in-Err-clause-answers : goal.returns-in-Err-clause-answers
returns-in-Err-clause-answers g c =
    rw c.unread-status.ensures
    (answers_unread (request_of c.args.request.now) (g.D.Desk.view c.args.desk.now)
    (g.D.Desk.view c.read_file.new.desk) (g.O.Sink.view c.args.out.now) c.in-Err.status c.in-Err.ensures)

pub returns-in-Err-clause-message : goal.returns-in-Err-clause-message
returns-in-Err-clause-message g c =
    let read = c.in-Err.ensures in
    let name = c.as_bytes-in-Err.result.now in
    let heard = heard_of (g.D.Desk.view c.read_file.new.desk) in
    let is = c.unread-status.ensures in
    subst (λ (line : List ℕ). PutsLine line (g.E.Sink.view c.args.err.now) (g.E.Sink.view c.put_message-in-Err.new.err))
    (ap (message name []) is
    ∙ said_unread heard (heard_of (g.D.Desk.view c.args.desk.now)) read.file name c.in-Err.status read.heard
    (read.named ∙ sym c.as_bytes-in-Err.ensures.value) (elim read.fault [
      | inl full ↦ inl full
      | inr fault ↦ inr fault.0
    ])
    ∙ sym (ap (message_after heard) is))
    c.put_message-in-Err.ensures

-- How each end of a run that read its list follows.
use Rattle.std.proofs.Common.{subst}
use Rattle.command_ending.proofs.Offered.{Gains-none}
use Rattle.list_tool.specs.Printed.{Refuses, text_of}
use Rattle.list_tool.specs.Requests.{request_of}
use Rattle.list_tool.specs.Steps.{PutsText}
use Rattle.list_tool.proofs.Endings.{put_prints, put_not_unread, refused_prints}
use Rattle.list_tool.proofs.tool.answer_bytes.Goals as goal

pub returns-in-Ok-clause-prints : goal.returns-in-Ok-clause-prints
returns-in-Ok-clause-prints g c = λ file same read.
    let out = g.O.Sink.view in
    put_prints (request_of c.args.request.now) file c.in-Ok.text.items c.args.bytes.now (out c.args.out.now)
    (out c.put_text.new.out) c.put_text.result same read c.in-Ok.ensures.text c.in-Ok.ensures.decides
    (subst (λ text. PutsText text (out c.args.out.now) (out c.put_text.new.out) c.put_text.result)
    c.deref.ensures.value c.put_text.ensures)

pub returns-in-Ok-clause-not_unread : goal.returns-in-Ok-clause-not_unread
returns-in-Ok-clause-not_unread g c =
    put_not_unread c.deref.result.now (g.O.Sink.view c.args.out.now) (g.O.Sink.view c.put_text.new.out)
    c.put_text.result c.put_text.ensures

pub returns-in-Err-Fault-clause-prints : goal.returns-in-Err-Fault-clause-prints
returns-in-Err-Fault-clause-prints g c = λ file same read.
    refused_prints (request_of c.args.request.now) file c.args.bytes.now c.in-Err-Fault.fault
    (g.O.Sink.view c.args.out.now) same read
    (subst (Refuses (text_of (request_of c.args.request.now) c.args.bytes.now)) c.in-Err-Fault.field-0-is
    c.in-Err-Fault.ensures.refused)

pub returns-in-Err-OutOfMemory-clause-prints : goal.returns-in-Err-OutOfMemory-clause-prints
returns-in-Err-OutOfMemory-clause-prints g c = λ file same read. Gains-none (g.O.Sink.view c.args.out.now)

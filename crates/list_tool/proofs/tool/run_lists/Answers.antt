-- All that a run promises: what it answers, and so how it is completed.
use Rattle.std.proofs.Common.{map}
use Rattle.std.specs.Prelude.{string_bytes}
use Rattle.command_ending.specs.StepEffects.{outside}
use Rattle.list_tool.specs.Requests.{request_of}
use Rattle.list_tool.proofs.Runs.{runs_asked, runs_nothing}
use Rattle.list_tool.proofs.tool.run_lists.Goals as goal

pub returns-in-Ok : goal.returns-in-Ok
returns-in-Ok g c =
    runs_asked (map string_bytes c.args.words.now) (request_of c.in-Ok.request)
    (outside (g.D.Desk.view c.args.desk.now) (g.O.Sink.view c.args.out.now) 0)
    (outside (g.D.Desk.view c.answer_request.new.desk) (g.O.Sink.view c.answer_request.new.out) 0)
    (g.E.Sink.view c.args.err.now) (g.E.Sink.view c.answer_request.new.err) c.answer_request.result
    c.in-Ok.ensures.request c.answer_request.ensures.answers c.answer_request.ensures.message

pub returns-in-Err : goal.returns-in-Err
returns-in-Err g c =
    runs_nothing (map string_bytes c.args.words.now) c.in-Err.fault
    (outside (g.D.Desk.view c.args.desk.now) (g.O.Sink.view c.args.out.now) 0)
    (g.E.Sink.view c.args.err.now) (g.E.Sink.view c.put_message.new.err)
    c.in-Err.ensures.fault c.put_message.ensures

use Rattle.command_ending.specs.StepEffects.{outside}
use Rattle.acl_tool.proofs.Answering.{Answers-usage}
use Rattle.acl_tool.proofs.tool.answer.Goals as goal

pub returns-in-Err : goal.returns-in-Err
returns-in-Err g c =
    Answers-usage _ c.in-Err.fault
    (outside (g.D.Desk.view c.args.desk.now) (g.O.Sink.view c.args.out.now) c.args.steps.now) c.in-Err.ensures.fault

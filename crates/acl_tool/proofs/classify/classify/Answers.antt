use Rattle.command_words.specs.CommandLine.{options_of}
use Rattle.capture_report.specs.Classifier.{lists_of}
use Rattle.command_ending.specs.StepEffects.{Outside, outside}
use Rattle.acl_tool.proofs.ClassifyEnds.{Answers-no_rules}
use Rattle.acl_tool.proofs.classify.classify.Goals as goal

pub returns-in-Ok : goal.returns-in-Ok
returns-in-Ok g c = c.answer_by_rules.ensures c.args.rules.now (g.D.Desk.view c.args.desk.now) c.in-Ok.ensures.taken

pub returns-in-Err : goal.returns-in-Err
returns-in-Err g c =
    let desk = g.D.Desk.view in
    let old : Outside = outside (desk c.args.desk.now) (g.O.Sink.view c.args.out.now) c.args.steps.now in
    Answers-no_rules c.args.rules.now c.args.capture.now (options_of c.args.options.now) lists_of old
    (desk c.read_rule_file.new.desk) c.in-Err.status c.in-Err.ensures.taken

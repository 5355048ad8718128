use Rattle.capture_report.specs.Classifier.{lists_of}
use Rattle.command_ending.specs.StepEffects.{Outside, outside}
use Rattle.acl_tool.proofs.CompareEnds.{Compare-no_rules}
use Rattle.acl_tool.proofs.compare.compare.Goals as goal

pub returns-in-Ok : goal.returns-in-Ok
returns-in-Ok g c = λ steps.
    c.compare_with.ensures c.args.rules.now (g.D.Desk.view c.args.desk.now) steps c.in-Ok.ensures.taken

pub returns-in-Err : goal.returns-in-Err
returns-in-Err g c = λ steps.
    let desk = g.D.Desk.view in
    let old : Outside = outside (desk c.args.desk.now) (g.O.Sink.view c.args.out.now) steps in
    Compare-no_rules c.args.rules.now c.args.second.now c.args.max_words.words lists_of old
    (desk c.read_rule_file.new.desk) c.in-Err.status c.in-Err.ensures.taken

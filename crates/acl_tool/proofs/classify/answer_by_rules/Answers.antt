use Rattle.std.proofs.Common.{ℕ, subst, sym, ap, ◌∙◌}
use Rattle.command_words.specs.CommandLine.{options_of}
use Rattle.capture_report.specs.Classifier.{Tables, lists_of, ByRules, AnswersAs}
use Rattle.command_ending.specs.StepEffects.{Outside, outside}
use Rattle.command_ending.specs.Plan.{Give}
use Rattle.acl_tool.specs.Built.{WordsAreTotals}
use Rattle.acl_tool.specs.RuleTables.{tables_within}
use Rattle.acl_tool.proofs.Making.{same_tables}
use Rattle.acl_tool.proofs.RuleFiles.{HasRules}
use Rattle.acl_tool.proofs.ClassifyEnds.{Answers-no_tables, Answers-reported}
use Rattle.acl_tool.proofs.classify.answer_by_rules.Goals as goal

pub returns-in-Err : goal.returns-in-Err
returns-in-Err g c = λ name before taken.
    let desk = g.D.Desk.view in
    let old : Outside = outside before (g.O.Sink.view c.args.out.now) c.args.steps.now in
    let has : HasRules name lists_of old =
    record { set = c.args.rules; desk = desk c.args.desk.now; step = taken } in
    Answers-no_tables name c.args.capture.now (options_of c.args.options.now) lists_of old c.in-Err.status has
    (rw c.words.ensures.value at c.in-Err.ensures.refused)

pub returns : goal.returns
returns g c = λ name before taken.
    let desk = g.D.Desk.view in
    let out = g.O.Sink.view in
    let lists = lists_of c.args.rules in
    let built = c.in-Ok.ensures.built in
    let tables : Tables = record { ip4 = c.table_of-ip4.result.now; ip6 = c.table_of-ip6.result.now } in
    let same = same_tables c.words.result lists c.in-Ok.contexts.ip4.table c.in-Ok.contexts.ip6.table
    c.table_of-ip4.result.now c.table_of-ip6.result.now built c.table_of-ip4.ensures c.table_of-ip6.ensures in
    let old : Outside = outside before (out c.args.out.now) c.args.steps.now in
    let has : HasRules name lists_of old =
    record { set = c.args.rules; desk = desk c.args.desk.now; step = taken } in
    Answers-reported name c.args.capture.now (options_of c.args.options.now) lists_of old
    (outside (desk c.print_packets.new.desk) (out c.print_packets.new.out) c.print_packets.new.steps)
    c.print_packets.result has tables
    (ap (λ (budget : ℕ). tables_within budget lists) (sym c.words.ensures.value) ∙ built.within ∙ ap Give same)
    (subst (λ (budget : ℕ). WordsAreTotals lists budget) c.words.ensures.value built.totals)
    (c.print_packets.ensures.alike (ByRules lists) (subst (AnswersAs (ByRules lists)) same built.answers))

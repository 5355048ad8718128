use Rattle.std.proofs.Common.{List, ℕ, sym, ap, subst, ◌∙◌}
use Rattle.capture_report.specs.Classifier.{lists_of}
use Rattle.command_ending.specs.StepEffects.{Outside, PutsLast, outside}
use Rattle.acl_tool.specs.AuditMerged.{audit_of}
use Rattle.acl_tool.specs.Texts.{Refuses}
use Rattle.acl_tool.proofs.RuleFiles.{HasRules}
use Rattle.acl_tool.proofs.AuditEnds.{Audit-no_rules, Audit-put, Audit-refused}
use Rattle.acl_tool.proofs.audit.audit.Goals as goal

pub returns-in-Err : goal.returns-in-Err
returns-in-Err g c = λ steps.
    let desk = g.D.Desk.view in
    let old : Outside = outside (desk c.args.desk.now) (g.O.Sink.view c.args.out.now) steps in
    Audit-no_rules c.args.rules.now c.args.categories.count c.args.max_words.words lists_of old
    (desk c.read_rule_file.new.desk) c.in-Err.status c.in-Err.ensures.taken

pub returns-in-Ok-audit_lines : goal.returns-in-Ok-audit_lines
returns-in-Ok-audit_lines g c = λ steps.
    let desk = g.D.Desk.view in
    let out = g.O.Sink.view in
    let old : Outside = outside (desk c.args.desk.now) (out c.args.out.now) steps in
    let lists = lists_of c.in-Ok.rules in
    let has : HasRules c.args.rules.now lists_of old =
    record { set = c.in-Ok.rules; desk = desk c.read_rule_file.new.desk; step = c.in-Ok.ensures.taken } in
    Audit-put c.args.rules.now c.args.categories.count c.args.max_words.words lists_of old (out c.put_text.new.out)
    c.in-Ok-audit_lines.text.items c.put_text.result has
    (ap (λ (budget : ℕ). audit_of c.args.categories.count budget lists) (sym c.words.ensures.value)
    ∙ c.in-Ok-audit_lines.ensures.text)
    (subst (λ (text : List ℕ). PutsLast text (out c.args.out.now) (out c.put_text.new.out) c.put_text.result)
    c.deref.ensures.value c.put_text.ensures)

pub returns : goal.returns
returns g c = λ steps.
    let desk = g.D.Desk.view in
    let old : Outside = outside (desk c.args.desk.now) (g.O.Sink.view c.args.out.now) steps in
    let lists = lists_of c.in-Ok.rules in
    let has : HasRules c.args.rules.now lists_of old =
    record { set = c.in-Ok.rules; desk = desk c.read_rule_file.new.desk; step = c.in-Ok.ensures.taken } in
    Audit-refused c.args.rules.now c.args.categories.count c.args.max_words.words lists_of old
    c.in-Err-audit_lines.status has
    (subst (λ (budget : ℕ). Refuses (audit_of c.args.categories.count budget lists) c.in-Err-audit_lines.status)
    c.words.ensures.value c.in-Err-audit_lines.ensures.refused)

use Rattle.std.proofs.Common.{List, ℕ, sym, ap, subst, ◌∙◌}
use Rattle.capture_report.specs.Classifier.{lists_of}
use Rattle.command_ending.specs.StepEffects.{Outside, PutsLast, outside}
use Rattle.acl_tool.specs.CompareLines.{compare_of}
use Rattle.acl_tool.specs.Texts.{Refuses}
use Rattle.acl_tool.proofs.RuleFiles.{HasRules}
use Rattle.acl_tool.proofs.CompareEnds.{Compare-no_second, Compare-put, Compare-refused}
use Rattle.acl_tool.proofs.compare.compare_with.Goals as goal

pub returns-in-Err : goal.returns-in-Err
returns-in-Err g c = λ rules before steps taken.
    let desk = g.D.Desk.view in
    let old : Outside = outside before (g.O.Sink.view c.args.out.now) steps in
    let has : HasRules rules lists_of old =
    record { set = c.args.one.now; desk = desk c.args.desk.now; step = taken } in
    Compare-no_second rules c.args.second.now c.args.max_words.words lists_of old has
    (desk c.read_rule_file.new.desk) c.in-Err.status c.in-Err.ensures.taken

pub returns-in-Ok-compare_lines : goal.returns-in-Ok-compare_lines
returns-in-Ok-compare_lines g c = λ rules before steps taken.
    let desk = g.D.Desk.view in
    let out = g.O.Sink.view in
    let old : Outside = outside before (out c.args.out.now) steps in
    let one = lists_of c.args.one.now in
    let two = lists_of c.in-Ok.two in
    let has : HasRules rules lists_of old =
    record { set = c.args.one.now; desk = desk c.args.desk.now; step = taken } in
    Compare-put rules c.args.second.now c.args.max_words.words lists_of old has
    c.in-Ok.two (desk c.read_rule_file.new.desk) c.in-Ok.ensures.taken
    (out c.put_text.new.out) c.in-Ok-compare_lines.text.items c.put_text.result
    (ap (λ (budget : ℕ). compare_of budget one two) (sym c.words.ensures.value)
    ∙ c.in-Ok-compare_lines.ensures.text)
    (subst (λ (text : List ℕ). PutsLast text (out c.args.out.now) (out c.put_text.new.out) c.put_text.result)
    c.deref.ensures.value c.put_text.ensures)

pub returns : goal.returns
returns g c = λ rules before steps taken.
    let desk = g.D.Desk.view in
    let old : Outside = outside before (g.O.Sink.view c.args.out.now) steps in
    let one = lists_of c.args.one.now in
    let two = lists_of c.in-Ok.two in
    let has : HasRules rules lists_of old =
    record { set = c.args.one.now; desk = desk c.args.desk.now; step = taken } in
    Compare-refused rules c.args.second.now c.args.max_words.words lists_of old has
    c.in-Ok.two (desk c.read_rule_file.new.desk) c.in-Ok.ensures.taken
    c.in-Err-compare_lines.status
    (subst (λ (budget : ℕ). Refuses (compare_of budget one two) c.in-Err-compare_lines.status) c.words.ensures.value
    c.in-Err-compare_lines.ensures.refused)

use Rattle.std.proofs.Common.{List, ℕ, Ok, Err, subst, ◌∙◌}
use Rattle.command_ending.specs.StepEffects.{MakesAll, Outside, outside}
use Rattle.capture_report.specs.Classifier.{lists_of}
use Rattle.acl_tool.specs.Built.{tables_built}
use Rattle.acl_tool.specs.BuildSaved.{IsSaved}
use Rattle.acl_tool.proofs.RuleFiles.{HasRules}
use Rattle.acl_tool.proofs.BuildEnds.{Build-no_rules, Build-no_tables, Build-made, Build-broken}
use Rattle.acl_tool.proofs.build.build.Goals as goal

pub returns-in-Err : goal.returns-in-Err
returns-in-Err g c = λ out steps.
    let desk = g.D.Desk.view in
    let old : Outside = outside (desk c.args.desk.now) out steps in
    Build-no_rules c.args.rules.now c.args.image.now c.args.max_words.words lists_of old
    (desk c.read_rule_file.new.desk) c.in-Err.status c.in-Err.ensures.taken

pub returns-in-Err-image_of : goal.returns-in-Err-image_of
returns-in-Err-image_of g c = λ out steps.
    let desk = g.D.Desk.view in
    let old : Outside = outside (desk c.args.desk.now) out steps in
    let has : HasRules c.args.rules.now lists_of old =
    record { set = c.in-Ok.rules; desk = desk c.read_rule_file.new.desk; step = c.in-Ok.ensures.taken } in
    Build-no_tables c.args.rules.now c.args.image.now c.args.max_words.words lists_of old
    c.in-Err-image_of.status has (rw c.words.ensures.value at c.in-Err-image_of.ensures.refused)

pub returns-in-Ok-make_file : goal.returns-in-Ok-make_file
returns-in-Ok-make_file g c = λ out steps.
    let desk = g.D.Desk.view in
    let old : Outside = outside (desk c.args.desk.now) out steps in
    let lists = lists_of c.in-Ok.rules in
    let max_words : ℕ = c.args.max_words.words in
    let saved : IsSaved max_words lists c.in-Ok-image_of.bytes.items =
    subst (λ (budget : ℕ). IsSaved budget lists c.in-Ok-image_of.bytes.items) c.words.ensures.value
    c.in-Ok-image_of.ensures.saved in
    let has : HasRules c.args.rules.now lists_of old =
    record { set = c.in-Ok.rules; desk = desk c.read_rule_file.new.desk; step = c.in-Ok.ensures.taken } in
    Build-made c.args.rules.now c.args.image.now max_words lists_of old has (tables_built lists max_words)
    (desk c.make_file.new.desk) c.in-Ok-make_file.field-0 saved.within saved.image
    (subst (λ (bytes : List ℕ). MakesAll c.args.image.now bytes (desk c.read_rule_file.new.desk)
    (desk c.make_file.new.desk) (Ok c.in-Ok-make_file.field-0))
    (c.deref.ensures.value ∙ saved.spelled) c.in-Ok-make_file.ensures)

pub returns : goal.returns
returns g c = λ out steps.
    let desk = g.D.Desk.view in
    let old : Outside = outside (desk c.args.desk.now) out steps in
    let lists = lists_of c.in-Ok.rules in
    let max_words : ℕ = c.args.max_words.words in
    let saved : IsSaved max_words lists c.in-Ok-image_of.bytes.items =
    subst (λ (budget : ℕ). IsSaved budget lists c.in-Ok-image_of.bytes.items) c.words.ensures.value
    c.in-Ok-image_of.ensures.saved in
    let has : HasRules c.args.rules.now lists_of old =
    record { set = c.in-Ok.rules; desk = desk c.read_rule_file.new.desk; step = c.in-Ok.ensures.taken } in
    Build-broken c.args.rules.now c.args.image.now max_words lists_of old has (tables_built lists max_words)
    (desk c.make_file.new.desk) c.in-Err-make_file.field-0 saved.within
    (subst (λ (bytes : List ℕ). MakesAll c.args.image.now bytes (desk c.read_rule_file.new.desk)
    (desk c.make_file.new.desk) (Err c.in-Err-make_file.field-0))
    (c.deref.ensures.value ∙ saved.spelled) c.in-Err-make_file.ensures)

use Rattle.std.proofs.Common.{◌++◌, [], ◌∷◌, ap, subst, ◌∙◌, arith}
use Rattle.text_scan.specs.Parts.{line_feed}
use Rattle.classbench_reader.specs.declared.line.RuleLine.{RuleLine}
use Rattle.classbench_reader.specs.RuleFile.{rule_file_of}
use Rattle.classbench_reader.specs.Print.{line_text}
use Rattle.classbench_reader.proofs.PrintedLines.{FitsTag}
use Rattle.classbench_reader.proofs.PrintedRules.{says_rule, rule_file_of-rule_text}
use Rattle.std.proofs.lemmas.Result.{IfOk-weaker}
use Rattle.classbench_reader.proofs.print.print_rule.Goals as goal

pub print_line-requires : goal.print_line-requires
print_line-requires c = rw c.line_of_rule-line.ensures (says_rule c.args.family c.args.rule.now c.requires).lawful

pub returns-clause-reads_back : goal.returns-clause-reads_back
returns-clause-reads_back c =
    let said : RuleLine = c.line_of_rule-line.result in
    let fits : FitsTag said.tag = record { categories = omega arith; userdata = omega arith } in
    let P : RuleLine → Type 0 = λ l. FitsTag l.tag in
    let there = subst P c.line_of_rule-line.ensures fits in
    IfOk-weaker c.print_line.result _ _ (λ line is.
    ap rule_file_of (is ∙ ap (λ l. line_text l ++ line_feed ∷ []) c.line_of_rule-line.ensures)
    ∙ rule_file_of-rule_text c.args.family c.args.rule.now c.requires there) c.print_line.ensures

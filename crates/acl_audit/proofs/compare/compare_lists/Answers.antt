use Rattle.std.proofs.Common.{length, sym, ◌∙◌}
use Rattle.std.proofs.lemmas.Bool.{eqb-true}
use Rattle.acl_audit.proofs.Comparing.{none_told}
use Rattle.acl_audit.proofs.compare.compare_lists.Goals as goal

pub returns-then-is_empty-clause-told : goal.returns-then-is_empty-clause-told
returns-then-is_empty-clause-told c =
    let none = eqb-true (length c.args.rules.now.rules) 0 (sym c.is_empty.ensures ∙ c.if-is_empty.true) in
    record {
      told = λ one two layouts is. none_told one two c.args.half c.args.rules.now layouts is none;
    }

use Rattle.std.proofs.Common.{sym, ◌∙◌, ap}
use Rattle.acl_audit.specs.Compared.{told_difference}
use Rattle.acl_audit.proofs.Comparing.{told_second, told_first}
use Rattle.acl_audit.proofs.compare.compare_both.Goals as goal

pub compare_second-requires-clause-alike : goal.compare_second-requires-clause-alike
compare_second-requires-clause-alike c =
    sym (ap told_difference (sym c.in-Ok-Same.field-0-is) ∙ c.in-Ok-Same.ensures.told)

pub returns-in-Ok-Same-clause-told : goal.returns-in-Ok-Same-clause-told
returns-in-Ok-Same-clause-told c =
    told_second c.args.one.now c.args.two.now c.compare_second.result
    (ap told_difference (sym c.in-Ok-Same.field-0-is)
    ∙ c.in-Ok-Same.ensures.told) c.compare_second.ensures.told

pub returns-in-Ok-Differ-clause-told : goal.returns-in-Ok-Differ-clause-told
returns-in-Ok-Differ-clause-told c =
    told_first c.args.one.now c.args.two.now (record {
      key = c.in-Ok-Differ.key.items;
      category =
          c.in-Ok-Differ.category;
    })
    (ap told_difference (sym c.in-Ok-Differ.field-0-is) ∙ c.in-Ok-Differ.ensures.told)

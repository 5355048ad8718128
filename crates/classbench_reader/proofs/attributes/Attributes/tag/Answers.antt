use Rattle.std.proofs.Common.{not, pos, sym, ap, ◌∙◌, arith}
use Rattle.std.proofs.lemmas.Int.{ints}
use Rattle.std.proofs.lemmas.Bool.{ne_eqb}
use Rattle.std.specs.Prelude.{bit_and}
use Rattle.rule_set.specs.declared.rule.RuleTag.{RuleTag}
use Rattle.rule_set.proofs.Offered.{some_category}
use Rattle.classbench_reader.proofs.attributes.Attributes.tag.Goals as goal

pub returns-clause-lawful : goal.returns-clause-lawful
returns-clause-lawful c =
    let mask = c.unwrap_or-category_mask.result in
    let tag : RuleTag = record { category_mask = mask; priority = pos 0; userdata = 0 } in
    record {
      category = sym (some_category tag) ∙ ap not (ne_eqb (bit_and mask 65535) 0 c.if-category_mask-eq0.false);
      not_below = grind (arith, ints);
      not_above = grind (arith, ints);
    }

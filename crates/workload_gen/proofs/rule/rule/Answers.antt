-- The rule that is made is that of the words, which is lawful.
use Rattle.std.proofs.Common.{◌≡◌, None, sym, subst}
use Rattle.std.proofs.lemmas.Result.{IfOk-weaker}
use Rattle.field_defs.specs.Layout.{ip4_fields}
use Rattle.rule_set.specs.Fault.{rule_fault}
use Rattle.rule_set.specs.Rule.{RuleView}
use Rattle.workload_gen.proofs.Lawful.{rule_of_words}
use Rattle.workload_gen.proofs.rule.rule.Goals as goal

pub returns-clause-lawful : goal.returns-clause-lawful
returns-clause-lawful c =
    IfOk-weaker c.new.result _ _ (λ rule is.
    subst (λ (r : RuleView). rule_fault ip4_fields r.tag r.fields ≡ None) (sym is) (rw (
      c.tag.ensures,
      c.protocol_value.ensures,
      c.source_value.ensures,
      c.destination_value.ensures,
      c.destination_ports.ensures,
    ) (rule_of_words c.args.number c.args.words c.element_fits4.fits))) c.new.ensures.ok

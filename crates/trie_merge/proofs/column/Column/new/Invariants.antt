use Rattle.std.proofs.Common.{◌≡◌, take, map, get_or}
use Rattle.field_defs.specs.declared.field.FieldValue.TheVariants.{Mask}
use Rattle.rule_set.specs.Rule.{RuleView}
use Rattle.trie_merge.proofs.column.Column.new.Given as goal

abbrev pub invariant-loop-i : goal.invariant-loop-i
invariant-loop-i l =
    l.values.items ≡ map (λ (rule : RuleView). get_or rule.fields l.at.field (Mask 0 0)) (take l.i l.rules.rules)

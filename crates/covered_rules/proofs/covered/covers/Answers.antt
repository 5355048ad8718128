use Rattle.covered_rules.proofs.Fields.{can_match_rule}
use Rattle.covered_rules.proofs.covered.covers.Goals as goal

pub covers_rule-requires-clause-values : goal.covers_rule-requires-clause-values
covers_rule-requires-clause-values c =
    let layout = rw c.layout.ensures at c.fields-defs.ensures.lawful in
    rw (c.fields-defs.ensures.fields, c.layout.ensures)
    (can_match_rule c.args.rules.now.layout c.at-rule.result.now layout c.at-rule.ensures.lawful)

pub covers_rule-requires-clause-others : goal.covers_rule-requires-clause-others
covers_rule-requires-clause-others c =
    let layout = rw c.layout.ensures at c.fields-defs.ensures.lawful in
    rw (c.fields-defs.ensures.fields, c.layout.ensures)
    (can_match_rule c.args.rules.now.layout c.at-other.result.now layout c.at-other.ensures.lawful)

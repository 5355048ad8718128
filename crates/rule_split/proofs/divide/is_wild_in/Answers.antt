use Rattle.std.proofs.Common.{length, ap, arith}
use Rattle.group_states.proofs.Offered.{length-zipped}
use Rattle.rule_split.proofs.Values.{values_of_rule, value_at}
use Rattle.rule_split.proofs.divide.is_wild_in.Goals as goal

pub bounds-fields-field : goal.bounds-fields-field
bounds-fields-field c =
    let layout = rw c.layout.ensures at c.fields-defs.ensures.lawful in
    let lawful = values_of_rule c.args.rules.now.layout c.at.result.now layout c.at.ensures.lawful in
    omega (arith, length-zipped c.args.rules.now.layout c.at.result.now.fields lawful, ap length c.fields.ensures)

pub is_wild-requires : goal.is_wild-requires
is_wild-requires c =
    let layout = rw c.layout.ensures at c.fields-defs.ensures.lawful in
    let lawful = values_of_rule c.args.rules.now.layout c.at.result.now layout c.at.ensures.lawful in
    rw (c.fields.ensures, c.fields-defs.ensures.fields, c.layout.ensures)
    (value_at c.args.rules.now.layout c.at.result.now.fields c.args.field _ _ lawful c.requires.field).can_match

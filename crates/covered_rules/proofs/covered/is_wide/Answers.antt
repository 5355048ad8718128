use Rattle.std.proofs.Common.{ap, arith}
use Rattle.field_defs.specs.Layout.{key_len_of}
use Rattle.field_defs.proofs.Offered.{short_keys}
use Rattle.covered_rules.proofs.Fields.{can_match_rule}
use Rattle.covered_rules.proofs.covered.is_wide.Goals as goal

pub wild_bytes-requires-clause-values : goal.wild_bytes-requires-clause-values
wild_bytes-requires-clause-values c =
    let layout = rw c.layout.ensures at c.fields-defs.ensures.lawful in
    rw (c.fields.ensures, c.fields-defs.ensures.fields, c.layout.ensures)
    (can_match_rule c.args.rules.now.layout c.at-rule.result.now layout c.at-rule.ensures.lawful)

pub overflow_mul-result-2 : goal.overflow_mul-result-2
overflow_mul-result-2 c =
    let layout = rw c.layout.ensures at c.fields-defs.ensures.lawful in
    omega (
      arith,
      c.key_len.ensures,
      ap key_len_of c.layout-2.ensures,
      (short_keys c.args.rules.now.layout layout).1,
    )

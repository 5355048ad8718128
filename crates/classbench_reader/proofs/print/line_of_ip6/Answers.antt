use Rattle.std.proofs.Common.{◌≡◌, length, ap, ◌∙◌, arith}
use Rattle.field_defs.specs.declared.field.Family.TheVariants as family
use Rattle.std.proofs.lemmas.Bool.Decides.{nat_tests}
use Rattle.classbench_reader.proofs.PrintedRules.{ip6_masks, printable_length}
use Rattle.classbench_reader.proofs.print.line_of_ip6.Goals as goal
use Rattle.classbench_reader.proofs.print.line_of_ip6.Goals.{in_default-via-then-fields-lt7}
use Rattle.classbench_reader.proofs.print.line_of_ip6.Goals.{in_default-via-else-fields-lt7+else-this-lt8}

pub unreachable-requires : goal.unreachable-requires
unreachable-requires c =
    let seven : length c.fields.result.now ≡ 7 =
    ap length c.fields.ensures ∙ printable_length family.Ip6 c.args.rule.now c.requires in
    elim c.in_default.branch [
      | in_default-via-then-fields-lt7 w ↦ grind (arith, nat_tests, seven)
      | in_default-via-else-fields-lt7+else-this-lt8 w ↦ grind (arith, nat_tests, seven)
    ]

pub ip6_network-requires-clause-high : goal.ip6_network-requires-clause-high
ip6_network-requires-clause-high c = rw c.fields.ensures (ip6_masks c.args.rule.now _ c.requires).source_high

pub ip6_network-requires-clause-low : goal.ip6_network-requires-clause-low
ip6_network-requires-clause-low c = rw c.fields.ensures (ip6_masks c.args.rule.now _ c.requires).source_low

pub ip6_network-requires-2-clause-high : goal.ip6_network-requires-2-clause-high
ip6_network-requires-2-clause-high c = rw c.fields.ensures (ip6_masks c.args.rule.now _ c.requires).high

pub ip6_network-requires-2-clause-low : goal.ip6_network-requires-2-clause-low
ip6_network-requires-2-clause-low c = rw c.fields.ensures (ip6_masks c.args.rule.now _ c.requires).low

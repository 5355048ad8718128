use Rattle.std.proofs.Common.{◌≡◌, length, ap, ◌∙◌, arith}
use Rattle.field_defs.specs.declared.field.Family.TheVariants as family
use Rattle.std.proofs.lemmas.Bool.Decides.{nat_tests}
use Rattle.classbench_reader.proofs.PrintedRules.{ip4_masks, printable_length}
use Rattle.classbench_reader.proofs.print.line_of_ip4.Goals as goal
use Rattle.classbench_reader.proofs.print.line_of_ip4.Goals.{in_default-via-then-fields-lt5}
use Rattle.classbench_reader.proofs.print.line_of_ip4.Goals.{in_default-via-else-fields-lt5+else-this-lt6}

pub unreachable-requires : goal.unreachable-requires
unreachable-requires c =
    let five : length c.fields.result.now ≡ 5 =
    ap length c.fields.ensures ∙ printable_length family.Ip4 c.args.rule.now c.requires in
    elim c.in_default.branch [
      | in_default-via-then-fields-lt5 w ↦ grind (arith, nat_tests, five)
      | in_default-via-else-fields-lt5+else-this-lt6 w ↦ grind (arith, nat_tests, five)
    ]

pub ip4_network-requires : goal.ip4_network-requires
ip4_network-requires c = rw c.fields.ensures (ip4_masks c.args.rule.now _ c.requires).source

pub ip4_network-requires-2 : goal.ip4_network-requires-2
ip4_network-requires-2 c = rw c.fields.ensures (ip4_masks c.args.rule.now _ c.requires).destination

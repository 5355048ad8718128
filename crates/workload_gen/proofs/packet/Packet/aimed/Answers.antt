-- A rule of the IPv4 layout has five values, whose numbers fit the fields of a packet.
use Rattle.std.proofs.Common.{arith}
use Rattle.field_defs.specs.declared.field.FieldValue.TheVariants.{Mask}
use Rattle.workload_gen.proofs.Held.{numbers_held}
use Rattle.workload_gen.proofs.packet.Packet.aimed.Goals as goal

pub bounds-values-0 : goal.bounds-values-0
bounds-values-0 c =
    let held = numbers_held c.args.rule.now c.requires in
    rw c.fields-values.ensures (omega (arith, held.count))

pub bounds-values-1 : goal.bounds-values-1
bounds-values-1 c =
    let held = numbers_held c.args.rule.now c.requires in
    rw c.fields-values.ensures (omega (arith, held.count))

pub bounds-values-2 : goal.bounds-values-2
bounds-values-2 c =
    let held = numbers_held c.args.rule.now c.requires in
    rw c.fields-values.ensures (omega (arith, held.count))

pub bounds-values-4 : goal.bounds-values-4
bounds-values-4 c =
    let held = numbers_held c.args.rule.now c.requires in
    rw c.fields-values.ensures (omega (arith, held.count))

pub overflow_cast-result : goal.overflow_cast-result
overflow_cast-result c =
    let held = numbers_held c.args.rule.now c.requires in
    rw (c.first_number.ensures, c.fields-values.ensures) (omega (arith, held.protocol (Mask 0 0)))

pub overflow_cast-result-2 : goal.overflow_cast-result-2
overflow_cast-result-2 c =
    let held = numbers_held c.args.rule.now c.requires in
    rw (c.first_number-2.ensures, c.fields-values.ensures) (omega (arith, held.source (Mask 0 0)))

pub overflow_cast-result-3 : goal.overflow_cast-result-3
overflow_cast-result-3 c =
    let held = numbers_held c.args.rule.now c.requires in
    rw (c.first_number-3.ensures, c.fields-values.ensures) (omega (arith, held.destination (Mask 0 0)))

pub overflow_cast-result-5 : goal.overflow_cast-result-5
overflow_cast-result-5 c =
    let held = numbers_held c.args.rule.now c.requires in
    rw (c.first_number-4.ensures, c.fields-values.ensures) (omega (arith, held.destination_port (Mask 0 0)))

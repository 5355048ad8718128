-- No frame has packets of both families, and the steps of a batch are those of both.
use Rattle.std.proofs.Common.{List, length, sym, ap, subst, ◌∙◌, arith}
use Rattle.field_defs.specs.declared.field.Family.TheVariants as family
use Rattle.header_extract.specs.Class.{FrameClass}
use Rattle.capture_report.specs.Batch.{AreNext, transitions_of_family}
use Rattle.capture_report.specs.Report.{counted_all}
use Rattle.capture_report.proofs.Keys.{both_transitions, number_bound, numbers_bound}
use Rattle.capture_report.proofs.LineLaws.{counted_all-packets}
use Rattle.capture_report.proofs.conductor.put_lines.Goals as goal

pub walk_keys-ip4-requires-clause-most : goal.walk_keys-ip4-requires-clause-most
walk_keys-ip4-requires-clause-most g c = number_bound family.Ip4 c.as_slice-batch.result.now

pub overflow_sub-rest : goal.overflow_sub-rest
overflow_sub-rest g c =
    omega (arith, c.walk_keys-ip4.ensures.packets, number_bound family.Ip4 c.as_slice-batch.result.now)

pub walk_keys-ip6-requires-clause-most : goal.walk_keys-ip6-requires-clause-most
walk_keys-ip6-requires-clause-most g c =
    omega (arith, c.walk_keys-ip4.ensures.packets, numbers_bound c.as_slice-batch.result.now)

pub returns-clause-transitions : goal.returns-clause-transitions
returns-clause-transitions g c =
    let tables = c.args.form.now.tables in
    let is = c.as_slice-batch.ensures ∙ c.room.view_is in
    let one = c.walk_keys-ip4.ensures.transitions ∙ ap (transitions_of_family family.Ip4 tables.ip4) is in
    let two = c.walk_keys-ip6.ensures.transitions ∙ ap (transitions_of_family family.Ip6 tables.ip6) is in
    omega (arith, one, two, both_transitions tables c.args.room.now)

pub returns-clause-bound : goal.returns-clause-bound
returns-clause-bound g c =
    omega (
      arith,
      c.requires.transitions,
      c.walk_keys-ip4.ensures.bound,
      c.walk_keys-ip6.ensures.bound,
      ap length (c.as_slice-batch.ensures ∙ c.room.view_is),
      ap (λ counts. counts.packets) c.write_lines-len.ensures.counts,
      counted_all-packets c.as_slice-batch.result.now c.args.counts.now,
    )

pub returns-clause-steps : goal.returns-clause-steps
returns-clause-steps g c =
    let tables = c.args.form.now.tables in
    let is = c.as_slice-batch.ensures ∙ c.room.view_is in
    let one = c.walk_keys-ip4.ensures.transitions ∙ ap (transitions_of_family family.Ip4 tables.ip4) is in
    let two = c.walk_keys-ip6.ensures.transitions ∙ ap (transitions_of_family family.Ip6 tables.ip6) is in
    omega (
      arith,
      c.walk_keys-ip4.ensures.steps,
      c.walk_keys-ip6.ensures.steps,
      one,
      two,
      both_transitions tables c.args.room.now,
    )

pub returns-clause-counts : goal.returns-clause-counts
returns-clause-counts g c =
    c.write_lines-len.ensures.counts
    ∙ ap (λ (packets : List FrameClass). counted_all packets c.args.counts.now)
    (c.as_slice-batch.ensures ∙ c.room.view_is)

pub write_lines-len-requires-clause-next : goal.write_lines-len-requires-clause-next
write_lines-len-requires-clause-next g c =
    subst (λ (packets : List FrameClass). AreNext c.args.counts.now packets)
    (sym (c.as_slice-batch.ensures ∙ c.room.view_is)) c.requires.next

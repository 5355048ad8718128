-- The front was read, and then the rest of the block.
use Rattle.std.proofs.Common.{◌+◌, refl, sym, subst, ap}
use Rattle.pcap_reader.specs.declared.capture_fault.CaptureFault.TheVariants.{PngCut}
use Rattle.pcapng_reader.specs.Block.{Fault}
use Rattle.pcapng_reader.specs.BlockReading.{ReadsBlock}
use Rattle.pcapng_reader.proofs.Fronts.{none_told, few_told, broken_told, whole_told}
use Rattle.pcapng_reader.proofs.ReadLaws.{answers_end, answers_fault}
use Rattle.pcapng_reader.proofs.blocks.read_block.Goals as goal

pub returns-in-Ok-eq0 : goal.returns-in-Ok-eq0
returns-in-Ok-eq0 g c =
    answers_end
    (none_told c.args.reader.now c.args.buffer.now c.read_new_front.new.into (g.D.Desk.view c.args.desk.now)
    (g.D.Desk.view c.read_new_front.new.desk) c.requires.room c.read_new_front.auto.into c.in-Ok-eq0.field-0
    c.in-Ok-eq0.field-0-test c.in-Ok-eq0.ensures.2)

pub returns-in-Ok : goal.returns-in-Ok
returns-in-Ok g c =
    let old = g.D.Desk.view c.args.desk.now in
    let new = g.D.Desk.view c.read_new_front.new.desk in
    answers_fault
    (subst (λ k. ReadsBlock c.args.reader.now old new (Fault (PngCut (k + 1))))
    (sym (ap (λ s. s.count) c.reader.view_is))
    (few_told c.args.reader.now c.args.buffer.now c.read_new_front.new.into old new c.requires.room
    c.read_new_front.auto.into c.in-Ok.field-0 (c.if-takes_slow_way.ensures.few refl) c.in-Ok.ensures.0
    c.in-Ok.field-0-test.0.1 c.in-Ok.field-0-test.1 c.in-Ok.ensures.2))

pub returns-in-Err : goal.returns-in-Err
returns-in-Err g c =
    answers_fault
    (broken_told c.args.reader.now c.args.buffer.now c.read_new_front.new.into (g.D.Desk.view c.args.desk.now)
    (g.D.Desk.view c.read_new_front.new.desk) c.requires.room c.read_new_front.auto.into c.in-Err.ensures)

pub returns-in-Big : goal.returns-in-Big
returns-in-Big g c =
    let old = g.D.Desk.view c.args.desk.now in
    c.read_rest.ensures old
    (whole_told c.args.reader.now c.args.buffer.now c.read_new_front.new.into old
    (g.D.Desk.view c.read_new_front.new.desk)
    c.requires.room c.read_new_front.auto.into
    c.in-Ok-eq12.field-0 c.in-Ok-eq12.field-0-test c.in-Ok-eq12.ensures.1)

pub returns-in-Little : goal.returns-in-Little
returns-in-Little g c =
    let old = g.D.Desk.view c.args.desk.now in
    c.read_rest-in-Little.ensures old
    (whole_told c.args.reader.now c.args.buffer.now c.read_new_front.new.into old
    (g.D.Desk.view c.read_new_front.new.desk)
    c.requires.room c.read_new_front.auto.into
    c.in-Ok-eq12.field-0 c.in-Ok-eq12.field-0-test c.in-Ok-eq12.ensures.1)

pub returns-then-takes_slow_way : goal.returns-then-takes_slow_way
returns-then-takes_slow_way g c = c.read_slow_in_parts.ensures

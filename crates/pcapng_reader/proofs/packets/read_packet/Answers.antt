-- Each turn reads one block.
use Rattle.std.proofs.Common.{◌∙◌, arith}
use Rattle.pcapng_reader.proofs.PacketLaws.{Passing-none, Passing-more, passed-fewer, Finds-given, Finds-end}
use Rattle.pcapng_reader.proofs.PacketLaws.{Finds-fault}
use Rattle.pcapng_reader.proofs.packets.read_packet.Goals as goal

pub passing-init : goal.passing-init
passing-init g c = record {
  passed = Passing-none c.args.reader.now (g.D.Desk.view c.args.desk.now);
  reading = c.requires.reading;
  room = c.requires.room;
}

pub returns-in-Ok-Given-clause-packet : goal.returns-in-Ok-Given-clause-packet
returns-in-Ok-Given-clause-packet g c =
    let view = g.D.Desk.view in
    Finds-given c.args.reader.now c.passing.reader (view c.args.desk.now) (view c.passing.desk)
    c.passing.invariant.passed c.read_block.new.reader (view c.read_block.new.desk) _
    (rw c.in-Ok-Given.field-0-is at c.in-Ok-Given.ensures.block)

pub passing-smaller : goal.passing-smaller
passing-smaller g c =
    let view = g.D.Desk.view in
    let fewer = passed-fewer c.args.reader.now c.passing.reader (view c.args.desk.now) (view c.passing.desk)
    c.passing.invariant.passed c.read_block.new.reader (view c.read_block.new.desk)
    (rw c.in-Ok-Passed.field-0-is at c.in-Ok-Passed.ensures.block) in
    omega (arith, fewer.0, fewer.1)

pub passing-preserved : goal.passing-preserved
passing-preserved g c =
    let view = g.D.Desk.view in
    let block = rw c.in-Ok-Passed.field-0-is at c.in-Ok-Passed.ensures.block in
    record {
      passed = Passing-more c.args.reader.now c.passing.reader (view c.args.desk.now) (view c.passing.desk)
          c.passing.invariant.passed c.read_block.new.reader (view c.read_block.new.desk) block;
      reading = rw block.keeps.reading c.passing.invariant.reading;
      room = c.read_block.auto.buffer ∙ c.passing.invariant.room;
    }

pub returns-in-Ok-End-clause-packet : goal.returns-in-Ok-End-clause-packet
returns-in-Ok-End-clause-packet g c =
    let view = g.D.Desk.view in
    rw (rw c.in-Ok-End.field-0-is at c.in-Ok-End.ensures.stays)
    (Finds-end c.args.reader.now c.passing.reader (view c.args.desk.now) (view c.passing.desk)
    c.passing.invariant.passed (view c.read_block.new.desk)
    (rw c.in-Ok-End.field-0-is at c.in-Ok-End.ensures.block))

pub returns-in-Err-clause-packet : goal.returns-in-Err-clause-packet
returns-in-Err-clause-packet g c =
    let view = g.D.Desk.view in
    rw c.in-Err.ensures.stays
    (Finds-fault c.args.reader.now c.passing.reader (view c.args.desk.now) (view c.passing.desk)
    c.passing.invariant.passed c.in-Err.fault (view c.read_block.new.desk) c.in-Err.ensures.block)

pub returns-in-Ok-Given-clause-within : goal.returns-in-Ok-Given-clause-within
returns-in-Ok-Given-clause-within g c = rw c.in-Ok-Given.field-0-is at c.in-Ok-Given.ensures.within

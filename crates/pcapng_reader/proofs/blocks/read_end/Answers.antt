-- The type of a block more was read already.
use Rattle.std.proofs.Common.{◌≡◌, ◌<◌, length, inl, refl, ap, arith}
use Rattle.acl_outside.specs.Heard.{GoesOn}
use Rattle.pcap_reader.specs.declared.capture_fault.CaptureFault.TheVariants.{TooManyRecords}
use Rattle.pcapng_reader.specs.Capture.{section_bytes}
use Rattle.pcapng_reader.proofs.BlockLaws.{block-front_fault, front-last}
use Rattle.pcapng_reader.proofs.ReadLaws.{HasRead-none, ReadsBlock-plain, answers_fault}
use Rattle.pcapng_reader.proofs.blocks.read_end.Goals as goal

pub returns-then-reader : goal.returns-then-reader
returns-then-reader g c buffer =
    let state = c.args.reader.now in
    let view = g.D.Desk.view c.args.desk.now in
    let first : section_bytes ≡ state.first = rw c.if-reader.true at (ap (λ s. s.first) c.reader.view_is) in
    let some : 0 < length state.first = omega (arith, ap length first) in
    answers_fault
    (ReadsBlock-plain state state.first GoesOn view view TooManyRecords (HasRead-none state view) (inl refl)
    (block-front_fault state state.first TooManyRecords some (front-last state state.first c.requires.last)) tt)

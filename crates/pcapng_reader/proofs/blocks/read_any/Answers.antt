-- The front of the block is refused, or its rest is read.
use Rattle.std.proofs.Common.{◌≡◌, ℕ, ◌≤◌, List, length, take, sym, ◌∙◌, arith, length-take}
use Rattle.pcap_reader.specs.Capture.{max_captured}
use Rattle.pcapng_reader.proofs.FrontLaws.{front-refused}
use Rattle.pcapng_reader.proofs.ReadLaws.{answers_fault}
use Rattle.pcapng_reader.proofs.blocks.read_any.Goals as goal

-- the buffer has the bytes of a front
front_there : (buffer : List ℕ) → length buffer ≡ max_captured → 12 ≤ length (take 12 buffer)
front_there buffer room = omega (arith, room, length-take 12 buffer)

pub returns-in-Err : goal.returns-in-Err
returns-in-Err g c before h =
    answers_fault
    (front-refused c.args.reader.now (take 12 c.args.buffer.now) c.in-Err.fault before (g.D.Desk.view c.args.desk.now)
    c.requires.few (front_there c.args.buffer.now c.requires.room) (sym c.front.ensures ∙ c.in-Err.is) h)

pub returns-then-front-buffer : goal.returns-then-front-buffer
returns-then-front-buffer g c = c.read_long.ensures

pub returns : goal.returns
returns g c = c.read_within.ensures

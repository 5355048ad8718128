-- The block stands in the front of the buffer.
use Rattle.std.proofs.Common.{◌≡◌, ℕ, ◌≤◌, List, length, take, drop, Ok, sym, subst, ap, ◌∙◌, arith}
use Rattle.std.proofs.Common.{length-take}
use Rattle.std.proofs.lemmas.List.{take-append-drop, take-append-le}
use Rattle.acl_outside.specs.Heard.{GoesOn}
use Rattle.pcap_reader.specs.Capture.{max_captured}
use Rattle.pcapng_reader.specs.Block.{BlockState, front_of}
use Rattle.pcapng_reader.specs.declared.front.Front.{Front}
use Rattle.pcapng_reader.specs.BlockReading.{HasRead}
use Rattle.pcapng_reader.proofs.BlockLaws.{HasFront-from, front_least}
use Rattle.pcapng_reader.proofs.FrontLaws.{answers-front}
use Rattle.pcapng_reader.proofs.blocks.read_within.Goals as goal

-- the front of a block in a buffer is that of the buffer
same_front : (state : BlockState) (front : Front) (buffer : List ℕ) → front_of state (take 12 buffer) ≡ Ok front →
    front.total ≤ length buffer → take 12 buffer ≡ take 12 (take front.total buffer)
same_front state front buffer is room =
    let facts = HasFront-from state (take 12 buffer) front is in
    ap (take 12) (sym (take-append-drop front.total buffer))
    ∙ take-append-le 12 (take front.total buffer) (drop front.total buffer)
    (omega (arith, facts.least, front_least front.kind, room, length-take front.total buffer))

fits : (front : Front) (buffer : List ℕ) → front.total ≤ max_captured → length buffer ≡ max_captured →
    front.total ≤ length buffer
fits front buffer within room = omega (arith, within, room)

pub read_short-requires-clause-front : goal.read_short-requires-clause-front
read_short-requires-clause-front g c =
    rw (same_front c.args.reader.now c.args.front.now c.args.buffer.now c.requires.front
    (fits c.args.front.now c.args.buffer.now c.requires.fits c.requires.room)) at c.requires.front

pub returns : goal.returns
returns g c before h =
    let state = c.args.reader.now in
    let same = same_front state c.args.front.now c.args.buffer.now c.requires.front
    (fits c.args.front.now c.args.buffer.now c.requires.fits c.requires.room) in
    answers-front (drop c.args.front.now.total c.args.buffer.now)
    (c.read_short.ensures before
    (subst (λ l. HasRead state l GoesOn before (g.D.Desk.view c.args.desk.now)) same h))

-- What was taken into the buffer is lent out of it.
use Rattle.std.proofs.Common.{◌≡◌, ℕ, ◌+◌, ◌-◌, List, take, drop, None, Some, Ok, Err, refl, sym, subst, ap, ◌∙◌, arith}
use Rattle.pcap_reader.specs.State.{CaptureRecord}
use Rattle.pcapng_reader.specs.declared.blocks.PacketPlace.{PacketPlace}
use Rattle.pcapng_reader.specs.Block.{BlockState}
use Rattle.pcapng_reader.specs.Capture.{Blocks}
use Rattle.pcapng_reader.specs.Packets.{BlocksView}
use Rattle.pcapng_reader.specs.Reader.{TakesNext}
use Rattle.pcapng_reader.specs.BlockReading.{packet_in}
use Rattle.pcapng_reader.proofs.packets.BlockCapture.next.Goals as goal

-- the packet that is lent is the one that stands in the buffer
lent_packet : (place : PacketPlace) (items room : List ℕ) → items ≡ room →
    packet_in place room
    ≡ record { link = place.link; bytes = take ((place.at + place.len) - place.at) (drop place.at items) }
lent_packet place items room is =
    let len : place.len ≡ (place.at + place.len) - place.at = omega arith in
    ap (packet_in place) (sym is)
    ∙ ap (λ (n : ℕ). record { link = place.link; bytes = take n (drop place.at items) }) len

pub returns-in-Err : goal.returns-in-Err
returns-in-Err g c = (
  (
    refl,
    λ x. tt,
    subst (λ (now : BlockState). TakesNext (Blocks c.args.self.now.state) (Blocks now)
        (g.D.Desk.view c.args.desk.now) (g.D.Desk.view c.advance.new.desk) (Err c.in-Err.fault))
        (sym (ap (λ (view : BlocksView). view.state) c.self.view_is)) c.in-Err.ensures.takes,
  ),
  record { next = tt },
)

pub returns-in-Ok-None : goal.returns-in-Ok-None
returns-in-Ok-None g c = (
  (
    refl,
    λ x. tt,
    subst (λ (now : BlockState). TakesNext (Blocks c.args.self.now.state) (Blocks now)
        (g.D.Desk.view c.args.desk.now) (g.D.Desk.view c.advance.new.desk) (Ok None))
        (sym (ap (λ (view : BlocksView). view.state) c.self.view_is))
        (rw c.in-Ok-None.field-0-is at c.in-Ok-None.ensures.takes),
  ),
  record { next = tt },
)

pub returns-in-Ok-Some : goal.returns-in-Ok-Some
returns-in-Ok-Some g c =
    let old = g.D.Desk.view c.args.desk.now in
    let new = g.D.Desk.view c.advance.new.desk in
    let place = c.in-Ok-Some.place in
    let before = c.args.self.now.state in
    let packet = lent_packet place c.deref.result.now c.advance.new.self.room
    (c.deref.ensures.value ∙ ap (λ (view : BlocksView). view.room) c.self.view_is) in (
      (
        refl,
        λ x. tt,
        subst (λ (captured : CaptureRecord). TakesNext (Blocks before) (Blocks c.self.inside.reader) old new
            (Ok (Some captured))) packet
            (subst (λ (now : BlockState). TakesNext (Blocks before) (Blocks now) old new
            (Ok (Some (packet_in place c.advance.new.self.room))))
            (sym (ap (λ (view : BlocksView). view.state) c.self.view_is))
            (rw c.in-Ok-Some.field-0-is at c.in-Ok-Some.ensures.takes)),
      ),
      record { next = tt },
    )

-- What the front of a block comes to.
use Rattle.std.proofs.Common.{◌≡◌, ℕ, ◌+◌, ◌%◌, ◌<◌, ◌≤◌, List, [], ◌++◌, length, take, drop, Some, Result, Ok, Err}
use Rattle.std.specs.Prelude.{slice_get}
use Rattle.std.proofs.lemmas.Bool.{le-ltb}
use Rattle.std.proofs.Common.{false, inl}
use Rattle.std.proofs.Common.{refl, sym, subst, ap, ◌∙◌, length-append, length-drop, arith}
use Rattle.std.proofs.lemmas.List.{take-append-le, drop-append-le}
use Rattle.acl_outside.specs.Desk.{DeskView}
use Rattle.acl_outside.specs.Heard.{GoesOn, Ended}
use Rattle.pcap_reader.specs.declared.capture_fault.CaptureFault.{CaptureFault}
use Rattle.pcap_reader.specs.declared.capture_fault.CaptureFault.TheVariants.{PngCut, PngLength, ReadFault}
use Rattle.pcap_reader.specs.Headers.{number_in}
use Rattle.pcap_reader.specs.declared.link.Link.{Link}
use Rattle.pcap_reader.specs.Capture.{max_captured}
use Rattle.pcapng_reader.specs.Block.{BlockState, End, Fault, Given, front_of, front_len, is_last, is_no_len, kind_of}
use Rattle.pcapng_reader.specs.Block.{captured_in, least_len, packet_said, padded}
use Rattle.pcapng_reader.specs.declared.front.Front.{Front}
use Rattle.pcapng_reader.specs.declared.said.Said.TheVariants as said
use Rattle.pcapng_reader.specs.declared.kind.Kind.TheVariants.{Packet}
use Rattle.pcapng_reader.specs.declared.blocks.BlockRead.{BlockRead}
use Rattle.pcapng_reader.specs.declared.blocks.BlockRead.TheVariants as read
use Rattle.pcapng_reader.specs.BlockReading.{AnswersBlock, HasRead, HasBroken, ReadsBlock, StandsWithin, block_read}
use Rattle.pcapng_reader.proofs.BlockLaws.{HasFront-from, front_least, block-none, block-front_fault, front-cut}
use Rattle.pcapng_reader.proofs.BlockLaws.{front-whole}
use Rattle.pcapng_reader.proofs.Steps.{refuse-no}
use Rattle.pcapng_reader.proofs.ReadLaws.{ReadsBlock-is, ReadsBlock-broken, ReadsBlock-plain, front-plain}
use Rattle.pcapng_reader.proofs.BlockEnds.{short-stuck}

-- no byte was left
pub front-end : (state : BlockState) (part : List ℕ) (old new : DeskView) → length part ≡ 0 →
    HasRead state part Ended old new → ReadsBlock state old new End
front-end state part old new none read =
    ReadsBlock-is state part Ended old new End read (block-none state part none) refl (λ e. absurd (cc))

-- fewer bytes than a front has
pub front-short : (state : BlockState) (part : List ℕ) (old new : DeskView) → is_last state ≡ false →
    0 < length part → length part < front_len → HasRead state part Ended old new →
    ReadsBlock state old new (Fault (PngCut (state.count + 1)))
front-short state part old new few some cut read =
    ReadsBlock-is state part Ended old new (Fault (PngCut (state.count + 1))) read
    (block-front_fault state part _ some (front-cut state part few cut)) refl (λ e. absurd (cc))

-- a read failed
pub front-broken : (state : BlockState) (room : ℕ) (old new : DeskView) → room ≡ front_len →
    HasBroken state state.first room old new → ReadsBlock state old new (Fault ReadFault)
front-broken state room old new is broken =
    ReadsBlock-broken state state.first room old new broken
    (λ rest less. short-stuck state (state.first ++ rest) front_len (omega (arith, less, is))
    (λ front says.
    let facts = HasFront-from state (state.first ++ rest) front says in
    omega (arith, facts.least, front_least front.kind)))

-- the front is refused
pub front-refused : (state : BlockState) (part : List ℕ) (fault : CaptureFault) (old new : DeskView) →
    is_last state ≡ false → front_len ≤ length part → front_of state part ≡ Err fault →
    HasRead state part GoesOn old new → ReadsBlock state old new (Fault fault)
front-refused state part fault old new few there is read =
    ReadsBlock-plain state part GoesOn old new fault read (inl refl)
    (block-front_fault state part fault (omega (arith, there)) is) (front-plain state part fault few there is)

-- the front of a packet whose length is lawful isn't refused
pub front-packet : (state : BlockState) (bytes : List ℕ) (total : ℕ) → is_last state ≡ false →
    front_len ≤ length bytes → Packet ≡ kind_of (number_in state.order bytes 0 4) →
    total ≡ number_in state.order bytes 4 4 → is_no_len Packet total ≡ false →
    front_of state bytes ≡ Ok (record { kind = Packet; order = state.order; total = total })
front-packet state bytes total few there kind is lawful =
    rw is
    (front-whole state bytes few there Packet kind
    ∙ refuse-no (is_no_len Packet (number_in state.order bytes 4 4)) (PngLength (state.count + 1)) _
    (rw is at lawful))

-- a packet stands in the front of a buffer as in the whole of it
block_read-front : (now : BlockState) (front rest : List ℕ) (result : Result BlockRead CaptureFault) →
    StandsWithin (length front) result → block_read now front result ≡ block_read now (front ++ rest) result
block_read-front now front rest (Ok read.End) within = refl
block_read-front now front rest (Ok read.Passed) within = refl
block_read-front now front rest (Ok (read.Given place)) within =
    ap (λ (l : List ℕ). Given (record { link = place.link; bytes = l }) now [])
    (sym (ap (take place.len) (drop-append-le place.at front rest (omega (arith, within)))
    ∙ take-append-le place.len (drop place.at front) rest (omega (arith, within, length-drop place.at front))))
block_read-front now front rest (Err fault) within = refl

-- and so it stands within it
within-more : (small large : ℕ) (result : Result BlockRead CaptureFault) → small ≤ large →
    StandsWithin small result → StandsWithin large result
within-more small large (Ok read.End) more within = tt
within-more small large (Ok read.Passed) more within = tt
within-more small large (Ok (read.Given place)) more within = omega (arith, more, within)
within-more small large (Err fault) more within = tt

-- what is read into the front of a buffer is read into the buffer
pub answers-front : {state now : BlockState} {front : List ℕ} {old new : DeskView}
    {result : Result BlockRead CaptureFault} (rest : List ℕ) → AnswersBlock state now front old new result →
    AnswersBlock state now (front ++ rest) old new result
answers-front {state} {now} {front} {old} {new} {result} rest read = record {
  block = subst (λ b. ReadsBlock state old new b) (block_read-front now front rest result read.within) read.block;
  within = within-more (length front) (length (front ++ rest)) result (omega (arith, length-append front rest))
      read.within;
  stays = read.stays;
}

-- a packet isn't refused whose captured bytes have room before the last four bytes
pub packet-says : (state : BlockState) (front : Front) (block : List ℕ) (link : Link) →
    slice_get state.interfaces (number_in front.order block 8 4) ≡ Some (Some link) →
    captured_in front block + 32 ≤ front.total → front.total % 4 ≡ 0 → front.total ≤ max_captured →
    packet_said state front block ≡ Ok (said.Packet link (captured_in front block))
packet-says state front block link found fits multiple room =
    rw (
      found,
      le-ltb max_captured (captured_in front block) (omega (arith, fits, room)),
      le-ltb front.total (padded (captured_in front block) + least_len Packet) (omega (arith, fits, multiple)),
    ) refl

-- What says what the block is was read, and then the rest of it.
use Rattle.std.proofs.Common.{◌≡◌, ℕ, ◌+◌, ◌-◌, ◌≤◌, List, ◌++◌, length, take, drop, sym, subst, ap, ◌∙◌}
use Rattle.std.proofs.Common.{arith, length-append, length-take, length-drop}
use Rattle.std.proofs.lemmas.List.{take_all}
use borrow.Rule.Slice.PartMut.{put_mid}
use Rattle.pcap_reader.specs.Capture.{max_captured}
use Rattle.pcap_reader.specs.declared.capture_fault.CaptureFault.TheVariants.{PngCut}
use Rattle.pcap_reader.proofs.Offered.{take-put_mid}
use Rattle.pcapng_reader.specs.Block.{Fault, head_len}
use Rattle.pcapng_reader.specs.BlockReading.{ReadsBlock}
use Rattle.pcapng_reader.proofs.BlockLaws.{HasFront-from, front-append}
use Rattle.pcapng_reader.proofs.LongLaws.{head_cut, head_enough, head_most, head_packet, long-broken, long-cut_head}
use Rattle.pcapng_reader.proofs.LongLaws.{long-refused, room_left}
use Rattle.pcapng_reader.proofs.ReadLaws.{ReadsMore-refused, answers_fault}
use Rattle.pcapng_reader.proofs.long.read_long.Goals as goal

-- a front has twelve bytes
front_bytes : (buffer : List ℕ) → length buffer ≡ max_captured → length (take 12 buffer) ≡ 12
front_bytes buffer room = omega (arith, room, length-take 12 buffer)

-- what says what the block is stands in front
head_bytes : (buffer into : List ℕ) (head : ℕ) → length buffer ≡ max_captured → 12 ≤ head →
    length into ≡ length (take (head - 12) (drop 12 buffer)) → head ≤ 28 →
    (take head (put_mid 12 (head - 12) buffer into) ≡ take 12 buffer ++ into) × (length into ≡ head - 12)
head_bytes buffer into head room least fits most =
    let len : length into ≡ head - 12 =
    omega (arith, fits, room, most, length-take (head - 12) (drop 12 buffer), length-drop 12 buffer) in
    let whole : head ≡ 12 + (head - 12) = omega (arith, least) in (
      ap (λ k. take k (put_mid 12 (head - 12) buffer into)) whole
          ∙ take-put_mid 12 (head - 12) (head - 12) buffer into (omega (arith, room)) (omega (arith, len))
          ∙ ap (λ (l : List ℕ). take 12 buffer ++ l) (take_all (head - 12) into (omega (arith, len))),
      len,
    )

pub returns-in-Err : goal.returns-in-Err
returns-in-Err g c before h =
    let state = c.args.reader.now in
    let front = c.args.front.now in
    let buffer = c.args.buffer.now in
    let new = g.D.Desk.view c.fill_part.new.desk in
    let head = c.head_len-head.result in
    let twelve = front_bytes buffer c.requires.room in
    let count : length (take (head - 12) (drop 12 buffer)) ≡ head_len front.kind - 12 =
    omega (
      arith,
      c.head_len-head.ensures,
      c.requires.room,
      head_most front.kind,
      length-take (head - 12) (drop 12 buffer),
      length-drop 12 buffer,
    ) in
    answers_fault
    (ReadsMore-refused state (take 12 buffer) (c.reader.inside.count + 1) before new
    (λ (done : Unit {0}) (more : List ℕ). more ≡ c.fill_part.new.into) c.in-Err.fault _
    (c.in-Err.ensures.more state (take 12 buffer) before h)
    (λ more less read. subst (λ k. ReadsBlock state before new (Fault (PngCut (k + 1))))
    (sym (ap (λ s. s.count) c.reader.view_is))
    (long-cut_head state front (take 12 buffer) before new c.requires.front _ more less
    (omega (arith, twelve, count, head_cut front.kind (length more) (omega (arith, less, count)))) read))
    (long-broken state front (take 12 buffer) before new c.requires.front _
    (omega (arith, twelve, count, head_most front.kind, c.requires.long))))

pub returns-in-Err-said : goal.returns-in-Err-said
returns-in-Err-said g c before h =
    let state = c.args.reader.now in
    let front = c.args.front.now in
    let buffer = c.args.buffer.now in
    let into = c.fill_part.new.into in
    let enough = head_enough front.kind in
    let facts = HasFront-from state (take 12 buffer) front c.requires.front in
    let bytes = head_bytes buffer into c.head_len-head.result c.requires.room
    (omega (arith, c.head_len-head.ensures, enough.0)) c.fill_part.auto.into
    (omega (arith, c.head_len-head.ensures, head_most front.kind)) in
    let read = c.in-Ok.ensures.more state (take 12 buffer) before h in
    answers_fault
    (long-refused state front (take 12 buffer ++ into) before (g.D.Desk.view c.fill_part.new.desk)
    (front-append state (take 12 buffer) into facts.few facts.there ∙ c.requires.front) c.in-Err-said.fault
    (omega (
      arith,
      enough.0,
      enough.1,
      bytes.1,
      c.head_len-head.ensures,
      front_bytes buffer c.requires.room,
      length-append (take 12 buffer) into,
    ))
    (rw bytes.0 at (sym c.said.ensures.said ∙ c.in-Err-said.is))
    (rw read.1 at read.2))

pub returns : goal.returns
returns g c before h =
    let state = c.args.reader.now in
    let front = c.args.front.now in
    let buffer = c.args.buffer.now in
    let into = c.fill_part.new.into in
    let enough = head_enough front.kind in
    let facts = HasFront-from state (take 12 buffer) front c.requires.front in
    let bytes = head_bytes buffer into c.head_len-head.result c.requires.room
    (omega (arith, c.head_len-head.ensures, enough.0)) c.fill_part.auto.into
    (omega (arith, c.head_len-head.ensures, head_most front.kind)) in
    let read = c.in-Ok.ensures.more state (take 12 buffer) before h in
    c.read_captured.ensures before (take 12 buffer ++ into)
    record {
      front_is = front-append state (take 12 buffer) into facts.few facts.there ∙ c.requires.front;
      says = rw bytes.0 at (sym c.said.ensures.said ∙ c.in-Ok-said.is);
      enough = omega (
        arith,
        enough.0,
        enough.1,
        bytes.1,
        c.head_len-head.ensures,
        front_bytes buffer c.requires.room,
        length-append (take 12 buffer) into,
      );
      len_is = omega (
        arith,
        enough.0,
        bytes.1,
        c.head_len-head.ensures,
        front_bytes buffer c.requires.room,
        length-append (take 12 buffer) into,
      );
      packet = λ is. c.head_len-head.ensures ∙ head_packet front.kind is;
    }
    (rw read.1 at read.2)

pub read_captured-requires-clause-captured : goal.read_captured-requires-clause-captured
read_captured-requires-clause-captured g c =
    (room_left c.in-Ok-said.said c.args.reader.now c.args.front.now c.in-Ok-said.ensures.room c.requires.long).0

pub read_captured-requires-clause-total : goal.read_captured-requires-clause-total
read_captured-requires-clause-total g c =
    (room_left c.in-Ok-said.said c.args.reader.now c.args.front.now c.in-Ok-said.ensures.room c.requires.long).1

pub read_captured-requires-clause-head : goal.read_captured-requires-clause-head
read_captured-requires-clause-head g c = omega (arith, c.head_len-head.ensures, head_most c.args.front.now.kind)

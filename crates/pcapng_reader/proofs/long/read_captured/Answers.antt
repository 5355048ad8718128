-- The captured bytes were read, and then what is after them.
use Rattle.std.proofs.Common.{◌≡◌, ℕ, ◌+◌, ◌-◌, ◌≤◌, List, ◌++◌, length, take, drop, refl, sym, subst, ap, ◌∙◌}
use Rattle.std.proofs.Common.{arith, length-append, length-take}
use Rattle.std.proofs.lemmas.List.{take_at}
use Rattle.pcap_reader.specs.declared.capture_fault.CaptureFault.TheVariants.{PngCut, PngLength}
use Rattle.pcapng_reader.specs.Block.{Fault}
use Rattle.pcapng_reader.specs.BlockReading.{EndIn, ReadsBlock, captured_by}
use Rattle.pcapng_reader.proofs.LongLaws.{head-more, long-broken, long-cut, long-other_end, long-whole}
use Rattle.pcapng_reader.proofs.ReadLaws.{ReadsMore-refused, answers_fault, answers_read, within_front}
use Rattle.pcapng_reader.proofs.long.read_captured.Goals as goal

pub returns-in-Err : goal.returns-in-Err
returns-in-Err g c before part head h =
    let state = c.args.reader.now in
    let front = c.args.front.now in
    let new = g.D.Desk.view c.fill_part.new.desk in
    let n = c.captured_by-captured.result in
    let within : length part + length (take n c.args.buffer.now) ≤ front.total =
    omega (
      arith,
      head.len_is,
      c.requires.head,
      c.requires.total,
      c.captured_by-captured.ensures,
      length-take n c.args.buffer.now,
    ) in
    answers_fault
    (ReadsMore-refused state part (c.reader.inside.count + 1) before new
    (λ (done : Unit {0}) (more : List ℕ). more ≡ c.fill_part.new.into) c.in-Err.fault _
    (c.in-Err.ensures.more state part before h)
    (λ more less read. subst (λ k. ReadsBlock state before new (Fault (PngCut (k + 1))))
    (sym (ap (λ s. s.count) c.reader.view_is))
    (long-cut state front part before new head.front_is _ c.args.said more less within head.enough head.says read))
    (long-broken state front part before new head.front_is _ within))

pub returns-in-Err-pass_over : goal.returns-in-Err-pass_over
returns-in-Err-pass_over g c before part head h =
    let state = c.args.reader.now in
    let front = c.args.front.now in
    let new = g.D.Desk.view c.pass_over.new.desk in
    let n = c.captured_by-captured.result in
    let read = c.in-Ok.ensures.more state part before h in
    let more = head-more state front c.args.said c.args.head part read.0 head in
    let within : length (part ++ read.0) + (front.total - c.args.head - n) ≤ front.total =
    omega (
      arith,
      head.len_is,
      c.requires.head,
      c.requires.total,
      c.captured_by-captured.ensures,
      ap length read.1,
      c.fill_part.auto.into,
      length-take n c.args.buffer.now,
      length-append part read.0,
    ) in
    answers_fault
    (ReadsMore-refused state (part ++ read.0) (c.reader.inside.count + 1) before new
    (λ (end : ℕ) (more : List ℕ). EndIn front.order (front.total - c.args.head - n) end more)
    c.in-Err-pass_over.fault _
    (c.in-Err-pass_over.ensures.more state (part ++ read.0) before read.2)
    (λ rest less has. subst (λ k. ReadsBlock state before new (Fault (PngCut (k + 1))))
    (sym (ap (λ s. s.count) c.reader.view_is))
    (long-cut state front (part ++ read.0) before new more.0 _ c.args.said rest less within more.1 more.2 has))
    (long-broken state front (part ++ read.0) before new more.0 _ within))

-- so many bytes were captured
captured_len : (buffer into more : List ℕ) (n : ℕ) → more ≡ into → length into ≡ length (take n buffer) →
    n ≤ length buffer → length more ≡ n
captured_len buffer into more n is fits room = omega (arith, ap length is, fits, room, length-take n buffer)

pub returns-then-end-front : goal.returns-then-end-front
returns-then-end-front g c before part head h =
    let state = c.args.reader.now in
    let front = c.args.front.now in
    let new = g.D.Desk.view c.pass_over.new.desk in
    let n = c.captured_by-captured.result in
    let read = c.in-Ok.ensures.more state part before h in
    let rest = c.in-Ok-pass_over.ensures.more state (part ++ read.0) before read.2 in
    let len = captured_len c.args.buffer.now c.fill_part.new.into read.0 n read.1 c.fill_part.auto.into
    (omega (arith, c.requires.captured, c.captured_by-captured.ensures, c.requires.room)) in
    answers_fault
    (subst (λ k. ReadsBlock state before new (Fault (PngLength (k + 1)))) (sym (ap (λ s. s.count) c.reader.view_is))
    (long-other_end read.0 head rest.1
    (omega (arith, c.requires.head, c.requires.total, c.captured_by-captured.ensures))
    (omega (arith, len, head.len_is, c.requires.head, c.requires.total, c.captured_by-captured.ensures))
    rest.2 c.if-end-front.true))

pub returns : goal.returns
returns g c before part head h =
    let state = c.args.reader.now in
    let front = c.args.front.now in
    let new = g.D.Desk.view c.pass_over.new.desk in
    let n = c.captured_by-captured.result in
    let buffer : List ℕ = c.fill_part.new.into ++ drop n c.args.buffer.now in
    let read = c.in-Ok.ensures.more state part before h in
    let rest = c.in-Ok-pass_over.ensures.more state (part ++ read.0) before read.2 in
    let len = captured_len c.args.buffer.now c.fill_part.new.into read.0 n read.1 c.fill_part.auto.into
    (omega (arith, c.requires.captured, c.captured_by-captured.ensures, c.requires.room)) in
    let holds : take (captured_by c.args.said) buffer ≡ read.0 =
    ap (λ k. take k buffer) (sym c.captured_by-captured.ensures)
    ∙ take_at c.fill_part.new.into (drop n c.args.buffer.now) n (omega (arith, ap length read.1, len)) ∙ sym read.1 in
    answers_read c.args.said 0 refl c.learn.ensures c.read_of.ensures
    (within_front c.args.said (length buffer) (omega (
      arith,
      len,
      ap length read.1,
      c.captured_by-captured.ensures,
      length-append c.fill_part.new.into (drop n c.args.buffer.now),
    )))
    (long-whole read.0 head rest.1
    (omega (arith, c.requires.head, c.requires.total, c.captured_by-captured.ensures))
    (omega (arith, len, head.len_is, c.requires.head, c.requires.total, c.captured_by-captured.ensures))
    rest.2 buffer c.if-end-front.false holds (len ∙ c.captured_by-captured.ensures))

use Rattle.std.proofs.Common.{◌≡◌, ◌-◌, ◌<◌, [], ◌++◌, length, take, drop, Ok, Err, ◌∙◌, append-nil, arith, length-take, length-drop}
use Rattle.acl_outside.specs.Desk.{ReadsInto}
use Rattle.acl_outside.specs.Heard.{Ended, BrokenOff, with_ending}
use Rattle.acl_outside.specs.DeskReading.{and_goes_on}
use Rattle.acl_outside.proofs.Offered.{ReadsOn-then, ReadsOn-given, ReadsOn-ended, ReadsOn-failed}
use Rattle.pcap_reader.proofs.FillLaws.{take-put_mid, take-put_none, length-put_mid, after_fill-short, after_fill-full, KeepsReading-read, Rose-later, IsAtEnd-read}
use Rattle.pcap_reader.proofs.fill.fill_rest.Goals as goal

pub parts-preserved : goal.parts-preserved
parts-preserved g c =
    let mid = g.D.Desk.view c.parts.desk in
    let new = g.D.Desk.view c.read.new.self in
    let len = c.parts.len in
    let xs = c.parts.into in
    let part = c.read.new.into in
    let size = length xs - len in
    let within = simp (length-take, length-drop) at c.in-Ok.ensures.within in
    let fits : length part ≡ size = c.read.auto.into ∙ simp (length-take, length-drop) (omega arith) in
    let some : 0 < length (take c.in-Ok.count part) =
    omega (arith, length-take c.in-Ok.count part, fits, within, c.in-Ok.count-test.1) in
    record {
      within = rw (length-put_mid len size xs part (omega arith) fits) (omega (arith, within));
      reads =
          rw (take-put_mid len size c.in-Ok.count xs part c.parts.invariant.within (omega (arith, fits, within)))
          (λ before given.
          ReadsOn-then and_goes_on (take len xs) (take c.in-Ok.count part) before mid new
          (c.parts.invariant.reads before given)
          (ReadsOn-given _ part c.in-Ok.count mid new c.in-Ok.ensures some));
      keeps = λ before kept. KeepsReading-read _ part (Ok c.in-Ok.count) before mid new
          (c.parts.invariant.keeps before kept) c.in-Ok.ensures;
      stays = c.in-Ok.ensures.reading ∙ c.parts.invariant.stays;
    }

pub returns-in-Ok-eq0 : goal.returns-in-Ok-eq0
returns-in-Ok-eq0 g c =
    let mid = g.D.Desk.view c.parts.desk in
    let new = g.D.Desk.view c.read.new.self in
    let len = c.parts.len in
    let xs = c.parts.into in
    let part = c.read.new.into in
    let room : len < length c.args.into.now = omega (arith, c.parts-test.true, c.parts.auto.into) in
    let read : ReadsInto _ part mid new (Ok 0) = rw c.in-Ok-eq0.field-0-test at c.in-Ok-eq0.ensures in
    let some : 0 < length (take (length xs - len) (drop len xs)) =
    omega (arith, length-take (length xs - len) (drop len xs), length-drop len xs, c.parts-test.true) in
    λ before given kept. record {
      within = omega (arith, room);
      reads =
          rw (take-put_none len (length xs - len) xs part c.parts.invariant.within)
          (after_fill-short (length c.args.into.now) len (take len xs) before new room
          (rw (append-nil (take len xs)) at
          (ReadsOn-then (with_ending Ended) (take len xs) [] before mid new (c.parts.invariant.reads before given)
          (ReadsOn-ended _ part mid new read some))));
      end = λ less. IsAtEnd-read _ part mid new some read;
      breaks_off = tt;
      cause = tt;
      keeps = KeepsReading-read _ part (Ok 0) before mid new (c.parts.invariant.keeps before kept) read;
    }

pub returns-in-Err : goal.returns-in-Err
returns-in-Err g c =
    let mid = g.D.Desk.view c.parts.desk in
    let new = g.D.Desk.view c.read.new.self in
    let len = c.parts.len in
    let xs = c.parts.into in
    let part = c.read.new.into in
    λ before given kept. record {
      within = tt;
      reads = tt;
      end = tt;
      breaks_off = record {
        bytes = take len xs ++ [];
        few = rw (append-nil (take len xs)) (omega (arith, length-take len xs, c.parts-test.true, c.parts.auto.into));
        reads = ReadsOn-then (with_ending BrokenOff) (take len xs) [] before mid new
            (c.parts.invariant.reads before given)
            (ReadsOn-failed c.in-Err.field-0 _ part mid new c.in-Err.ensures);
      };
      cause = Rose-later before mid new (c.parts.invariant.keeps before kept) c.in-Err.ensures.cause;
      keeps = KeepsReading-read _ part (Err c.in-Err.field-0) before mid new (c.parts.invariant.keeps before kept)
          c.in-Err.ensures;
    }

pub returns : goal.returns
returns g c =
    let mid = g.D.Desk.view c.parts.desk in
    let len = c.parts.len in
    λ before given kept. record {
      within = omega (arith, c.parts.invariant.within, c.parts.auto.into);
      reads = after_fill-full (length c.args.into.now) len (take len c.parts.into) before mid
          (omega (arith, c.parts-test.false, c.parts.auto.into)) (c.parts.invariant.reads before given);
      end = λ less. absurd (omega (arith, less, c.parts-test.false, c.parts.auto.into));
      breaks_off = tt;
      cause = tt;
      keeps = c.parts.invariant.keeps before kept;
    }

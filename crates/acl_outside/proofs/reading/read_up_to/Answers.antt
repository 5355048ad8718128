use Rattle.std.proofs.Common.{◌≡◌, ◌≤◌, ◌<◌, ◌+◌, [], ◌++◌, Some, Result, Ok, Err, length, take, inl, inr, refl, ap, ◌∙◌, append-nil, arith, length-take, length-drop}
use Rattle.std.proofs.lemmas.Result.{err_from_is_err_and}
use Rattle.acl_outside.specs.declared.reading.ReadAll.{ReadAll}
use Rattle.acl_outside.specs.declared.reading.ReadAll.TheVariants.{ReadFault, OutOfMemory}
use Rattle.acl_outside.specs.Desk.{Content, ReadsInto}
use Rattle.acl_outside.specs.Heard.{Ended, BrokenOff, with_ending}
use Rattle.acl_outside.specs.DeskReading.{and_goes_on}
use Rattle.acl_outside.proofs.ToldLaws.{Changes-weaker}
use Rattle.acl_outside.proofs.ReadingLaws.{Gives-capped, Changes-to_end, take-read_after, take-read_end}
use Rattle.acl_outside.proofs.KeptLaws.{KeepsCounts-same, KeepsCounts-join, KeepsMade-same, KeepsMade-join, KeepsMade-read}
use Rattle.acl_outside.proofs.HeardLaws.{ReadsOn-none, ReadsOn-then, ReadsOn-given, ReadsOn-ended, ReadsOn-failed}
use Rattle.acl_outside.proofs.reading.read_up_to.Goals as goal
use Rattle.acl_outside.proofs.reading.read_up_to.Goals.{else-parts-test, then-parts-test+in_ok-make_room+in-Ok-eq0}

pub parts-init : goal.parts-init
parts-init g c = record {
  in_bytes = omega arith;
  in_cap = omega (arith, c.new-bytes.ensures.len);
  read = ReadsOn-none (g.D.Desk.view c.args.desk.now);
  reading = refl;
  writing = refl;
  made = KeepsMade-same (g.D.Desk.view c.args.desk.now);
  absent = refl;
  counts = KeepsCounts-same (g.D.Desk.view c.args.desk.now);
}

-- bytes are no fault, and want of memory is no read fault
not_failed : {A : Type 0} (bytes : A) (fault : ReadAll) → Ok bytes ≡ Err fault → ⊥
not_failed bytes fault is = cc

no_read_fault : {A : Type 0} (result : Result A ReadAll) → result ≡ Err OutOfMemory → result ≡ Err ReadFault → ⊥
no_read_fault result want read = cc

pub parts-preserved : goal.parts-preserved
parts-preserved g c =
    let within = simp (length-take, length-drop) at c.in-Ok.ensures.within in
    let in_bytes : c.parts.len + c.in-Ok.count ≤ c.make_room.new.bytes.len = omega arith in
    let in_read : c.in-Ok.count ≤ length c.read.new.into = rw c.read.auto.into
    (simp (length-take, length-drop) (omega arith)) in
    let some : 0 < length (take c.in-Ok.count c.read.new.into) =
    omega (arith, length-take c.in-Ok.count c.read.new.into, in_read, c.in-Ok.count-test.1) in
    record {
      in_bytes = in_bytes;
      in_cap = omega arith;
      read =
          rw (
            take-read_after c.make_room.new.bytes.len c.parts.len c.in-Ok.count c.deref_mut.result.now c.read.new.into
                _ _
                (omega arith) in_read in_bytes,
            ap (take c.parts.len) c.deref_mut.ensures.value ∙ c.in_ok-make_room.ensures.kept,
          )
          (ReadsOn-then and_goes_on (take c.parts.len c.parts.bytes.items) (take c.in-Ok.count c.read.new.into)
          (g.D.Desk.view c.args.desk.now) (g.D.Desk.view c.parts.desk) (g.D.Desk.view c.read.new.self)
          c.parts.invariant.read
          (ReadsOn-given _ c.read.new.into c.in-Ok.count (g.D.Desk.view c.parts.desk) (g.D.Desk.view c.read.new.self)
          c.in-Ok.ensures some));
      reading = c.in-Ok.ensures.reading ∙ c.parts.invariant.reading;
      writing = c.in-Ok.ensures.writing ∙ c.parts.invariant.writing;
      made = KeepsMade-join _ _ _ c.parts.invariant.made
          (KeepsMade-read _ c.read.new.into (Ok c.in-Ok.count) _ _ c.in-Ok.ensures);
      absent = c.in-Ok.ensures.absent ∙ c.parts.invariant.absent;
      counts = KeepsCounts-join _ _ _ c.parts.invariant.counts c.in-Ok.ensures.counts;
    }

pub returns-in_err-make_room : goal.returns-in_err-make_room
returns-in_err-make_room g c =
    let failed = err_from_is_err_and c.from_residual.result c.from_residual.ensures.1 in
    rw (failed.1, failed.2)
    record {
      within = tt;
      bytes = tt;
      heard = tt;
      lost = (take c.parts.len c.parts.bytes.items, c.parts.invariant.read);
      reading = c.parts.invariant.reading;
      writing = c.parts.invariant.writing;
      read_fault = λ e. absurd (no_read_fault _ refl e);
      absent = c.parts.invariant.absent;
      made = c.parts.invariant.made;
      counts = c.parts.invariant.counts;
    }

pub returns-in-Err : goal.returns-in-Err
returns-in-Err g c = record {
  within = tt;
  bytes = tt;
  heard = tt;
  lost = (
    take c.parts.len c.parts.bytes.items ++ [],
    ReadsOn-then (with_ending BrokenOff) (take c.parts.len c.parts.bytes.items) []
        (g.D.Desk.view c.args.desk.now) (g.D.Desk.view c.parts.desk) (g.D.Desk.view c.read.new.self)
        c.parts.invariant.read
        (ReadsOn-failed c.in-Err.field-0 _ c.read.new.into (g.D.Desk.view c.parts.desk) (g.D.Desk.view c.read.new.self)
        c.in-Err.ensures),
  );
  reading = c.in-Err.ensures.reading ∙ c.parts.invariant.reading;
  writing = c.in-Err.ensures.writing ∙ c.parts.invariant.writing;
  read_fault = λ e. omega (arith, c.parts.invariant.counts.read_faults, c.in-Err.ensures.cause);
  absent = c.in-Err.ensures.absent ∙ c.parts.invariant.absent;
  made = KeepsMade-join _ _ _ c.parts.invariant.made
      (KeepsMade-read _ c.read.new.into (Err c.in-Err.field-0) _ _ c.in-Err.ensures);
  counts = KeepsCounts-join _ _ _ c.parts.invariant.counts c.in-Err.ensures.counts;
}

pub returns : goal.returns
returns g c = elim c.parts-test.branch [
  | else-parts-test w ↦
      let full : length (take c.parts.len c.parts.bytes.items) ≡ c.args.cap =
      omega (arith, w.parts-test.false, c.parts.bytes.ok, length-take c.parts.len c.parts.bytes.items) in
      let same : c.truncate.new.self.items ≡ take c.parts.len c.parts.bytes.items =
      rw (c.truncate.ensures.items, w.bytes-is) refl in
      rw (w.desk-is)
      record {
        within = rw same (omega (arith, full));
        bytes =
            rw same
            (Changes-weaker _ _ (Gives-capped c.args.cap (take c.parts.len c.parts.bytes.items) full) _ _
            c.parts.invariant.read.told);
        heard = rw same (inr (c.parts.invariant.read, full));
        lost = tt;
        reading = c.parts.invariant.reading;
        writing = c.parts.invariant.writing;
        read_fault = λ e. absurd (not_failed _ ReadFault e);
        absent = c.parts.invariant.absent;
        made = c.parts.invariant.made;
        counts = c.parts.invariant.counts;
      }
  | then-parts-test+in_ok-make_room+in-Ok-eq0 w ↦
      let room = w.in_ok-make_room.ensures.room in
      let deref_len = w.deref_mut.ensures.len in
      let before = c.parts.bytes.items in
      let read : ReadsInto _ w.read.new.into (g.D.Desk.view c.parts.desk) (g.D.Desk.view w.read.new.self) (Ok 0) =
      rw (w.in-Ok-eq0.field-0-test) at w.in-Ok-eq0.ensures in
      let kept : take c.parts.len w.deref_mut.result.now ≡ take c.parts.len before =
      ap (take c.parts.len) w.deref_mut.ensures.value ∙ w.in_ok-make_room.ensures.kept in
      let same : c.truncate.new.self.items ≡ take c.parts.len before =
      rw (c.truncate.ensures.items, w.bytes-is)
      (take-read_end w.make_room.new.bytes.len c.parts.len w.deref_mut.result.now w.read.new.into _ _ before
      (omega arith) (omega arith) kept) in
      let few : length (take c.parts.len before) < c.args.cap = omega (arith, length-take c.parts.len before) in
      let ended : (content : Content) → (g.D.Desk.view c.parts.desk).content ≡ Some content → content.left ≡ [] =
      elim (read.end refl) [
        | inl empty ↦ absurd (let none = simp (length-take, length-drop) at (ap length empty) in omega (arith, none))
        | inr ended ↦ ended
      ] in
      rw (w.desk-is)
      record {
        within = rw same (omega (arith, few));
        bytes =
            rw same
            (Changes-to_end c.args.cap (take c.parts.len before) (omega (arith, few)) _ _ _ c.parts.invariant.read.told
            ended read.given);
        heard =
            rw same
            (inl (
              rw (append-nil (take c.parts.len before)) at
                  (ReadsOn-then (with_ending Ended) (take c.parts.len before) []
                  (g.D.Desk.view c.args.desk.now) (g.D.Desk.view c.parts.desk) (g.D.Desk.view w.read.new.self)
                  c.parts.invariant.read
                  (ReadsOn-ended _ w.read.new.into (g.D.Desk.view c.parts.desk) (g.D.Desk.view w.read.new.self) read
                  (simp (length-take, length-drop) (omega arith)))),
              few,
            ));
        lost = tt;
        reading = read.reading ∙ c.parts.invariant.reading;
        writing = read.writing ∙ c.parts.invariant.writing;
        read_fault = λ e. absurd (not_failed _ ReadFault e);
        absent = read.absent ∙ c.parts.invariant.absent;
        made = KeepsMade-join _ _ _ c.parts.invariant.made (KeepsMade-read _ w.read.new.into (Ok 0) _ _ read);
        counts = KeepsCounts-join _ _ _ c.parts.invariant.counts read.counts;
      }
]

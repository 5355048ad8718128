use Rattle.std.proofs.Common.{Ok, refl, ◌∙◌, arith, length-take, length-drop}
use Rattle.std.proofs.lemmas.List.{take_all, take_rest}
use Rattle.std.proofs.lemmas.Result.{err_from_is_err_and}
use Rattle.acl_outside.proofs.KeptLaws.{KeepsCounts-same, KeepsCounts-join, KeepsHeard-same, KeepsHeard-join, KeepsHeard-write}
use Rattle.acl_outside.proofs.MadeLaws.{WritesOn-none, WritesOn-more, WritesOn-taken, WritesOn-failed, WritesPrefix-failed}
use Rattle.acl_outside.proofs.writing.write_all.Goals as goal

pub writes-init : goal.writes-init
writes-init g c = record {
  in_piece = omega arith;
  so_far = WritesOn-none (g.D.Desk.view c.args.desk.now);
  reading = refl;
  writing = refl;
  kept = KeepsHeard-same (g.D.Desk.view c.args.desk.now);
  counts = KeepsCounts-same (g.D.Desk.view c.args.desk.now);
}

pub writes-preserved : goal.writes-preserved
writes-preserved g c = record {
  in_piece = let within = simp (length-take, length-drop) at c.in_ok-written.ensures.within in omega arith;
  so_far = WritesOn-more c.writes.written c.in_ok-written.field-0 c.args.piece.now _ _ _ c.writes.invariant.so_far
      (rw take_rest at
      (WritesOn-taken _ c.in_ok-written.field-0 _ _ c.in_ok-written.ensures));
  reading = c.in_ok-written.ensures.reading ∙ c.writes.invariant.reading;
  writing = c.in_ok-written.ensures.writing ∙ c.writes.invariant.writing;
  kept = KeepsHeard-join _ _ _ c.writes.invariant.kept
      (KeepsHeard-write _ (Ok c.in_ok-written.field-0) _ _ c.in_ok-written.ensures);
  counts = KeepsCounts-join _ _ _ c.writes.invariant.counts c.in_ok-written.ensures.counts;
}

pub returns-in_err-written : goal.returns-in_err-written
returns-in_err-written g c =
    let failed = err_from_is_err_and c.from_residual.result c.from_residual.ensures.1 in
    let write = c.in_err-written.ensures in
    rw (failed.1)
    record {
      whole = tt;
      prefix = WritesPrefix-failed c.writes.written c.args.piece.now _ _ _ c.writes.invariant.so_far
          (WritesOn-failed _ _ _ _ write);
      reading = write.reading ∙ c.writes.invariant.reading;
      writing = write.writing ∙ c.writes.invariant.writing;
      cause = omega (arith, c.writes.invariant.counts.write_faults, write.cause);
      heard = KeepsHeard-join _ _ _ c.writes.invariant.kept
          (KeepsHeard-write _ _ _ _ write);
      counts = KeepsCounts-join _ _ _ c.writes.invariant.counts write.counts;
    }

pub returns : goal.returns
returns g c = record {
  whole = rw (take_all c.writes.written c.args.piece.now (omega (arith, c.writes-test.false))) at
      c.writes.invariant.so_far;
  prefix = tt;
  reading = c.writes.invariant.reading;
  writing = c.writes.invariant.writing;
  cause = tt;
  heard = c.writes.invariant.kept;
  counts = c.writes.invariant.counts;
}

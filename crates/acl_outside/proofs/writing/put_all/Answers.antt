use Rattle.std.proofs.Common.{arith, length-take, length-drop}
use Rattle.std.proofs.lemmas.List.{take_all, take_rest}
use Rattle.std.proofs.lemmas.Result.{err_from_is_err_and}
use Rattle.acl_outside.proofs.WritingLaws.{Gains-more, GainsPrefix-failed}
use Rattle.acl_outside.proofs.writing.put_all.Goals as goal

pub returns-in_err-written : goal.returns-in_err-written
returns-in_err-written g c =
    let failed = err_from_is_err_and c.from_residual.result c.from_residual.ensures.1 in
    rw (failed.1)
    record {
      whole = tt;
      prefix = GainsPrefix-failed c.puts.written c.args.piece.now _ _ _ c.puts.invariant.so_far
          c.in_err-written.ensures.took_nothing;
      cause = omega (arith, c.puts.invariant.count, c.in_err-written.ensures.cause);
      count = omega (arith, c.puts.invariant.count, c.in_err-written.ensures.count);
    }

pub returns : goal.returns
returns g c = record {
  whole = rw (take_all c.puts.written c.args.piece.now (omega (arith, c.puts-test.false))) at c.puts.invariant.so_far;
  prefix = tt;
  cause = tt;
  count = c.puts.invariant.count;
}

pub puts-preserved : goal.puts-preserved
puts-preserved g c = record {
  in_piece = let within = simp (length-take, length-drop) at c.in_ok-written.ensures.within in omega arith;
  so_far = Gains-more c.puts.written c.in_ok-written.field-0 c.args.piece.now _ _ _
      c.puts.invariant.so_far (rw take_rest at c.in_ok-written.ensures.taken);
  count = omega (arith, c.puts.invariant.count, c.in_ok-written.ensures.count);
}

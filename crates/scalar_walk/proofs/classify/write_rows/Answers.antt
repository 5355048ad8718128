use Rattle.std.proofs.Common.{ℕ, ap, arith, ◌∙◌}
use Rattle.std.specs.Prelude.{slice_index}
use Rattle.std.proofs.lemmas.List.FromFn.{length-map-range_with_len}
use Rattle.scalar_walk.specs.Rows.{row_verdicts, row_winners}
use Rattle.scalar_walk.proofs.Below.{pieces_none, one_piece, all_pieces}
use Rattle.scalar_walk.proofs.classify.write_rows.Goals as goal

pub loop-lane-init : goal.loop-lane-init
loop-lane-init c = (
  pieces_none (λ (k : ℕ). row_verdicts c.args.rows.now c.args.asked.count (slice_index c.args.reached.now k))
      c.args.asked.count c.args.verdicts.now,
  pieces_none (λ (k : ℕ). row_winners c.args.rows.now c.args.asked.marks (slice_index c.args.reached.now k))
      c.args.asked.marks c.args.won.now,
)

pub loop-lane-preserved : goal.loop-lane-preserved
loop-lane-preserved c = (
  one_piece c.loop-lane.invariant.0 c.write_row.ensures.verdicts
      (length-map-range_with_len _ 0 c.args.asked.count),
  one_piece c.loop-lane.invariant.1
      (c.write_row.ensures.won
      ∙ ap (λ (n : ℕ). row_winners c.args.rows.now n (slice_index c.args.reached.now c.loop-lane.lane)) (omega arith))
      (length-map-range_with_len _ 0 c.args.asked.marks),
)

pub returns-clause-verdicts : goal.returns-clause-verdicts
returns-clause-verdicts c = all_pieces c.loop-lane.invariant.0 (omega (arith, c.loop-lane-test.false)) c.requires.room

pub returns-clause-won : goal.returns-clause-won
returns-clause-won c = all_pieces c.loop-lane.invariant.1 (omega (arith, c.loop-lane-test.false)) c.requires.marks_room

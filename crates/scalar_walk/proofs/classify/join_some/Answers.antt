use Rattle.std.proofs.Common.{◌<◌, ℕ, List, arith, ap, ◌∙◌, [], length}
use Rattle.std.specs.Prelude.{replicate}
use Rattle.std.proofs.lemmas.List.{get_or-replicate}
use Rattle.flat_table.specs.Batch.{key_at, key_verdicts}
use Rattle.scalar_walk.specs.Rows.{key_winners}
use Rattle.scalar_walk.proofs.Batches.{verdicts_len, winners_len}
use Rattle.scalar_walk.proofs.Below.{pieces_none, one_piece, all_pieces}
use Rattle.scalar_walk.proofs.Reached.{rows_there, verdicts_are, winners_are}
use Rattle.scalar_walk.proofs.LaneKeys.{room_fits}
use Rattle.scalar_walk.proofs.classify.join_some.Goals as goal

pub reach_some-taken-requires : goal.reach_some-taken-requires
reach_some-taken-requires g c =
    let wide = λ (k : ℕ) (h : k < g.row.ROOM).
    ap (λ (xs : List ℕ). length xs) (get_or-replicate g.row.ROOM k (replicate 8 0) [] h) in
    ((room_fits c.requires.lanes).0, (c.requires.keys, (c.requires.some, (c.requires.lanes, wide))))

pub loop-lane-init : goal.loop-lane-init
loop-lane-init g c =
    let key = λ (k : ℕ). key_at c.args.table.now c.args.keys.now k in (
      pieces_none (λ (k : ℕ). key_verdicts c.args.table.now c.args.asked.count (key k)) c.args.asked.count
          c.args.verdicts.now,
      pieces_none (λ (k : ℕ). key_winners c.args.table.now c.args.asked.marks (key k)) c.args.asked.marks
          c.args.won.now,
    )

pub write_answers-requires-clause-rows : goal.write_answers-requires-clause-rows
write_answers-requires-clause-rows g c =
    let r = c.reach_some-taken.ensures in
    rows_there (r.rows c.loop-lane.lane c.loop-lane-test.true) r.few

pub loop-lane-preserved : goal.loop-lane-preserved
loop-lane-preserved g c =
    let r = c.reach_some-taken.ensures in
    let lane = c.loop-lane.lane in
    let table = c.args.table.now in
    let key = key_at table c.args.keys.now lane in (
      one_piece c.loop-lane.invariant.0
          (c.write_answers.ensures.verdicts ∙ verdicts_are (r.rows lane c.loop-lane-test.true) r.few _
          ∙ ap (λ (n : ℕ). key_verdicts table n key) (omega arith))
          (verdicts_len table c.args.asked.count key),
      one_piece c.loop-lane.invariant.1
          (c.write_answers.ensures.won ∙ winners_are (r.rows lane c.loop-lane-test.true) r.few _
          ∙ ap (λ (n : ℕ). key_winners table n key) (omega arith))
          (winners_len table c.args.asked.marks key),
    )

pub returns-clause-verdicts : goal.returns-clause-verdicts
returns-clause-verdicts g c = all_pieces c.loop-lane.invariant.0 (omega (arith, c.loop-lane-test.false)) c.requires.room

pub returns-clause-won : goal.returns-clause-won
returns-clause-won g c =
    all_pieces c.loop-lane.invariant.1 (omega (arith, c.loop-lane-test.false)) c.requires.marks_room

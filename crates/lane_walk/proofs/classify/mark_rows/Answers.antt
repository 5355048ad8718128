use Rattle.std.proofs.Common.{◌==◌, ℕ, [], List, arith, map, not, sym, ◌∙◌}
use Rattle.std.specs.Prelude.{slice_index}
use Rattle.std.specs.List.{range_with_len}
use Rattle.std.proofs.lemmas.List.FromFn.{length-map-range_with_len}
use Rattle.std.proofs.lemmas.Option.{get_or_from_slice_get}
use Rattle.scalar_walk.specs.Rows.{row_winners}
use Rattle.scalar_walk.proofs.Offered.{pieces_none, one_piece, all_pieces, room_of_part}
use Rattle.lane_walk.proofs.classify.mark_rows.Goals as goal

pub loop-k-init : goal.loop-k-init
loop-k-init c = pieces_none (λ (k : ℕ). row_winners c.args.scratch.now c.args.count k) c.args.count c.args.won.now

pub loop-k-preserved : goal.loop-k-preserved
loop-k-preserved c =
    let l = c.loop-k in
    let marks = λ (row : List ℕ) (n : ℕ).
    map (λ category. not (slice_index row category == 0)) (range_with_len 0 n) in
    let room = room_of_part l.won l.k 1 c.args.keys c.args.count (l.auto.won ∙ c.requires.room)
    (omega (arith, c.loop-k-test.true)) ∙ omega arith in
    let row = sym (get_or_from_slice_get c.args.scratch.now l.k c.row.result.now [] c.row.ensures) in
    one_piece l.invariant (c.mark_row.ensures ∙ (λ i. marks (row i) (room i)))
    (length-map-range_with_len _ 0 c.args.count)

pub returns : goal.returns
returns c = all_pieces c.loop-k.invariant (omega arith) c.requires.room

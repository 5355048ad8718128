use Rattle.std.proofs.Common.{subst, ◌+◌, List, ℕ, [], arith, sym}
use Rattle.std.proofs.lemmas.Option.{get_or_from_slice_get}
use Rattle.lane_walk.proofs.Joining.{JoinedTo, joined_none, joined_more}
use Rattle.lane_walk.proofs.rows.join_noted.Goals as goal

pub loop-k-init : goal.loop-k-init
loop-k-init c = joined_none c.args.table.now c.args.scratch.now c.args.keys

pub loop-k-preserved : goal.loop-k-preserved
loop-k-preserved c =
    subst (λ (rows : List (List ℕ)). JoinedTo c.args.table.now c.args.scratch.now c.args.keys (c.loop-k.k + 1) rows)
    (sym c.put.ensures)
    (joined_more c.loop-k.invariant (omega (arith, c.loop-k-test.true, c.requires.keys))
    (omega (arith, c.loop-k-test.true))
    (get_or_from_slice_get c.loop-k.scratch c.loop-k.k c.row.result.now [] c.row.ensures) c.joined_of-row.ensures)

use Rattle.std.proofs.Common.{subst, ◌+◌, ◌∙◌, ap, List, ℕ, [], arith, sym, get_or}
use Rattle.std.proofs.lemmas.Option.{get_or_from_slice_get}
use Rattle.lane_walk.proofs.Joining.{JoinedTo, joined_none, joined_more, row_of_one}
use Rattle.lane_walk.proofs.rows.copy_noted.Goals as goal

pub loop-k-init : goal.loop-k-init
loop-k-init c = joined_none c.args.table.now c.args.scratch.now c.args.keys

pub loop-k-preserved : goal.loop-k-preserved
loop-k-preserved c =
    let all : List (List ℕ) = c.args.table.now.rows in
    let row = c.row-in-loop-k in
    subst (λ (rows : List (List ℕ)). JoinedTo c.args.table.now c.args.scratch.now c.args.keys (c.loop-k.k + 1) rows)
    (sym c.put.ensures)
    (joined_more c.loop-k.invariant (omega (arith, c.loop-k-test.true, c.requires.keys))
    (omega (arith, c.loop-k-test.true))
    (get_or_from_slice_get c.loop-k.scratch c.loop-k.k c.row.result.now [] c.row.ensures)
    (row_of_one {noted = c.row.result.now} c.requires.one c.copied-row.ensures.len
    (ap (λ (r : ℕ). get_or all r []) (sym c.index_of.ensures.value)
    ∙ get_or_from_slice_get all c.index_of.result row.result.now [] row.ensures ∙ sym c.copied-row.ensures.same)))

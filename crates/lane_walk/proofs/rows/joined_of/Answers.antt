use Rattle.std.proofs.Common.{ℕ, List, sym, ap, ◌∙◌, [], arith, refl, get_or}
use Rattle.std.proofs.lemmas.Option.{get_or_from_slice_get}
use Rattle.lane_walk.proofs.Joining.{row_none, row_more}
use Rattle.lane_walk.proofs.rows.joined_of.Goals as goal

pub loop-trie-init : goal.loop-trie-init
loop-trie-init c = row_none c.args.table.now c.args.noted.now _ refl

pub loop-trie-preserved : goal.loop-trie-preserved
loop-trie-preserved c =
    let all : List (List ℕ) = c.args.table.now.rows in
    let number = c.index_of in
    row_more c.loop-trie.invariant
    (ap (λ (r : ℕ). get_or all r []) (sym number.ensures.value)
    ∙ get_or_from_slice_get all number.result c.row.result.now [] c.row.ensures)
    c.join_rows.ensures

use Rattle.std.proofs.Common.{◌≡◌, ℕ, ◌<◌, length, get_or, max, ◌∙◌, ap, arith}
use Rattle.std.proofs.lemmas.List.{length-set}
use Rattle.state_parts.proofs.RowLaws.{set_done, set_left, join_done}
use Rattle.state_parts.proofs.rows.join_rows.Goals as goal

pub loop-category-preserved : goal.loop-category-preserved
loop-category-preserved c =
    let inv = c.loop-category.invariant in
    let k : ℕ = c.loop-category.category in
    let below : k < length c.loop-category.row = omega (arith, inv.0, c.loop-category-test.true) in
    let is : c.max.result ≡ max (get_or c.args.one.now k 0) (get_or c.args.other.now k 0) =
    c.max.ensures ∙ ap (λ n. max n (get_or c.args.other.now k 0)) (inv.4 k (omega arith)) in (
      length-set c.loop-category.row k c.max.result ∙ inv.0,
      inv.1,
      inv.2,
      set_done c.loop-category.row (λ n. max (get_or c.args.one.now n 0) (get_or c.args.other.now n 0)) k c.max.result
          below is inv.3,
      set_left c.loop-category.row (λ n. get_or c.args.one.now n 0) k c.max.result inv.4,
    )

pub returns : goal.returns
returns c =
    let inv = c.loop-category.invariant in
    join_done c.loop-category.row c.args.one.now c.args.other.now inv.0 inv.1 inv.2
    (λ k below. inv.3 k (omega (arith, below, c.loop-category-test.false)))

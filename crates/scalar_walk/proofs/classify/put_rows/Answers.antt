use Rattle.std.proofs.Common.{◌≢◌, ℕ, List, [], arith, ap, ◌∙◌, get_or, set}
use Rattle.std.proofs.Common.{get_or-set_same, get_or-set_other}
use Rattle.std.proofs.Math.ListN.{length-set}
use borrow.Author.Count.{below_more}
use Rattle.scalar_walk.proofs.classify.put_rows.Goals as goal

pub loop-lane-preserved : goal.loop-lane-preserved
loop-lane-preserved g c =
    let l = c.loop-lane in
    let trie : ℕ = c.args.trie in
    let word : ℕ = get_or c.args.rows.now l.lane 0 in
    let row : List ℕ = set (get_or l.reached l.lane []) trie word in (
      omega (arith, length-set l.reached l.lane row, l.invariant.0),
      below_more _ _
          (λ k h. let other : k ≢ l.lane = omega (arith, h) in get_or-set_other l.reached l.lane k row [] other
          ∙ l.invariant.1 k h)
          (get_or-set_same l.reached l.lane row [] (omega (arith, l.invariant.0, c.loop-lane-test.true))
          ∙ ap (λ (xs : List ℕ). set xs trie word) (l.invariant.2 l.lane (omega arith))),
      λ k h. let other : k ≢ l.lane = omega (arith, h) in get_or-set_other l.reached l.lane k row [] other
          ∙ l.invariant.2 k (omega (arith, h)),
    )

pub returns : goal.returns
returns g c k h = c.loop-lane.invariant.1 k (omega (arith, h, c.loop-lane-test.false))

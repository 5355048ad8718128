use Rattle.std.proofs.Common.{◌≡◌, ℕ, ap, ◌∙◌, arith}
use Rattle.std.specs.Prelude.{slice_index}
use borrow.Author.Count.{below_more}
use Rattle.lane_walk.proofs.fleet.are_straight.Goals as goal

pub loop-depth-init : goal.loop-depth-init
loop-depth-init c = λ d below.
    let none : d ≡ 0 = omega (arith, below) in
    ap (λ (k : ℕ). slice_index c.args.places.now k) none ∙ omega (arith, none)

pub loop-depth-preserved : goal.loop-depth-preserved
loop-depth-preserved c = below_more _ _ c.loop-depth.invariant (omega arith)

pub returns : goal.returns
returns c = λ _ d below. c.loop-depth.invariant d (omega (arith, below, c.loop-depth-test.false))

use Rattle.std.proofs.Common.{ℕ, ◌*◌, arith, ap, sym, ◌∙◌}
use Rattle.std.specs.Prelude.{slice_index}
use Rattle.scalar_walk.specs.Lanes.{sum_below}
use Rattle.scalar_walk.proofs.Below.{sum_none}
use Rattle.scalar_walk.proofs.LaneKeys.{own_none}
use Rattle.scalar_walk.proofs.in_step.end_in.Goals as goal

pub returns-else-four-clause-taken : goal.returns-else-four-clause-taken
returns-else-four-clause-taken g c =
    let none = own_none c.args.count (4 * c.args.four) (omega (arith, c.requires.lanes)) in
    sym (ap (λ (n : ℕ). sum_below (λ (i : ℕ). slice_index c.args.walks.taken i) n) none
    ∙ sum_none (λ (i : ℕ). slice_index c.args.walks.taken i))

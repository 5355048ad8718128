-- the fours so far have taken their words, which are counted
use Rattle.std.proofs.Common.{◌≡◌, ◌+◌, ◌*◌}
use Rattle.scalar_walk.specs.Wide.{going}
use Rattle.scalar_walk.proofs.Taking.{TakenTo}
use Rattle.scalar_walk.proofs.wide.Lanes.take.Given as goal

abbrev pub invariant-loop-four : goal.invariant-loop-four
invariant-loop-four g l =
    TakenTo l.words l.at l.fn.self l.fn.taken l.four l.self l.taken
    × (l.steps ≡ l.fn.steps + going l.fn.self (4 * l.four))

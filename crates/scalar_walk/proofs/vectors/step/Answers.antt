use Rattle.scalar_walk.proofs.Stepping.{can_take, goes_on}
use Rattle.scalar_walk.proofs.vectors.step.Goals as goal

pub take-requires : goal.take-requires
take-requires g c i few = can_take (c.requires.ready i few) (c.reads_at-at.ensures i few)

pub returns-clause-walks : goal.returns-clause-walks
returns-clause-walks g c i few =
    goes_on (c.requires.ready i few) (c.reads_at-at.ensures i few) (c.take.ensures.walks i few)

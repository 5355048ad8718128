use Rattle.std.proofs.Common.{ℕ}
use Rattle.std.proofs.lemmas.List.{get_or-replicate}
use Rattle.scalar_walk.specs.Lanes.{ended}
use Rattle.scalar_walk.proofs.wide.Lanes.none.Goals as goal

pub returns-clause-lows : goal.returns-clause-lows
returns-clause-lows c j h =
    let gone : ℕ = ended in
    let zero : ℕ = 0 in
    get_or-replicate 64 j gone zero h

pub returns-clause-highs : goal.returns-clause-highs
returns-clause-highs c j h = let zero : ℕ = 0 in get_or-replicate 64 j zero zero h

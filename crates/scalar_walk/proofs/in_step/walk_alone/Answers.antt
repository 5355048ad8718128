use Rattle.std.proofs.Common.{ℕ, List, arith, ap}
use Rattle.flat_table.specs.Batch.{key_at}
use Rattle.flat_table.specs.Walk.{walk_transitions}
use Rattle.scalar_walk.proofs.Below.{sum_more, sum_none}
use Rattle.scalar_walk.proofs.InStep.{key_alone}
use Rattle.scalar_walk.proofs.in_step.walk_alone.Goals as goal

pub returns-clause-taken : goal.returns-clause-taken
returns-clause-taken g c =
    let table = c.args.table.now in
    let t = λ (k : ℕ). walk_transitions table c.args.trie (key_at table c.args.keys.now k) in
    let alone = ap (λ (key : List ℕ). walk_transitions table c.args.trie key) (key_alone table c.args.keys.now
    c.requires.keys) in
    omega (arith, c.from.ensures, c.walk_one-walked.ensures.taken, alone, sum_more t 0, sum_none t)

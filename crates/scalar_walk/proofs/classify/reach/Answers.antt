use Rattle.std.proofs.Common.{arith}
use Rattle.scalar_walk.proofs.Reached.{reaches_more, first_tries_more}
use Rattle.scalar_walk.proofs.classify.reach.Goals as goal

pub loop-trie-preserved : goal.loop-trie-preserved
loop-trie-preserved g c =
    let w = c.walk_one-walked.ensures in
    let more = first_tries_more c.args.table.now c.args.key.now c.loop-trie.trie in (
      reaches_more c.loop-trie.invariant.0 (omega arith) record { is = w.row; there = w.there },
      omega (arith, more, w.taken, c.from-taken.ensures),
      omega (arith, w.limit),
      omega (arith, w.steps, w.taken, c.from-taken.ensures),
    )

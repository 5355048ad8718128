use Rattle.std.proofs.Common.{length, ap, arith}
use Rattle.state_parts.proofs.Offered.{length-pieces}
use Rattle.trie_merge.proofs.levels.Level.runs.Goals as goal

pub slice-requires-clause-k : goal.slice-requires-clause-k
slice-requires-clause-k c =
    let inside = c.self.inside.pieces in
    let long = length-pieces inside.runs.items 0 inside.ends.items in
    omega (arith, ap length c.self.view_is, long, ap length c.as_slice-2.ensures.value)

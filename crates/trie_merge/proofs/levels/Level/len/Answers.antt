use Rattle.std.proofs.Common.{length, ap, arith}
use Rattle.state_parts.proofs.Offered.{length-pieces}
use Rattle.trie_merge.proofs.levels.Level.len.Goals as goal

pub returns : goal.returns
returns c =
    let inside = c.self.inside.pieces in
    omega (arith, ap length c.self.view_is, length-pieces inside.runs.items 0 inside.ends.items, inside.ends.ok)

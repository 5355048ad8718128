use Rattle.std.proofs.Common.{◌≡◌, length}
use Rattle.trie_merge.proofs.follow.lead_parts.Given as goal
use Rattle.trie_merge.specs.Led.{AllLed}

abbrev pub invariant-loop-index : goal.invariant-loop-index
invariant-loop-index l =
    AllLed l.column l.parts l.fn.target l.target l.steps × (length l.steps ≡ l.index)

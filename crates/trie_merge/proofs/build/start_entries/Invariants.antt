use Rattle.std.proofs.Common.{◌≡◌, take, map}
use Rattle.node_expand.specs.declared.edge.Edge.TheVariants.{Free}
use Rattle.trie_merge.proofs.build.start_entries.Given as goal
use Rattle.group_states.specs.Entry.{entry_of}
use Rattle.trie_merge.specs.declared.order.Keyed.{Keyed}

abbrev pub invariant-loop-keyed : goal.invariant-loop-keyed
invariant-loop-keyed l =
    l.entries.items ≡ map (λ (keyed : Keyed). entry_of keyed.number Free) (take l.keyed-index l.order)

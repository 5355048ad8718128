-- the loop stands at a trie, and the first unsound root is its or one after it
use Rattle.std.proofs.Common.{◌≡◌, not, drop}
use Rattle.std.specs.List.{zip, position_from}
use Rattle.flat_table.specs.Table.{view_of, trie_levels}
use Rattle.flat_table.specs.Sound.{leads_into, first_level, first_unsound_root}
use Rattle.flat_table.proofs.Levels.{AtTrie}
use Rattle.flat_table.proofs.sound.unsound_root.Given as goal

abbrev pub invariant-loop-trie : goal.invariant-loop-trie
invariant-loop-trie l =
    let table = view_of l.parts in
    AtTrie table l.trie l.first l.from
    × (position_from (λ trie. not (leads_into (first_level trie.1) trie.0)) l.trie
    (zip (drop l.trie table.roots) (drop l.trie (trie_levels table))) ≡ first_unsound_root table)

-- the loop stands at a trie, and the first unsound word is in its levels or after them
use Rattle.std.proofs.Common.{◌≡◌, map, drop, length}
use Rattle.flat_table.specs.Table.{view_of, trie_levels}
use Rattle.flat_table.specs.Sound.{unsound_word, first_some, first_unsound_word}
use Rattle.flat_table.proofs.Levels.{AtTrie}
use Rattle.flat_table.proofs.sound.first_unsound_word.Given as goal

abbrev pub invariant-loop-kept : goal.invariant-loop-kept
invariant-loop-kept l =
    let table = view_of l.parts in
    AtTrie table l.kept-index l.first l.from
    × (first_some (map (unsound_word (length table.rows) table.words) (drop l.kept-index (trie_levels table)))
    ≡ first_unsound_word table)

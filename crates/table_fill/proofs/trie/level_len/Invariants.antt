-- the words so far, with those of the states that are left, are those of all states
use Rattle.std.proofs.Common.{◌≡◌, ◌+◌, [], drop, get_or}
use Rattle.table_fill.specs.Filled.{level_len}
use Rattle.table_fill.proofs.trie.level_len.Given as goal

abbrev pub invariant-loop-state : goal.invariant-loop-state
invariant-loop-state l =
    let states = get_or l.trie.levels l.depth [] in
    l.words + level_len (drop l.state states) ≡ level_len states

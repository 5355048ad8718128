-- the words so far, with those into the states that are left, are those into all states
use Rattle.std.proofs.Common.{◌≡◌, ◌+◌, [], drop, get_or}
use Rattle.table_fill.specs.Filled.{level_len, words_into}
use Rattle.list_lemmas.proofs.Loops.{Writes}
use Rattle.table_fill.proofs.trie.words_into.Given as goal

abbrev pub invariant-loop-state : goal.invariant-loop-state
invariant-loop-state l =
    let states = get_or l.trie.levels l.depth [] in
    Writes (words_into l.place) states l.state l.words.items (words_into l.fn.place states)
    × (l.place + level_len (drop l.state states) ≡ l.fn.place + level_len states)

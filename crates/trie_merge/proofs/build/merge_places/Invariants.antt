-- the places before this one are merged, and what this one has may be known
use Rattle.trie_merge.proofs.build.merge_places.Given as goal
use Rattle.trie_merge.proofs.Placing.{Placed}
use Rattle.trie_merge.specs.Places.{IsKnown}

abbrev pub invariant-loop-j : goal.invariant-loop-j
invariant-loop-j l =
    Placed l.rules l.group l.cap l.j l.gathered.levels.items l.gathered.reached.target l.gathered.reached.found.keys
    l.gathered.words
    × IsKnown l.rules l.places l.j l.gathered.ahead

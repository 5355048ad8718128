-- what the places before this one lead to is looked at
use Rattle.trie_merge.proofs.probe.probe_places.Given as goal
use Rattle.trie_merge.specs.Merged.{numbers_of, target_of}
use Rattle.trie_merge.specs.Probed.{IsProbed}

abbrev pub invariant-loop-j : goal.invariant-loop-j
invariant-loop-j l =
    IsProbed l.rules l.group l.budget.cap l.places l.j (target_of l.merged) (numbers_of l.merged) l.merged.words

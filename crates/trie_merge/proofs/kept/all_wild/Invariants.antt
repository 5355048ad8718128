use Rattle.std.proofs.Common.{◌≡◌, take, true}
use Rattle.std.specs.List.{list_all}
use Rattle.trie_merge.proofs.kept.all_wild.Given as goal

abbrev pub invariant-loop-is : goal.invariant-loop-is
invariant-loop-is l = list_all (λ is. is) (take l.is-index l.wild) ≡ true

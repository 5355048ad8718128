use Rattle.std.proofs.Common.{◌≡◌, take, true}
use Rattle.trie_merge.proofs.kept.is_wild_place.Given as goal
use Rattle.group_states.specs.Kept.{is_wild_place}

abbrev pub invariant-loop-number : goal.invariant-loop-number
invariant-loop-number l = is_wild_place l.rules (take l.number-index l.group) l.place ≡ true

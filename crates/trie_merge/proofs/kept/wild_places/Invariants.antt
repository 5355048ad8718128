use Rattle.std.proofs.Common.{◌≡◌, map}
use Rattle.std.specs.List.{range_with_len}
use Rattle.trie_merge.proofs.kept.wild_places.Given as goal
use Rattle.group_states.specs.Kept.{is_wild_place}

abbrev pub invariant-loop-place : goal.invariant-loop-place
invariant-loop-place l = l.wild.items ≡ map (is_wild_place l.rules l.group) (range_with_len 0 l.place)

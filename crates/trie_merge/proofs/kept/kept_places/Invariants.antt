use Rattle.std.proofs.Common.{◌≡◌, filter}
use Rattle.std.specs.List.{range_with_len}
use Rattle.trie_merge.proofs.kept.kept_places.Given as goal
use Rattle.table_sizes.specs.Groups.{group_of}
use Rattle.trie_merge.specs.Wild.{is_kept_by}

abbrev pub invariant-loop-place : goal.invariant-loop-place
invariant-loop-place l = l.places.items
    ≡ filter (λ place. is_kept_by l.wild (group_of place)) (range_with_len 0 l.place)

use Rattle.std.proofs.Common.{◌≡◌, ◌==◌, ◌||◌, not, get_or, true}
use Rattle.std.specs.List.{range_with_len, list_all}
use Rattle.trie_merge.proofs.kept.is_idle.Given as goal
use Rattle.table_sizes.specs.Groups.{group_of}

abbrev pub invariant-loop-place : goal.invariant-loop-place
invariant-loop-place l = list_all (λ place. not (group_of place == l.input) || get_or l.wild place true)
    (range_with_len 0 l.place) ≡ true

use Rattle.std.proofs.Common.{◌≡◌, ℕ, ◌<◌, length, get_or}
use Rattle.trie_merge.proofs.names.name_ranks.Given as goal

abbrev pub invariant-loop-category : goal.invariant-loop-category
invariant-loop-category l =
    (length l.row ≡ 16) × ((c : ℕ) → c < l.category → get_or l.row c 0 ≡ get_or l.names (get_or l.ranks c 0) 0)

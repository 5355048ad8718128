-- the rows that the tries so far reach, and the words that they took
use Rattle.std.proofs.Common.{◌≡◌, ◌+◌, ◌*◌, ◌≤◌, ◌<◌, ℕ, [], get_or, length}
use Rattle.table_sizes.specs.Groups.{max_key_len}
use Rattle.table_sizes.specs.Sizes.{max_tries}
use Rattle.flat_table.specs.Batch.{key_at}
use Rattle.scalar_walk.specs.Lanes.{sum_below}
use Rattle.scalar_walk.specs.Rows.{Reaches}
use Rattle.scalar_walk.proofs.Reached.{first_tries_transitions}
use Rattle.scalar_walk.proofs.classify.reach_some.Given as goal

abbrev pub invariant-loop-trie : goal.invariant-loop-trie
invariant-loop-trie g l =
    ((k : ℕ) → k < l.count → Reaches l.table (key_at l.table l.keys k) l.trie (get_or l.reached k []))
    × (l.taken ≡ sum_below (λ (k : ℕ). first_tries_transitions l.table (key_at l.table l.keys k) l.trie) l.count)
    × (l.taken ≤ l.trie * (l.count * max_key_len))
    × (l.steps ≡ l.initial.steps + l.taken)
    × ((k : ℕ) → k < g.row.ROOM → length (get_or l.reached k []) ≡ max_tries)

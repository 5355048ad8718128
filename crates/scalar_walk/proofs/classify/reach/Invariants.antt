-- the rows that the tries so far reach, and the words that they took
use Rattle.std.proofs.Common.{◌≡◌, ◌+◌, ◌*◌, ◌≤◌}
use Rattle.table_sizes.specs.Groups.{max_key_len}
use Rattle.scalar_walk.proofs.Reached.{first_tries_transitions}
use Rattle.scalar_walk.specs.Rows.{Reaches}
use Rattle.scalar_walk.proofs.classify.reach.Given as goal

abbrev pub invariant-loop-trie : goal.invariant-loop-trie
invariant-loop-trie g l =
    Reaches l.table l.key l.trie l.rows
    × (l.taken ≡ first_tries_transitions l.table l.key l.trie)
    × (l.taken ≤ l.trie * max_key_len)
    × (l.steps ≡ l.initial.steps + l.taken)

-- the rows of the lanes so far are written, and the other lanes stay
use Rattle.std.proofs.Common.{◌≡◌, ◌<◌, ◌≤◌, ℕ, [], get_or, set, length}
use Rattle.scalar_walk.proofs.classify.put_rows.Given as goal

abbrev pub invariant-loop-lane : goal.invariant-loop-lane
invariant-loop-lane g l =
    (length l.reached ≡ g.row.ROOM)
    × ((k : ℕ) → k < l.lane → get_or l.reached k [] ≡ set (get_or l.fn.reached k []) l.trie (get_or l.rows k 0))
    × ((k : ℕ) → l.lane ≤ k → get_or l.reached k [] ≡ get_or l.fn.reached k [])

-- all walks have read the bytes at the places so far, their transitions are counted, and all but the first have ended
use Rattle.std.proofs.Common.{◌≡◌, ℕ, ◌+◌, ◌-◌, ◌*◌, ◌<◌, ◌≤◌, length}
use Rattle.std.specs.Prelude.{slice_index}
use Rattle.scalar_walk.specs.Wide.{together}
use Rattle.scalar_walk.proofs.InStep.{way_of}
use Rattle.scalar_walk.proofs.Ranks.{AreRead, Ranks, all_took, fours_of}
use Rattle.scalar_walk.proofs.wide.walk_wide.Given as goal

abbrev pub invariant-loop-n : goal.invariant-loop-n
invariant-loop-n g l =
    Ranks (way_of l.table l.trie l.places l.words) l.keys l.count l.left l.n l.lanes l.rows
    × (l.n ≤ length l.places)
    × (length l.rows ≡ 64)
    × (together l.taken ≡ all_took (way_of l.table l.trie l.places l.words) l.keys l.count l.n)
    × ((i : ℕ) → i < 4 → slice_index l.taken i ≤ 16 * l.n)
    × (l.steps ≡ l.fn.steps + together l.taken)

abbrev pub decreases-loop-n : goal.decreases-loop-n
decreases-loop-n g l = length l.places - l.n

abbrev pub invariant-loop-place : goal.invariant-loop-place
invariant-loop-place g l =
    Ranks (way_of l.table l.trie l.places l.words) l.keys l.count l.left (l.n + l.place) l.lanes l.rows
    × AreRead (way_of l.table l.trie l.places l.words) l.keys (fours_of l.left) l.n l.read l.lanes.keys l.groups
    × (length l.rows ≡ 64)
    × (together l.taken ≡ all_took (way_of l.table l.trie l.places l.words) l.keys l.count (l.n + l.place))
    × ((i : ℕ) → i < 4 → slice_index l.taken i ≤ 16 * (l.n + l.place))
    × (l.steps ≡ l.fn.steps + together l.taken)

-- the fours so far have read their bytes
use Rattle.std.proofs.Common.{◌≡◌, ℕ, ◌+◌, ◌*◌, ◌<◌, length}
use Rattle.std.specs.Prelude.{slice_index}
use Rattle.scalar_walk.specs.Wide.{in_four, number_of}
use Rattle.scalar_walk.proofs.wide.Lanes.read.Given as goal

abbrev pub invariant-loop-four : goal.invariant-loop-four
invariant-loop-four l =
    (length l.groups ≡ 16)
    × ((f i k : ℕ) → f < l.four → i < 4 → k < l.count → in_four l.groups f (4 * i + k)
    ≡ slice_index l.keys (number_of l.self (4 * f + i) * l.len + l.from + k))

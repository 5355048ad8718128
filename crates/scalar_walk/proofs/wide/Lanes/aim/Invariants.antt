-- the fours so far have said where they read
use Rattle.std.proofs.Common.{◌≡◌, ℕ, ◌+◌, ◌*◌, ◌<◌, length}
use Rattle.scalar_walk.specs.Rows.{ReadsAt}
use Rattle.scalar_walk.specs.Wide.{in_four, word_of}
use Rattle.scalar_walk.proofs.wide.Lanes.aim.Given as goal

abbrev pub invariant-loop-four : goal.invariant-loop-four
invariant-loop-four l =
    (length l.at ≡ 16)
    × ((f i : ℕ) → f < l.four → i < 4 →
    ReadsAt (word_of l.self (4 * f + i)) (in_four l.groups f (4 * i + l.place)) (in_four l.at f i))

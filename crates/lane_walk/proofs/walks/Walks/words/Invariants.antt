-- the words of the first groups of four stand there
use Rattle.std.proofs.Common.{◌≡◌, ◌*◌, ◌<◌, ℕ, length}
use Rattle.std.specs.Prelude.{slice_index}
use Rattle.scalar_walk.specs.Lanes.{word_in}
use Rattle.lane_walk.proofs.walks.Walks.words.Given as goal

abbrev pub invariant-loop-group : goal.invariant-loop-group
invariant-loop-group g l = (length l.words ≡ g.row.W) × ((lane : ℕ) → lane < l.group * 4 →
    slice_index l.words lane ≡ word_in l.self.lows l.self.highs lane)

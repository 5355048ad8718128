use Rattle.std.proofs.Common.{◌≡◌, length, map, take}
use Rattle.state_parts.specs.Buckets.{pair_in, AreLinked}
use Rattle.state_parts.proofs.pair_set.link_all.Given as goal

-- the pairs so far are linked, and all are as they were
abbrev pub invariant-loop-place : goal.invariant-loop-place
invariant-loop-place l =
    AreLinked (take l.place l.all) l.heads × (map pair_in l.all ≡ map pair_in l.fn.all)
    × (length l.all ≡ length l.fn.all)

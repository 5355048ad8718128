-- The lines so far.
use Rattle.std.proofs.Common.{◌≡◌}
use Rattle.cisco_reader.specs.Held.{max_depth, opened_times}
use Rattle.cisco_reader.proofs.held.opened_times.Given as goal

-- what they make, so many times more, is what the first ones make
abbrev pub invariant-loop-place : goal.invariant-loop-place
invariant-loop-place l =
    opened_times max_depth l.groups l.kind l.number l.fn.lines.items
    ≡ opened_times l.times l.groups l.kind l.number l.made.items

abbrev pub decreases-loop-place : goal.decreases-loop-place
decreases-loop-place l = l.times

use Rattle.std.proofs.Common.{◌≡◌, length}
use Rattle.header_extract.specs.Ip6.{upper_of}
use Rattle.header_extract.proofs.ip6.find_upper.Given as goal

-- the rest of the chain leads to what the whole chain leads to
abbrev pub invariant-loop-left : goal.invariant-loop-left
invariant-loop-left l = upper_of l.next l.left ≡ upper_of l.fn.next l.fn.left

abbrev pub decreases-loop-left : goal.decreases-loop-left
decreases-loop-left l = length l.left

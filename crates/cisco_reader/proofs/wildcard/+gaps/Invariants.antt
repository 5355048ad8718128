-- The bits that are left.
use Rattle.cisco_reader.proofs.wildcard.+gaps.Given as goal

-- they get fewer
abbrev pub decreases-gaps : goal.decreases-gaps
decreases-gaps l = l.bits

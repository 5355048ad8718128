use Rattle.std.proofs.Common.{◌-◌}
use Rattle.state_parts.proofs.Covering.{Merged}
use Rattle.state_parts.proofs.pieces.merge.Given as goal

abbrev pub invariant-loop-first : goal.invariant-loop-first
invariant-loop-first l = Merged l.initial.target l.target l.one l.other l.pieces.items l.i l.j l.first

abbrev pub decreases-loop-first : goal.decreases-loop-first
decreases-loop-first l = 256 - l.first

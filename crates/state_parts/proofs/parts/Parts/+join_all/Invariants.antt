use Rattle.std.proofs.Common.{length}
use Rattle.state_parts.proofs.parts.Parts.+join_all.Given as goal

abbrev pub decreases-join_all : goal.decreases-join_all
decreases-join_all l = length l.entries.now

use Rattle.std.proofs.Common.{length}
use Rattle.acl_session.proofs.Lines.{IsAnsweredUpTo}
use Rattle.acl_session.proofs.script.session.Given as goal

-- the lines before what is left were answered
abbrev pub invariant-loop-line : goal.invariant-loop-line
invariant-loop-line l = IsAnsweredUpTo l.script l.made l.replies.items l.left

abbrev pub decreases-loop-line : goal.decreases-loop-line
decreases-loop-line l = length l.left

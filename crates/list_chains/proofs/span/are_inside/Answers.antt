-- Whether a box lies in another, span by span.
use Rattle.std.proofs.Common.{sym}
use Rattle.list_chains.proofs.Meets.{outside}
use Rattle.list_chains.proofs.span.are_inside.Goals as goal

pub returns-then-ones-others : goal.returns-then-ones-others
returns-then-ones-others c = sym (outside c.args.ones.now c.args.others.now c.if-ones-others.true)

use Rattle.node_expand.proofs.Changes.{turns}
use Rattle.node_expand.proofs.allowed.turns.Goals as goal

pub returns : goal.returns
returns c = turns c.args.value c.args.mask c.args.byte c.requires

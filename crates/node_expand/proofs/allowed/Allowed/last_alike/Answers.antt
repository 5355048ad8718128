use Rattle.node_expand.proofs.allowed.Allowed.last_alike.Goals as goal

pub returns-in-Between : goal.returns-in-Between
returns-in-Between c = rw c.in-Between.is c.last_between.ensures

pub returns-in-Agreeing : goal.returns-in-Agreeing
returns-in-Agreeing c = rw c.in-Agreeing.is c.last_masked.ensures

use Rattle.field_defs.proofs.Wild.{wild_is_every}
use Rattle.field_defs.proofs.matching.is_wild.Goals as goal

pub returns-in-Mask-clause-every : goal.returns-in-Mask-clause-every
returns-in-Mask-clause-every c = rw c.in-Mask.is (wild_is_every _ c.args.size (rw c.in-Mask.is at c.requires))

pub returns-in-Bitmask-clause-every : goal.returns-in-Bitmask-clause-every
returns-in-Bitmask-clause-every c = rw c.in-Bitmask.is (wild_is_every _ c.args.size (rw c.in-Bitmask.is at c.requires))

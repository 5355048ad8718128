-- Slices of marks that compare equal are the same.
use Rattle.std.specs.Cmp.{booleans_Decides}
use Rattle.std.proofs.lemmas.Slice.Eq.{slice_eq-Decides}
use Rattle.list_chains.proofs.jumps.are_same.Goals as goal

pub returns : goal.returns
returns c = (slice_eq-Decides booleans_Decides c.args.ones.now c.args.others.now c.eq.result c.eq.ensures).0

use Rattle.std.proofs.lemmas.Bool.{eqb-true}
use Rattle.flow_core.proofs.Join.{zeros_of}
use Rattle.flow_core.proofs.scratch.is_zero.Goals as goal

pub returns : goal.returns
returns c = λ none. zeros_of c.args.row.now c.told-row (eqb-true _ 0 none)

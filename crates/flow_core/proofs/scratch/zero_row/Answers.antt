use Rattle.std.proofs.Common.{refl}
use Rattle.flow_core.specs.Rows.{zero_row}
use Rattle.flow_core.proofs.scratch.zero_row.Goals as goal

pub returns : goal.returns
unfolding zero_row
returns c = refl

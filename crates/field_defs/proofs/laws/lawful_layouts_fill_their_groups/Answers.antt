use Rattle.field_defs.proofs.Filled.{filled_groups}
use Rattle.field_defs.proofs.laws.lawful_layouts_fill_their_groups.Goals as goal

pub returns : goal.returns
returns c = filled_groups

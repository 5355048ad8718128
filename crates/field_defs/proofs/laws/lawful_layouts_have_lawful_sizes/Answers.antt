use Rattle.field_defs.proofs.Faultless.{lawful_sizes}
use Rattle.field_defs.proofs.laws.lawful_layouts_have_lawful_sizes.Goals as goal

pub returns : goal.returns
returns c = lawful_sizes

use Rattle.field_defs.proofs.Faultless.{short_keys}
use Rattle.field_defs.proofs.laws.lawful_layouts_have_short_keys.Goals as goal

pub returns : goal.returns
returns c = short_keys

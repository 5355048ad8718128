use Rattle.field_defs.proofs.Wild.{wild_is_every}
use Rattle.field_defs.proofs.laws.wild_values_match_every_number.Goals as goal

pub returns : goal.returns
returns c = wild_is_every

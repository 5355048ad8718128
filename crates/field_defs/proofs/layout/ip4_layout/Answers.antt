use Rattle.std.proofs.Common.{refl, arith}
use Rattle.field_defs.specs.Faults.{failing_number}
use Rattle.field_defs.specs.LayoutFault.{layout_fault}
use Rattle.field_defs.proofs.layout.ip4_layout.Goals as goal

pub of_lawful-requires : goal.of_lawful-requires
unfolding layout_fault failing_number
of_lawful-requires c = record { few = omega arith; faultless = refl }

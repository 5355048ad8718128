-- The fields of either family are a lawful layout.
use Rattle.std.proofs.Common.{◌≤◌, refl, arith}
use Rattle.field_defs.specs.Faults.{failing_number}
use Rattle.field_defs.specs.Layout.{ip4_fields, ip6_fields}
use Rattle.field_defs.specs.Lawful.{IsLayout}
use Rattle.field_defs.specs.LayoutFault.{layout_fault}

-- those of IPv4
pub ip4_is_layout : IsLayout ip4_fields
unfolding layout_fault failing_number
ip4_is_layout = record { few = omega arith; faultless = refl }

-- and those of IPv6
pub ip6_is_layout : IsLayout ip6_fields
unfolding layout_fault failing_number
ip6_is_layout = record { few = omega arith; faultless = refl }

-- What the bytes allowed at one place answer.
use Rattle.std.specs.Prelude.{◌≡◌, ℕ, ◌-◌, ◌≤◌, ◌/◌, ◌%◌, ◌==◌, ◌&&◌, nat_lt, nat_le, bit_and}
use Rattle.std.specs.Prelude.{Option, Some, None, if◌then◌else◌}
use Rattle.node_expand.specs.declared.allowed.Allowed.{Allowed}
use Rattle.node_expand.specs.declared.allowed.Allowed.TheVariants.{Between, Agreeing}
use Rattle.node_expand.specs.declared.edge.Edge.{Edge}
use Rattle.node_expand.specs.declared.edge.Edge.TheVariants.{Free}
use Rattle.node_expand.specs.Edges.{edge_with}

-- the edge after an allowed byte
unfoldable pub answer_of : Allowed → ℕ → Option Edge
answer_of (Between low high low_inner high_inner) byte =
    if nat_le low byte && nat_le byte high
    then Some (edge_with (byte == low && low_inner) (byte == high && high_inner))
    else None
answer_of (Agreeing value mask) byte = if bit_and byte mask == value then Some Free else None

-- some byte is allowed
abbrev pub IsFilled : Allowed → Type 0
IsFilled (Between low high low_inner high_inner) = low ≤ high
IsFilled (Agreeing value mask) = bit_and value mask ≡ value

-- the bytes are those between two ends
abbrev pub IsBetween : Allowed → Type 0
IsBetween (Between low high low_inner high_inner) = Unit {0}
IsBetween (Agreeing value mask) = ⊥

-- the bytes that the numbers from low to high have before their last `unit`th part, of which each
-- end keeps its own
unfoldable pub between : ℕ → ℕ → ℕ → Allowed
between low high unit =
    Between (low / unit % 256) (high / unit % 256)
    (nat_lt 0 (low % unit)) (nat_lt (high % unit) (unit - 1))

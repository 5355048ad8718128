-- Layouts of fields, and the key of a buffer (DPDK Programmer's Guide, "Packet Classification and
-- Access Control").
use Rattle.std.specs.Prelude.{ℕ, ◌+◌, ◌-◌, List, [], ◌∷◌, take, drop, max, fold, sum_by}
use Rattle.std.specs.List.{flat_map}
use Rattle.field_defs.specs.declared.field.FieldKind.TheVariants.{Mask, Range, Bitmask}
use Rattle.field_defs.specs.declared.field.FieldDef.{FieldDef}
use Rattle.field_defs.specs.declared.layout.TheConstants.{MAX_FIELDS}

-- the key of a buffer: the bytes of each field, one field after the other
abbrev pub key_of : List FieldDef → List ℕ → List ℕ
key_of defs buffer = flat_map (λ d. take d.size (drop d.offset buffer)) defs

-- how many bytes a key has
abbrev pub key_len_of : List FieldDef → ℕ
key_len_of defs = sum_by (λ d. d.size) defs

-- how many bytes of a buffer the fields reach
abbrev pub buffer_len_of : List FieldDef → ℕ
buffer_len_of defs = fold (λ n d. max n (d.offset + d.size)) 0 defs

-- how many fields a layout may have
abbrev pub max_fields : ℕ
max_fields = MAX_FIELDS

-- the layout of IPv4 packets: protocol, source, destination, source port, destination port
abbrev pub ip4_fields : List FieldDef
ip4_fields =
    record { kind = Bitmask; size = 1; field_index = 0; input_index = 0; offset = 0 }
    ∷ record { kind = Mask; size = 4; field_index = 1; input_index = 1; offset = 1 }
    ∷ record { kind = Mask; size = 4; field_index = 2; input_index = 2; offset = 5 }
    ∷ record { kind = Range; size = 2; field_index = 3; input_index = 3; offset = 9 }
    ∷ record { kind = Range; size = 2; field_index = 4; input_index = 3; offset = 11 }
    ∷ []

-- the layout of IPv6 packets, each address as its two halves: protocol, source high and low,
-- destination high and low, source port, destination port
abbrev pub ip6_fields : List FieldDef
ip6_fields =
    record { kind = Bitmask; size = 1; field_index = 0; input_index = 0; offset = 0 }
    ∷ record { kind = Mask; size = 8; field_index = 1; input_index = 1; offset = 1 }
    ∷ record { kind = Mask; size = 8; field_index = 2; input_index = 3; offset = 9 }
    ∷ record { kind = Mask; size = 8; field_index = 3; input_index = 5; offset = 17 }
    ∷ record { kind = Mask; size = 8; field_index = 4; input_index = 7; offset = 25 }
    ∷ record { kind = Range; size = 2; field_index = 5; input_index = 9; offset = 33 }
    ∷ record { kind = Range; size = 2; field_index = 6; input_index = 9; offset = 35 }
    ∷ []

-- Examples of covered rules, each checked by evaluation.
use Rattle.std.specs.Prelude.{◌≡◌, ℕ, ℤ, pos, List, [], ◌∷◌, ◌++◌, replicate, true, false, refl}
use Rattle.field_defs.specs.declared.field.FieldKind.TheVariants as kinds
use Rattle.field_defs.specs.declared.field.FieldDef.{FieldDef}
use Rattle.field_defs.specs.declared.field.FieldValue.{FieldValue}
use Rattle.field_defs.specs.declared.field.FieldValue.TheVariants.{Mask, Range, Bitmask}
use Rattle.covered_rules.specs.Covered.{covers_value, has_bits, covers, is_wide, uncovered_of, uncovered, uncovered_set}
use Rattle.rule_set.specs.Rule.{RuleView}

-- a mask covers those of more bits that agree with it
net_in_a_net : covers_value (Mask 0x0A000000 8) (Mask 0x0A010000 16) 4 ≡ true
net_in_a_net = refl

net_beside_a_net : covers_value (Mask 0x0A000000 8) (Mask 0x0B010000 16) 4 ≡ false
net_beside_a_net = refl

net_around_a_net : covers_value (Mask 0x0A010000 16) (Mask 0x0A000000 8) 4 ≡ false
net_around_a_net = refl

host_in_all : covers_value (Mask 7 0) (Mask 0xFFFFFFFF 32) 4 ≡ true
host_in_all = refl

-- bits of a value after its mask say nothing
net_with_host_bits : covers_value (Mask 0x0A0000FF 8) (Mask 0x0A000000 8) 4 ≡ true
net_with_host_bits = refl

-- a range covers those within it
range_itself : covers_value (Range 10 20) (Range 10 20) 2 ≡ true
range_itself = refl

range_with_a_lower_end : covers_value (Range 10 20) (Range 9 20) 2 ≡ false
range_with_a_lower_end = refl

range_with_a_higher_end : covers_value (Range 10 20) (Range 10 21) 2 ≡ false
range_with_a_higher_end = refl

-- a bitmask covers those of more bits that agree with it: odd protocols hold 17
odd_protocols : covers_value (Bitmask 1 1) (Bitmask 17 255) 1 ≡ true
odd_protocols = refl

even_protocols : covers_value (Bitmask 0 1) (Bitmask 17 255) 1 ≡ false
even_protocols = refl

-- a part of its bits isn't enough
a_part_of_the_bits : covers_value (Bitmask 1 3) (Bitmask 1 1) 1 ≡ false
a_part_of_the_bits = refl

other_kinds : covers_value (Mask 0 0) (Range 0 0) 2 ≡ false
other_kinds = refl

-- each category of the covered rule is one of its cover
categories : has_bits 3 1 ∷ has_bits 3 3 ∷ has_bits 1 3 ∷ has_bits 0 0x8000 ∷ []
    ≡ true ∷ true ∷ false ∷ false ∷ []
categories = refl

-- a layout of so many ranges of one byte
abbrev bytes : ℕ → List FieldDef
bytes count =
    let def : FieldDef =
    record { kind = kinds.Range; size = 1; field_index = 0; input_index = 0; offset = 0 } in
    replicate count def

-- three wild bytes of five make a rule wide, two don't
three_fifths : is_wide (bytes 5) (replicate 3 (Range 0 255) ++ replicate 2 (Range 1 255)) ≡ true
three_fifths = refl

two_fifths : is_wide (bytes 5) (replicate 2 (Range 0 255) ++ replicate 3 (Range 1 255)) ≡ false
two_fifths = refl

-- a layout of a bitmask of one byte, a mask of four and a range of two
abbrev three_fields : List FieldDef
three_fields =
    record { kind = kinds.Bitmask; size = 1; field_index = 0; input_index = 0; offset = 0 }
    ∷ record { kind = kinds.Mask; size = 4; field_index = 1; input_index = 1; offset = 1 }
    ∷ record { kind = kinds.Range; size = 2; field_index = 2; input_index = 2; offset = 5 }
    ∷ []

-- a rule of the categories and the priority
abbrev rule : ℕ → ℤ → FieldValue → FieldValue → FieldValue → RuleView
rule mask priority protocol address port =
    record {
      tag = record { category_mask = mask; priority = priority; userdata = 1 };
      fields = protocol ∷ address ∷ port ∷ [];
    }

-- all addresses for a port, and a host for it
abbrev to_port : ℕ → ℤ → RuleView
to_port mask priority = rule mask priority (Bitmask 0 0) (Mask 0 0) (Range 80 90)

abbrev host_to_port : ℕ → ℤ → RuleView
host_to_port mask priority = rule mask priority (Bitmask 6 255) (Mask 0x0A010101 32) (Range 80 80)

-- the places that stay
abbrev stay : List RuleView → List ℕ
stay rules = uncovered three_fields rules

no_rules : stay [] ≡ []
unfolding uncovered uncovered_of
no_rules = refl

covered : stay (to_port 3 (pos 5) ∷ host_to_port 1 (pos 4) ∷ to_port 3 (pos 5) ∷ []) ≡ 0 ∷ []
unfolding uncovered uncovered_of
covered = refl

-- of equal priorities the first has the greater rank
equal_priority : stay (to_port 1 (pos 5) ∷ host_to_port 1 (pos 5) ∷ []) ≡ 0 ∷ []
unfolding uncovered uncovered_of
equal_priority = refl

-- not covered for want of a category
other_category : stay (to_port 1 (pos 5) ∷ host_to_port 3 (pos 4) ∷ []) ≡ 0 ∷ 1 ∷ []
unfolding uncovered uncovered_of
other_category = refl

-- for want of rank
greater_priority : stay (to_port 1 (pos 5) ∷ host_to_port 1 (pos 6) ∷ []) ≡ 0 ∷ 1 ∷ []
unfolding uncovered uncovered_of
greater_priority = refl

-- for a field that reaches further
wider_port : stay (to_port 1 (pos 5) ∷ rule 1 (pos 4) (Bitmask 6 255) (Mask 0 0) (Range 80 91) ∷ [])
    ≡ 0 ∷ 1 ∷ []
unfolding uncovered uncovered_of
wider_port = refl

-- a cover that stands later isn't asked
later_cover : stay (host_to_port 1 (pos 4) ∷ to_port 1 (pos 5) ∷ []) ≡ 0 ∷ 1 ∷ []
unfolding uncovered uncovered_of
later_cover = refl

-- nor is one that isn't wide
abbrev net_to_all : RuleView
net_to_all = rule 1 (pos 5) (Bitmask 0 0) (Mask 0x0A000000 8) (Range 0 65535)

covered_by_narrow : covers three_fields (net_to_all ∷ host_to_port 1 (pos 5) ∷ []) 0 1 ≡ true
covered_by_narrow = refl

narrow_cover : stay (net_to_all ∷ host_to_port 1 (pos 5) ∷ []) ≡ 0 ∷ 1 ∷ []
unfolding uncovered uncovered_of
narrow_cover = refl

-- the set without the covered rules, in order
without_covered :
    let rules : List RuleView = host_to_port 1 (pos 4) ∷ to_port 3 (pos 5) ∷ host_to_port 1 (pos 5)
    ∷ net_to_all ∷ [] in
    (uncovered_set (record { layout = three_fields; rules = rules })).rules
    ≡ host_to_port 1 (pos 4) ∷ to_port 3 (pos 5) ∷ net_to_all ∷ []
unfolding uncovered uncovered_of
without_covered = refl

-- Examples of the winner and its verdict, each checked by evaluation, over one field of one byte.
use Rattle.std.specs.Prelude.{◌≡◌, ℕ, ℤ, pos, List, [], ◌∷◌, ◌++◌, Option, Some, None, map, refl}
use Rattle.field_defs.specs.declared.field.FieldKind.TheVariants as kinds
use Rattle.field_defs.specs.declared.field.FieldDef.{FieldDef}
use Rattle.field_defs.specs.declared.field.FieldValue.{FieldValue}
use Rattle.field_defs.specs.declared.field.FieldValue.TheVariants.{Mask, Range, Bitmask}
use Rattle.field_defs.specs.Layout.{ip4_fields}
use Rattle.rule_set.specs.Rule.{RuleView}
use Rattle.rule_set.specs.Winner.{winner, verdict}

abbrev one_byte : List FieldDef
one_byte = record { kind = kinds.Range; size = 1; field_index = 0; input_index = 0; offset = 0 } ∷
    []

-- a rule of the range from low to high
abbrev ranged : ℕ → ℕ → ℕ → ℤ → ℕ → RuleView
ranged low high mask priority userdata =
    record {
      tag = record { category_mask = mask; priority = priority; userdata = userdata };
      fields = Range low high ∷ [];
    }

-- the winner's place and its verdict, for the one byte and the category
abbrev wins : List RuleView → ℕ → ℕ → Option ℕ
wins rules byte category = winner one_byte rules (byte ∷ []) category

abbrev says : List RuleView → ℕ → ℕ → ℕ
says rules byte category = verdict one_byte rules (byte ∷ []) category

-- of equal priorities the rule that was added first
tie : List RuleView
tie = ranged 0 255 1 (pos 5) 8 ∷ ranged 0 255 1 (pos 5) 9 ∷ []

tie_winner : wins tie 7 0 ≡ Some 0
unfolding tie
tie_winner = refl

tie_verdict : says tie 7 0 ≡ 8
unfolding tie
tie_verdict = refl

-- the greatest priority, and not the first in the list
later : List RuleView
later = ranged 0 255 1 (pos 1) 10 ∷ ranged 0 99 1 (pos 3) 20 ∷ ranged 0 255 1
    (pos 2) 30 ∷ ranged 0 99 1 (pos 3) 40 ∷ []

later_winner : wins later 99 0 ≡ Some 1
unfolding later
later_winner = refl

beyond_the_greater : wins later 100 0 ≡ Some 2
unfolding later
beyond_the_greater = refl

later_verdict : says later 100 0 ≡ 30
unfolding later
later_verdict = refl

-- a rule without the category's bit is ignored
parted : List RuleView
parted = ranged 0 255 2 (pos 9) 10 ∷ ranged 0 255 0x10001 (pos 1) 20 ∷ []

category_0 : says parted 0 0 ≡ 20
unfolding parted
category_0 = refl

category_1 : says parted 0 1 ≡ 10
unfolding parted
category_1 = refl

category_without_rules : wins parted 0 2 ≡ None
unfolding parted
category_without_rules = refl

-- no rule matches
nothing_matches : wins (ranged 10 20 1 (pos 1) 7 ∷ []) 21 0 ≡ None
nothing_matches = refl

no_verdict : says (ranged 10 20 1 (pos 1) 7 ∷ []) 21 0 ≡ 0
no_verdict = refl

no_rules : says [] 0 0 ≡ 0
no_rules = refl

-- the example of the DPDK Programmer's Guide: a rule to 192.168.0.0/16 in categories 0 and 1, one
-- to 192.168.1.0/24 in category 0, one from 10.1.1.1 in category 1, and the answers that it gives
-- for three packets in four categories
abbrev addressed : FieldValue → FieldValue → ℕ → ℤ → ℕ → RuleView
addressed source destination mask priority userdata =
    record {
      tag = record { category_mask = mask; priority = priority; userdata = userdata };
      fields = Bitmask 0 0 ∷ source ∷ destination ∷ Range 0 65535 ∷ Range 0 65535 ∷ [];
    }

guide : List RuleView
guide =
    addressed (Mask 0 0) (Mask 0xC0A80000 16) 3 (pos 1) 1
    ∷ addressed (Mask 0 0) (Mask 0xC0A80100 24) 1 (pos 2) 2
    ∷ addressed (Mask 0x0A010101 32) (Mask 0 0) 2 (pos 3) 3
    ∷ []

-- the verdicts of a packet of protocol 17 between ports 1 and 2
abbrev guide_says : List ℕ → List ℕ
guide_says addresses = map (verdict ip4_fields guide (17 ∷ addresses ++ 0 ∷ 1 ∷ 0 ∷ 2 ∷ []))
    (0 ∷ 1 ∷ 2 ∷ 3 ∷ [])

guide_packet_1 : guide_says (10 ∷ 1 ∷ 1 ∷ 1 ∷ 192 ∷ 168 ∷ 1 ∷ 15 ∷ []) ≡ 2 ∷ 3 ∷ 0 ∷ 0 ∷ []
unfolding guide
guide_packet_1 = refl

guide_packet_2 : guide_says (192 ∷ 168 ∷ 1 ∷ 1 ∷ 192 ∷ 168 ∷ 2 ∷ 11 ∷ []) ≡ 1 ∷ 1 ∷ 0 ∷ 0 ∷ []
unfolding guide
guide_packet_2 = refl

guide_packet_3 : guide_says (10 ∷ 1 ∷ 1 ∷ 1 ∷ 201 ∷ 212 ∷ 111 ∷ 12 ∷ []) ≡ 0 ∷ 3 ∷ 0 ∷ 0 ∷ []
unfolding guide
guide_packet_3 = refl

-- priority 0 is a priority
least_priority : says (ranged 0 255 1 (pos 0) 7 ∷ []) 0 0 ≡ 7
least_priority = refl

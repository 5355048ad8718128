-- Examples of differences and of halves, each checked by evaluation. Keys are cut down to one byte,
-- so that all of them can be gone through.
use Rattle.std.specs.Prelude.{◌≡◌, ℕ, pos, List, [], ◌∷◌, map, true, false, Some, None, refl}
use Rattle.field_defs.specs.declared.field.FieldKind.TheVariants as kinds
use Rattle.field_defs.specs.declared.field.FieldValue.TheVariants.{Range}
use Rattle.rule_set.specs.Fault.{categories}
use Rattle.rule_set.specs.Rule.{RuleView, RuleSetView}
use Rattle.group_states.specs.Found.{all_bytes}
use Rattle.acl_audit.specs.Difference.{eight_from, least_passing, difference}
use Rattle.acl_audit.specs.Half.{mask_of, halved_rules, half_of, has_equal_halves}

-- a rule of some categories for the numbers of a range, and its userdata
abbrev rule : ℕ → ℕ → ℕ → ℕ → RuleView
rule category_mask low high userdata = record {
  tag = record { category_mask = category_mask; priority = pos 1; userdata = userdata };
  fields = Range low high ∷ [];
}

-- a set of rules over keys of one byte
abbrev set : List RuleView → RuleSetView
set rules = record {
  layout = record {
    kind = kinds.Range;
    size = 1;
    field_index = 0;
    input_index = 0;
    offset = 0;
  } ∷ [];
  rules = rules;
}

-- one range ends later than the other, so the number after the end is the least key
ends_differ : difference (set (rule 1 10 20 5 ∷ [])) (set (rule 1 10 22 5 ∷ []))
    ≡ Some (record { key = 21 ∷ []; category = 0 })
unfolding difference least_passing eight_from all_bytes
ends_differ = refl

-- a rule of the same userdata adds nothing, nor does one of userdata 0 where no rule matches
alike : difference (set (rule 1 10 20 5 ∷ rule 1 0 255 0 ∷ [])) (set
    (rule 1 12 20 5 ∷ rule 1 10 15 5 ∷ []))
    ≡ None
unfolding difference least_passing eight_from all_bytes
alike = refl

-- category 7 comes before category 12, though its least key is greater
low_category_first : difference (set (rule 128 200 210 1 ∷ rule 4096 3 4 1 ∷ [])) (set [])
    ≡ Some (record { key = 200 ∷ []; category = 7 })
unfolding difference least_passing eight_from all_bytes
low_category_first = refl

-- and where those below 8 are alike it is told
high_category : difference (set []) (set (rule 4096 3 4 1 ∷ []))
    ≡ Some (record { key = 3 ∷ []; category = 12 })
unfolding difference least_passing eight_from all_bytes
high_category = refl

-- the masks of a half's rules: those of the second list stand in the high bits, and a rule without
-- a category of the half is left out
abbrev masks : ℕ → List ℕ
masks half = map (λ (r : RuleView). r.tag.category_mask)
    (half_of (set (rule 259 0 9 1 ∷ rule 512 0 9 1 ∷ [])) (set (rule 33025 0 9 1 ∷ [])) half).rules

masks_of_halves : map masks (0 ∷ 1 ∷ []) ≡ (3 ∷ 256 ∷ []) ∷ (1 ∷ 2 ∷ 33024 ∷ []) ∷ []
unfolding half_of halved_rules mask_of categories
masks_of_halves = refl

-- all categories, 0 and 8, and 7 and 15 are the same in both halves; 0 to 7, 7 and 8, and 15 aren't
equal_halves : map (λ mask. has_equal_halves 1 (rule mask 0 9 1).tag)
    (65535 ∷ 257 ∷ 32896 ∷ 255 ∷ 384 ∷ 32768 ∷ [])
    ≡ true ∷ true ∷ true ∷ false ∷ false ∷ false ∷ []
unfolding mask_of categories
equal_halves = refl

-- Examples of the lines of a comparison, each checked by evaluation. Keys are cut down to one byte,
-- so that all of them can be gone through.
use Rattle.std.specs.Prelude.{◌≡◌, ℕ, pos, List, [], ◌∷◌, codes, refl}
use Rattle.std.specs.Fmt.{digits}
use Rattle.field_defs.specs.declared.field.Family.TheVariants.{Ip4, Ip6}
use Rattle.field_defs.specs.declared.field.FieldKind.TheVariants as kinds
use Rattle.field_defs.specs.declared.field.FieldValue.TheVariants.{Range}
use Rattle.rule_set.specs.Rule.{RuleView, RuleSetView}
use Rattle.group_states.specs.Found.{all_bytes}
use Rattle.acl_audit.specs.Difference as difference
use Rattle.audit_report.specs.Compare.{compared_text}

-- rules of keys of one byte
abbrev rules : List RuleView → RuleSetView
rules list = record {
  layout = record {
    kind = kinds.Range;
    size = 1;
    field_index = 0;
    input_index = 0;
    offset = 0;
  } ∷ [];
  rules = list;
}

-- the numbers of a range, in these categories and with this userdata
abbrev rule : ℕ → ℕ → ℕ → ℕ → RuleView
rule low high mask userdata = record {
  tag = record { category_mask = mask; priority = pos 1; userdata = userdata };
  fields = Range low high ∷ [];
}

-- a rule that another one covers changes nothing, where both have one userdata
a_covered_rule : compared_text Ip4 (rules (rule 10 20 65535 5 ∷ rule 0 255 65535 5 ∷ []))
    (rules (rule 0 255 65535 5 ∷ [])) ≡ codes "ip4 same\n"
unfolding digits all_bytes difference.difference difference.least_passing difference.eight_from
a_covered_rule = refl

-- the least number at which they differ
a_difference : compared_text Ip6 (rules (rule 10 20 65535 4 ∷ rule 0 255 65535 5 ∷ []))
    (rules (rule 0 255 65535 5 ∷ [])) ≡ codes "ip6 differ category 0 key 0a one 4 two 5\n"
unfolding digits all_bytes difference.difference difference.least_passing difference.eight_from
a_difference = refl

-- categories below 8 come first, whatever their keys
categories_from_0 : compared_text Ip4 (rules (rule 7 7 4096 1 ∷ rule 200 200 128 2 ∷ [])) (rules [])
    ≡ codes "ip4 differ category 7 key c8 one 2 two 0\n"
unfolding digits all_bytes difference.difference difference.least_passing difference.eight_from
categories_from_0 = refl

-- a rule of userdata 0 answers as no rule does
userdata_0 : compared_text Ip4 (rules (rule 0 255 65535 0 ∷ [])) (rules []) ≡ codes "ip4 same\n"
unfolding digits all_bytes difference.difference difference.least_passing difference.eight_from
userdata_0 = refl

-- Examples of the lines of an audit, each checked by evaluation. Keys are cut down to one byte, so
-- that all of them can be gone through.
use Rattle.std.specs.Prelude.{◌≡◌, pos, [], ◌∷◌, ◌++◌, codes, refl}
use Rattle.std.specs.Fmt.{digits}
use Rattle.field_defs.specs.declared.field.FieldKind.TheVariants as kinds
use Rattle.field_defs.specs.declared.field.FieldValue.TheVariants.{Range}
use Rattle.rule_set.specs.Rule.{RuleSetView}
use Rattle.group_states.specs.Found.{all_bytes}
use Rattle.acl_audit.specs.Least.{least_key}
use Rattle.audit_report.specs.Key.{hex_text}
use Rattle.audit_report.specs.Audit.{audit_text}

digits_of_a_key : hex_text (0 ∷ 10 ∷ 171 ∷ 255 ∷ []) ≡ codes "000aabff"
digits_of_a_key = refl

-- no rules of keys of one byte
abbrev none : RuleSetView
none = record {
  layout = record {
    kind = kinds.Range;
    size = 1;
    field_index = 0;
    input_index = 0;
    offset = 0;
  } ∷ [];
  rules = [];
}

no_rules : audit_text 1 none none ≡ codes "rules 0 live 0 never 0\n"
unfolding digits
no_rules = refl

-- numbers from 10 to 20 in category 0, and of greater priority those from 15 on in both categories,
-- after which the numbers from 16 on are nothing new
abbrev three : RuleSetView
three = record {
  layout = none.layout;
  rules = record {
    tag = record { category_mask = 1; priority = pos 1; userdata = 7 };
    fields = Range 10 20 ∷ [];
  } ∷ record {
    tag = record { category_mask = 3; priority = pos 2; userdata = 0 };
    fields = Range 15 255 ∷ [];
  } ∷ record {
    tag = record { category_mask = 3; priority = pos 2; userdata = 9 };
    fields = Range 16 255 ∷ [];
  } ∷ [];
}

-- a rule has a line for each category in which it wins
two_categories : audit_text 2 three none ≡ codes "ip4 rule 1 data 7 wins 0 key 0a\n"
    ++ codes "ip4 rule 2 data 0 wins 0 key 0f\nip4 rule 2 data 0 wins 1 key 0f\n"
    ++ codes "ip4 rule 3 data 9 never\nrules 3 live 2 never 1\n"
unfolding digits least_key all_bytes
two_categories = refl

-- the rules of both families are numbered each for itself, and counted together
both_families : audit_text 1 three three ≡ codes "ip4 rule 1 data 7 wins 0 key 0a\n"
    ++ codes "ip4 rule 2 data 0 wins 0 key 0f\nip4 rule 3 data 9 never\n"
    ++ codes "ip6 rule 1 data 7 wins 0 key 0a\nip6 rule 2 data 0 wins 0 key 0f\n"
    ++ codes "ip6 rule 3 data 9 never\nrules 6 live 4 never 2\n"
unfolding digits least_key all_bytes
both_families = refl

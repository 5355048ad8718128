-- Examples of rules that are given to a context, each checked by evaluation, over one field of one
-- byte.
use Rattle.std.specs.Prelude.{◌≡◌, ℕ, ℤ, pos, negsuc, List, [], ◌∷◌, Option, Some, None, refl}
use Rattle.field_defs.specs.declared.field.FieldKind.TheVariants as kinds
use Rattle.field_defs.specs.declared.field.FieldDef.{FieldDef}
use Rattle.field_defs.specs.declared.field.FieldValue.TheVariants.{Range}
use Rattle.rule_set.specs.declared.check.RuleFault.TheVariants.{NoCategory, PriorityRange}
use Rattle.rule_set.specs.Fault.{rule_fault, categories}
use Rattle.rule_set.specs.Rule.{RuleView}
use Rattle.acl_context.specs.declared.add.AddFault.{AddFault}
use Rattle.acl_context.specs.declared.add.AddFault.TheVariants.{Full, RuleRefused}
use Rattle.acl_context.specs.Add.{add_fault}

abbrev one_byte : List FieldDef
one_byte = record { kind = kinds.Range; size = 1; field_index = 0; input_index = 0; offset = 0 } ∷
    []

-- a rule of all bytes, of these categories and this priority
abbrev rule : ℕ → ℤ → RuleView
rule mask priority = record {
  tag = record { category_mask = mask; priority = priority; userdata = 7 };
  fields = Range 0 255 ∷ [];
}

-- a lawful rule, one without a category, and one whose priority is below 0
abbrev lawful : RuleView
lawful = rule 1 (pos 1)

abbrev in_no_category : RuleView
in_no_category = rule 0x10000 (pos 1)

abbrev below_0 : RuleView
below_0 = rule 1 (negsuc 0)

-- the fault of rules that are given to a context which holds one rule and may hold three
abbrev fault : List RuleView → Option AddFault
fault given = add_fault record {
  set = record { layout = one_byte; rules = lawful ∷ [] };
  max_rules = 3;
  table = None;
} given

no_rule : fault [] ≡ None
unfolding add_fault rule_fault categories
no_rule = refl

as_many_as_fit : fault (lawful ∷ lawful ∷ []) ≡ None
unfolding add_fault rule_fault categories
as_many_as_fit = refl

one_too_many : fault (lawful ∷ lawful ∷ lawful ∷ []) ≡ Some Full
unfolding add_fault rule_fault categories
one_too_many = refl

-- too many comes before unlawful
too_many_and_unlawful : fault (below_0 ∷ lawful ∷ lawful ∷ []) ≡ Some Full
unfolding add_fault rule_fault categories
too_many_and_unlawful = refl

second_unlawful : fault (lawful ∷ in_no_category ∷ []) ≡ Some (RuleRefused 1 NoCategory)
unfolding add_fault rule_fault categories
second_unlawful = refl

-- of two unlawful rules the first
both_unlawful : fault (below_0 ∷ in_no_category ∷ []) ≡ Some (RuleRefused 0 PriorityRange)
unfolding add_fault rule_fault categories
both_unlawful = refl

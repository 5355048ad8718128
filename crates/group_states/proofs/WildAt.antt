-- The value of the field that has a place.
use Rattle.list_lemmas.proofs.Elements.{length-AllZip}
use Rattle.std.proofs.Common.{◌≡◌, ℕ, ◌-◌, ◌<◌, List, [], ◌∷◌, length, get_or, sym, ◌∙◌, ap, subst, inl, inr}
use Rattle.std.proofs.Common.{None, Some, Bool, slice_get, arith}
use Rattle.std.specs.List.{AllZip}
use Rattle.std.proofs.lemmas.List.Sums.{sum_by-cons}
use Rattle.std.proofs.lemmas.Bool.{cases_lt, cond-true, cond-false, lt-ltb, le-ltb}
use Rattle.field_defs.specs.declared.field.FieldDef.{FieldDef}
use Rattle.field_defs.specs.declared.field.FieldValue.{FieldValue}
use Rattle.field_defs.specs.declared.field.FieldValue.TheVariants.{Mask}
use Rattle.field_defs.specs.FieldBounds.{is_wild, CanMatch}
use Rattle.field_defs.specs.Layout.{key_len_of}
use Rattle.field_defs.specs.Lawful.{IsLayout}
use Rattle.rule_set.specs.Lawful.{IsLawfulValue}
use Rattle.rule_set.specs.Rule.{RuleView, RuleSetView}
use Rattle.rule_set.specs.Fault.{rule_fault}
use Rattle.rule_set.proofs.Offered.{faultless_rules}
use Rattle.group_states.proofs.Packed.{field_at_in, field_at_after, further_value}
use Rattle.group_states.proofs.PackedState.{values_there}
use Rattle.group_states.specs.Entry.{FieldPlace, field_at}
use Rattle.group_states.specs.Kept.{is_wild_at}
use Rattle.group_states.specs.RuleRest.{values_of}

-- there are as many values as fields
pub length-zipped : (defs : List FieldDef) (values : List FieldValue) → AllZip IsLawfulValue defs values
    → length values ≡ length defs
length-zipped defs values lawful = length-AllZip IsLawfulValue defs values lawful

-- The value can be asked about the numbers of its field's size, and whether it is wild says so of the place.
pub record IsValueAt (defs : List FieldDef) (values : List FieldValue) (place : ℕ) (at : FieldPlace) : Type 0 where
  pub within : at.field < length values
  pub can : CanMatch (get_or values at.field (Mask 0 0)) at.size
  pub wild : is_wild_at defs values place ≡ is_wild (get_or values at.field (Mask 0 0)) at.size

-- each place of a key lies in a field whose value can be asked about
pub value_at_place : (defs : List FieldDef) (values : List FieldValue) (place : ℕ) → AllZip IsLawfulValue defs values
    → place < key_len_of defs → IsValueAt defs values place (field_at defs place)
value_at_place [] values place lawful within = absurd (omega arith)
value_at_place (def ∷ defs) [] place lawful within = absurd lawful
value_at_place (def ∷ defs) (value ∷ values) place lawful within = elim (cases_lt place def.size) [
  | inl begun ↦
      subst (IsValueAt (def ∷ defs) (value ∷ values) place) (sym (field_at_in def defs place begun))
      (record { within = omega arith; can = lawful.0.can_match; wild = cond-true _ _ _ (lt-ltb place def.size begun) })
  | inr after ↦
      let there = value_at_place defs values (place - def.size) lawful.1
      (omega (arith, within, sum_by-cons (λ (d : FieldDef). d.size) def defs)) in
      let at : FieldPlace = field_at defs (place - def.size) in
      let same = further_value value values at.field in
      subst (IsValueAt (def ∷ defs) (value ∷ values) place) (sym (field_at_after def defs place after))
      (record {
        within = omega (arith, there.within);
        can = subst (λ v. CanMatch v at.size) (sym same) there.can;
        wild = cond-false _ _ _ (le-ltb place def.size after) ∙ there.wild ∙ ap (λ v. is_wild v at.size) (sym same);
      })
]

-- the same for a rule of a lawful set
pub value_of_rule : (layout : List FieldDef) (rule : RuleView) (place : ℕ) (at : FieldPlace) → IsLayout layout →
    rule_fault layout rule.tag rule.fields ≡ None → place < key_len_of layout → at ≡ field_at layout place →
    IsValueAt layout rule.fields place at
value_of_rule layout rule place at lawful faultless within is =
    subst (IsValueAt layout rule.fields place) (sym is)
    (value_at_place layout rule.fields place
    ((faultless_rules layout rule.tag rule.fields lawful).0 faultless).values within)

module _ (set : RuleSetView) (rule : RuleView) (place : ℕ) (defs : List FieldDef) (at : FieldPlace)
    (layout : defs ≡ set.layout) (lawful : IsLayout set.layout)
    (faultless : rule_fault set.layout rule.tag rule.fields ≡ None) (within : place < key_len_of set.layout)
    (lies : at ≡ field_at defs place) where
  -- and where the place was looked up
  pub value_lies : IsValueAt set.layout rule.fields place at
  value_lies =
      value_of_rule set.layout rule place at lawful faultless within (lies ∙ ap (λ ds. field_at ds place) layout)

  -- what was told of the value is told of the place
  pub wild_told : (number : ℕ) (told : Bool) → slice_get set.rules number ≡ Some rule
      → told ≡ is_wild (get_or rule.fields at.field (Mask 0 0)) at.size
      → is_wild_at set.layout (values_of set number) place ≡ told
  wild_told number told there is =
      ap (λ values. is_wild_at set.layout values place) (values_there set number rule there) ∙ value_lies.wild ∙ sym is

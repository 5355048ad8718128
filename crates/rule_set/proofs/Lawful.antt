-- A rule has no fault exactly where it is lawful.
use Rattle.std.proofs.Common.{◌≡◌, ℕ, ◌<◌, ◌&&◌, List, [], ◌∷◌, length, get_or, Bool, true, not, None, refl, arith, pos}
use Rattle.std.specs.List.{AllZip, zip, prefix_len, list_any}
use Rattle.std.specs.Int.Signed.{le_z}
use Rattle.std.proofs.lemmas.Bool.{eqb-true, eq-eqb, le-ltb, and_parts}
use Rattle.std.proofs.lemmas.List.Sums.{AllPass-from_list_all}
use Rattle.field_defs.specs.declared.field.FieldKind.TheVariants as kinds
use Rattle.field_defs.specs.declared.field.FieldDef.{FieldDef}
use Rattle.field_defs.specs.declared.field.FieldValue.{FieldValue}
use Rattle.field_defs.specs.declared.field.FieldValue.TheVariants.{Mask}
use Rattle.field_defs.specs.FieldBounds.{is_size}
use Rattle.field_defs.specs.Lawful.{IsLayout}
use Rattle.field_defs.specs.Faults.{fault_unless}
use Rattle.field_defs.proofs.Offered.{none_at, passes_test, lawful_sizes}
use Rattle.rule_set.specs.declared.rule.RuleTag.{RuleTag}
use Rattle.rule_set.specs.declared.check.RuleFault.TheVariants.{FieldKind, NoCategory, PriorityRange, FieldTooWide}
use Rattle.rule_set.specs.declared.check.RuleFault.TheVariants.{MaskTooLong, EmptyRange}
use Rattle.rule_set.specs.Limits.{max_priority}
use Rattle.rule_set.specs.Winner.{is_in_category}
use Rattle.rule_set.specs.Fault.{categories, rule_fault, faults, failing_place, is_of_kind, is_narrow, is_mask_short}
use Rattle.rule_set.specs.Fault.{is_filled}
use Rattle.rule_set.specs.Lawful.{IsLawfulValue, IsLawfulTag, IsLawfulRule}
use Rattle.rule_set.specs.Laws.{FaultlessRulesAreLawful}
use Rattle.rule_set.specs.Rule.{RuleView, RuleSetView}
use Rattle.rule_set.specs.ValuesMatch.{CanMatchAll}
use Rattle.rule_set.specs.RuleSet.{IsRuleSet}
use Rattle.list_lemmas.proofs.Elements.{length-AllZip, AllZip-from_places}
use Rattle.list_lemmas.proofs.Options.{no_number}
use Rattle.rule_set.proofs.Passing.{passes_at}

-- each value of a rule without fault is lawful for its field
values_lawful : (layout : List FieldDef) (tag : RuleTag) (values : List FieldValue) → IsLayout layout →
    rule_fault layout tag values ≡ None → AllZip IsLawfulValue layout values
unfolding rule_fault
values_lawful layout tag values lawful none_there =
    let d : FieldDef = record { kind = kinds.Mask; size = 1; field_index = 0; input_index = 0; offset = 0 } in
    let v : FieldValue = Mask 0 0 in
    let none = none_at (faults layout tag values) in
    let same : length values ≡ length layout = eqb-true _ _ (passes_test _ _ (none 0 none_there)) in
    AllZip-from_places IsLawfulValue layout values d v same
    (λ i h. record {
      kind = passes_at is_of_kind layout values i d v (no_number FieldKind _ (none 1 none_there)) h
          (omega (arith, same));
      can_match = record {
        lawful_size = AllPass-from_list_all (λ (def : FieldDef). is_size def.size) layout
            (lawful_sizes layout lawful) i d h;
        within_size = passes_at is_narrow layout values i d v (no_number FieldTooWide _ (none 4 none_there)) h
            (omega (arith, same));
        mask_within = passes_at is_mask_short layout values i d v (no_number MaskTooLong _ (none 5 none_there)) h
            (omega (arith, same));
      };
      filled = passes_at is_filled layout values i d v (no_number EmptyRange _ (none 6 none_there)) h
          (omega (arith, same));
    })

-- and so is its tag
pub tag_lawful : (layout : List FieldDef) (tag : RuleTag) (values : List FieldValue) →
    rule_fault layout tag values ≡ None →
    IsLawfulTag tag
unfolding rule_fault
tag_lawful layout tag values none_there =
    let none = none_at (faults layout tag values) in
    let category : fault_unless (list_any (is_in_category tag) categories) NoCategory ≡ None = none 2 none_there in
    let priority : fault_unless (le_z (pos 0) tag.priority && le_z tag.priority (pos max_priority)) PriorityRange
    ≡ None = none 3 none_there in
    let within = and_parts _ _ (passes_test _ _ priority) in
    record { category = passes_test _ _ category; not_below = within.0; not_above = within.1 }

-- a test that each lawful value passes
abbrev IsPassed : (FieldDef → FieldValue → Bool) → Type 0
IsPassed test = (def : FieldDef) (value : FieldValue) → IsLawfulValue def value → test def value ≡ true

-- a test that lawful values pass fails at no place of a lawful rule
all_pass : (test : FieldDef → FieldValue → Bool) → IsPassed test → (layout : List FieldDef) (values : List FieldValue) →
    AllZip IsLawfulValue layout values →
    prefix_len (λ pair. not (not (test pair.0 pair.1))) (zip layout values) ≡ length (zip layout values)
all_pass test passed [] [] lawful = refl
all_pass test passed [] (v ∷ vs) lawful = refl
all_pass test passed (d ∷ ds) [] lawful = refl
all_pass test passed (d ∷ ds) (v ∷ vs) lawful =
    rw (passed d v lawful.0) (omega (arith, all_pass test passed ds vs lawful.1))

-- no place fails the test
failing_place-none : (test : FieldDef → FieldValue → Bool) → IsPassed test →
    (layout : List FieldDef) (values : List FieldValue) → AllZip IsLawfulValue layout values →
    failing_place test layout values ≡ None
failing_place-none test passed layout values lawful =
    rw (
      all_pass test passed layout values lawful,
      le-ltb (length (zip layout values)) (length (zip layout values)) (omega arith),
    ) refl

-- a lawful rule has no fault
no_fault : (layout : List FieldDef) (tag : RuleTag) (values : List FieldValue) → IsLawfulRule layout tag values →
    rule_fault layout tag values ≡ None
unfolding rule_fault
no_fault layout tag values lawful =
    let counted = eq-eqb (length values) (length layout) (length-AllZip IsLawfulValue layout values lawful.values) in
    let kinds_fit = failing_place-none is_of_kind (λ def value fits. fits.kind) layout values lawful.values in
    let narrow = failing_place-none is_narrow
    (λ def value fits. fits.can_match.within_size) layout values lawful.values in
    let short = failing_place-none is_mask_short
    (λ def value fits. fits.can_match.mask_within) layout values lawful.values in
    let filled = failing_place-none is_filled (λ def value fits. fits.filled) layout values lawful.values in
    let category : list_any (is_in_category tag) categories ≡ true = lawful.tag.category in
    let not_below : le_z (pos 0) tag.priority ≡ true = lawful.tag.not_below in
    let not_above : le_z tag.priority (pos max_priority) ≡ true = lawful.tag.not_above in
    rw (counted, kinds_fit, category, not_below, not_above, narrow, short, filled) refl

-- a rule has no fault exactly if it is lawful
pub faultless_rules : FaultlessRulesAreLawful
faultless_rules layout tag values lawful = (
  λ none. record { tag = tag_lawful layout tag values none; values = values_lawful layout tag values lawful none },
  no_fault layout tag values,
)

-- lawful values can be asked about the numbers of their fields' sizes
pub can_match_lawful : (layout : List FieldDef) (values : List FieldValue) → AllZip IsLawfulValue layout values →
    CanMatchAll layout values
can_match_lawful [] [] lawful = tt
can_match_lawful [] (v ∷ vs) lawful = absurd lawful
can_match_lawful (d ∷ ds) [] lawful = absurd lawful
can_match_lawful (d ∷ ds) (v ∷ vs) lawful = (lawful.0.can_match, can_match_lawful ds vs lawful.1)

-- so can those of each rule that a set holds
pub can_match_held : (set : RuleSetView) (i : ℕ) (rule : RuleView) → IsRuleSet set → IsLayout set.layout →
    i < length set.rules → rule ≡ get_or set.rules i rule → CanMatchAll set.layout rule.fields
can_match_held set i rule held layout h rule_is =
    can_match_lawful set.layout rule.fields
    (values_lawful set.layout rule.tag rule.fields layout (rw (← rule_is) at (held.lawful i rule h)))

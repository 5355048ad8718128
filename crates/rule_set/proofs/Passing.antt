-- What holds of the values of a rule that isn't refused.
use Rattle.std.proofs.Common.{◌≡◌, ℕ, ◌<◌, ◌≤◌, List, length, get_or, Bool, true, not, nat_lt, None, inl, inr, arith}
use Rattle.std.specs.List.{zip, position_or_len}
use Rattle.std.proofs.lemmas.Bool.{cases_Bool, ltb-false, not-false}
use Rattle.std.proofs.lemmas.List.Sums.{fails_before_first}
use Rattle.std.proofs.lemmas.Slice.Zip.{length-zip, get_or-zip}
use Rattle.field_defs.specs.declared.field.FieldDef.{FieldDef}
use Rattle.field_defs.specs.declared.field.FieldValue.{FieldValue}
use Rattle.rule_set.specs.Fault.{failing_place}

-- where no place fails, each field and its value pass
pub passes_at : (holds : FieldDef → FieldValue → Bool) (layout : List FieldDef) (values : List FieldValue) (i : ℕ)
    (d : FieldDef) (v : FieldValue) → failing_place holds layout values ≡ None → i < length layout → i < length values →
    holds (get_or layout i d) (get_or values i v) ≡ true
passes_at holds layout values i d v none h k =
    let fails : FieldDef × FieldValue → Bool = λ pair. not (holds pair.0 pair.1) in
    let pairs = zip layout values in
    let past : length pairs ≤ position_or_len fails pairs =
    elim (cases_Bool (nat_lt (position_or_len fails pairs) (length pairs))) [
      | inl e ↦ absurd (let found = rw e at none in cc)
      | inr e ↦ ltb-false _ _ e
    ] in
    let here = fails_before_first fails pairs i (d, v) (omega (arith, length-zip layout values)) in
    not-false _ (rw (get_or-zip layout values i (d, v) h k) at here)

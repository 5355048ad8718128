-- What holds of definitions without a fault.
use Rattle.std.proofs.Common.{◌≡◌, ℕ, zero, suc, ◌+◌, ◌-◌, ◌*◌, ◌==◌, ◌<◌, ◌≤◌, List, [], ◌∷◌, length, get_or, Bool}
use Rattle.std.proofs.Common.{true, false, not, Option, Some, None, refl, ap, ◌∙◌, arith, zero-add}
use Rattle.std.specs.List.{find, list_all, range_with_len}
use Rattle.std.specs.Option.{option_map}
use Rattle.std.proofs.Math.Nat.{sub-zero}
use Rattle.std.proofs.lemmas.Bool.{and_parts, eqb-true}
use Rattle.field_defs.specs.declared.field.FieldKind.TheVariants.{Mask}
use Rattle.field_defs.specs.declared.field.FieldDef.{FieldDef}
use Rattle.field_defs.specs.declared.lawful.LayoutFault.TheVariants.{BadSize, FirstNotOneByte}
use Rattle.field_defs.specs.FieldBounds.{is_size}
use Rattle.field_defs.specs.Faults.{fault_unless, first_of, failing_number}
use Rattle.field_defs.specs.Layout.{key_len_of}
use Rattle.field_defs.proofs.Sizes.{size_at_most_8}
use Rattle.std.proofs.lemmas.List.{get_or_default}
use Rattle.std.proofs.lemmas.List.Sums.{sum_by-cons, list_all-from_AllPass}
use Rattle.field_defs.specs.Laws.{LawfulLayoutsHaveLawfulSizes, LawfulLayoutsHaveShortKeys}
use Rattle.field_defs.specs.LayoutFault.{layout_fault, layout_faults, is_sized}
use Rattle.list_lemmas.proofs.Options.{no_number}
use Rattle.list_lemmas.proofs.First.{passes_from}

-- where there is no first fault, no fault is there
pub none_at : {F : Type 0} (options : List (Option F)) (i : ℕ) → first_of options ≡ None → get_or options i None ≡ None
none_at [] i h = refl
none_at (None ∷ options) zero h = refl
none_at (None ∷ options) (suc i) h = none_at options i h
none_at (Some fault ∷ options) i h = absurd (cc)

-- without a fault the test holds
pub passes_test : {F : Type 0} (test : Bool) (fault : F) → fault_unless test fault ≡ None → test ≡ true
passes_test true fault h = refl
passes_test false fault h = absurd (cc)

-- the least number from a number on that fails
unfoldable pub failing_from : (ℕ → Bool) → ℕ → ℕ → Option ℕ
failing_from holds number count = find (λ n. not (holds n)) (range_with_len number (count - number))

-- from the first number on it is the least of all
pub from_start : (holds : ℕ → Bool) (count : ℕ) → failing_number holds count ≡ failing_from holds 0 count
unfolding failing_number failing_from
from_start holds count = rw (sub-zero count) refl

-- a number that passes isn't it
pub from_more : (holds : ℕ → Bool) (number count : ℕ) → number < count → holds number ≡ true →
    failing_from holds number count ≡ failing_from holds (number + 1) count
unfolding failing_from
from_more holds number count below passes =
    let left : count - number ≡ suc (count - (number + 1)) = omega arith in
    rw (left, passes) refl

-- and one that fails is
pub from_here : (holds : ℕ → Bool) (number count : ℕ) → number < count → holds number ≡ false →
    failing_from holds number count ≡ Some number
unfolding failing_from
from_here holds number count below fails =
    let left : count - number ≡ suc (count - (number + 1)) = omega arith in
    rw (left, fails) refl

-- after the last number there is none
pub from_end : (holds : ℕ → Bool) (number count : ℕ) → count ≤ number → failing_from holds number count ≡ None
unfolding failing_from
from_end holds number count after =
    let left : count - number ≡ 0 = omega arith in
    rw left refl

-- without a failing number each number below the count passes
pub passes_each : (holds : ℕ → Bool) (count number : ℕ) → failing_number holds count ≡ None → number < count →
    holds number ≡ true
unfolding failing_number
passes_each holds count number none below = rw (zero-add number) at (passes_from holds 0 count number none below)

-- the fields of a lawful layout have lawful sizes
pub lawful_sizes : LawfulLayoutsHaveLawfulSizes
unfolding layout_fault
lawful_sizes defs lawful =
    let sizes : option_map BadSize (failing_number (is_sized defs) (length defs)) ≡ None =
    none_at (layout_faults defs) 2 lawful.faultless in
    let first : FieldDef = record { kind = Mask; size = 1; field_index = 0; input_index = 0; offset = 0 } in
    list_all-from_AllPass (λ (def : FieldDef). is_size def.size) defs
    (λ place d below. ap (λ (def : FieldDef). is_size def.size) (get_or_default defs place d first below)
    ∙ passes_each (is_sized defs) (length defs) place (no_number BadSize _ sizes) below)

-- fields of lawful sizes have at most eight bytes each
sum_of_sizes : (defs : List FieldDef) → list_all (λ (def : FieldDef). is_size def.size) defs ≡ true
    → key_len_of defs ≤ 8 * length defs
sum_of_sizes [] sizes = omega arith
sum_of_sizes (def ∷ defs) sizes =
    let parts = and_parts (is_size def.size) (list_all (λ (d : FieldDef). is_size d.size) defs) sizes in
    let whole = sum_by-cons (λ (d : FieldDef). d.size) def defs in
    omega (arith, whole, size_at_most_8 def.size parts.0, sum_of_sizes defs parts.1)

-- a layout has a first field
pub some_first : (defs : List FieldDef) → layout_fault defs ≡ None → 0 < length defs
unfolding layout_fault
some_first [] none = absurd (cc)
some_first (def ∷ defs) none = omega arith

-- which has one byte
pub first_size : (def : FieldDef) (defs : List FieldDef) → layout_fault (def ∷ defs) ≡ None → def.size ≡ 1
unfolding layout_fault
first_size def defs none =
    let first : fault_unless (def.size == 1) FirstNotOneByte ≡ None = none_at (layout_faults (def ∷ defs)) 3 none in
    eqb-true def.size 1 (passes_test (def.size == 1) FirstNotOneByte first)

-- a key of a lawful layout has at least one byte and at most 505
pub short_keys : LawfulLayoutsHaveShortKeys
short_keys [] lawful = absurd (omega (arith, some_first [] lawful.faultless))
short_keys (def ∷ defs) lawful =
    let sizes = and_parts (is_size def.size) (list_all (λ (d : FieldDef). is_size d.size) defs)
    (lawful_sizes (def ∷ defs) lawful) in
    let whole = sum_by-cons (λ (d : FieldDef). d.size) def defs in
    let first = first_size def defs lawful.faultless in
    let others = sum_of_sizes defs sizes.1 in
    (omega (arith, whole, first), omega (arith, whole, first, others, lawful.few))

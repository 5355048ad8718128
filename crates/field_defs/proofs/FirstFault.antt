-- What the first fault of definitions is after checks that they pass.
use Rattle.std.proofs.Common.{◌≡◌, ℕ, ◌==◌, ◌-◌, List, [], ◌∷◌, length, take, drop, get_or, false}
use Rattle.std.proofs.Common.{Option, Some, None, refl}
use Rattle.std.specs.Option.{option_map}
use Rattle.std.proofs.lemmas.List.{take_rest}
use Rattle.field_defs.specs.declared.field.FieldDef.{FieldDef}
use Rattle.field_defs.specs.Faults.{first_of, failing_number}
use Rattle.field_defs.specs.LayoutFault.{layout_fault, layout_faults, is_indexed, is_sized}
use Rattle.field_defs.specs.LayoutFault.{is_filled_group, group_numbers}

-- where no number fails, the first fault is that of the rest
pub none_here : {F : Type 0} (make : ℕ → F) (found : Option ℕ) (rest : List (Option F)) → found ≡ None →
    first_of (option_map make found ∷ rest) ≡ first_of rest
none_here make found rest none = rw none refl

-- and else the fault of the number
pub some_here : {F : Type 0} (make : ℕ → F) (found : Option ℕ) (number : ℕ) (rest : List (Option F)) →
    found ≡ Some number → first_of (option_map make found ∷ rest) ≡ Some (make number)
some_here make found number rest some = rw some refl

-- definitions of lawful places and sizes have no fault but the later ones
pub past_sizes : (defs : List FieldDef) → (length defs == 0) ≡ false →
    failing_number (is_indexed defs) (length defs) ≡ None → failing_number (is_sized defs) (length defs) ≡ None →
    layout_fault defs ≡ first_of (drop 3 (layout_faults defs))
unfolding layout_fault
past_sizes defs there indexed sized = rw (there, indexed, sized) refl

-- so it is where the first of them has one byte
pub past_first : (defs : List FieldDef) (unused : FieldDef) → (length defs == 0) ≡ false →
    (get_or defs 0 unused).size ≡ 1 →
    first_of (drop 3 (layout_faults defs)) ≡ first_of (drop 4 (layout_faults defs))
past_first [] unused there one = absurd (cc)
past_first (def ∷ defs) unused there one = rw one refl

-- the groups of those after the first
pub groups_later : (defs : List FieldDef) →
    failing_number (is_filled_group (take (length defs - 1) (drop 1 defs))) group_numbers
    ≡ failing_number (is_filled_group (drop 1 defs)) group_numbers
groups_later defs = rw (take_rest defs 1) refl

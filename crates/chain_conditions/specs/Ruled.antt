-- A list with conditions as rules: a sure entry takes part in every category, and another only in
-- those of its answer. Priorities fall.
use Rattle.std.specs.Prelude.{ℕ, pos, ◌-◌, List, [], ◌∷◌, ◌++◌, map, if◌then◌else◌}
use Rattle.field_defs.specs.declared.field.FieldDef.{FieldDef}
use Rattle.field_defs.specs.declared.field.FieldValue.{FieldValue}
use Rattle.rule_set.specs.Rule.{RuleView}
use Rattle.list_chains.specs.declared.span.Span.{Span}
use Rattle.list_chains.specs.Flat.{Entry}
use Rattle.list_chains.specs.Ranked.{every_category}
use Rattle.list_chains.specs.Values.{box_rows}
use Rattle.chain_conditions.specs.Conditions.{Conditional, is_sure}

-- the categories of an entry, by those of its answer if conditions are left
abbrev pub mask_of : {B : Type 0} → (ℕ → ℕ) → Entry (Conditional B) → ℕ
mask_of masks entry = if is_sure entry then every_category else masks entry.userdata

-- the rule of an entry
abbrev pub masked_rule : (ℕ → ℕ) → ℕ → Entry (Conditional (List FieldValue)) → RuleView
masked_rule masks priority entry = record {
  tag = record {
    category_mask = mask_of masks entry;
    priority = pos priority;
    userdata = entry.userdata;
  };
  fields = entry.box.box;
}

-- the first rule has the priority, and each other one less than the rule before it
abbrev pub masked : (ℕ → ℕ) → ℕ → List (Entry (Conditional (List FieldValue))) → List RuleView
masked masks priority [] = []
masked masks priority (entry ∷ entries) =
    masked_rule masks priority entry ∷ masked masks (priority - 1) entries

-- rows under an entry's conditions, with its answer
abbrev pub under_rows : {B : Type 0} → Entry (Conditional B) → List (List FieldValue) →
    List (Entry (Conditional (List FieldValue)))
under_rows entry rows =
    map (λ values. record {
      box = record { box = values; conditions = entry.box.conditions };
      userdata = entry.userdata;
    }) rows

-- the rows of each box of a list
abbrev pub conditional_rows : List FieldDef → List (Entry (Conditional (List Span))) →
    List (Entry (Conditional (List FieldValue)))
conditional_rows layout [] = []
conditional_rows layout (entry ∷ entries) =
    under_rows entry (box_rows layout entry.box.box) ++ conditional_rows layout entries

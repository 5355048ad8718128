-- A list of which the first match decides, as rules of falling priority.
use Rattle.std.specs.Prelude.{ℕ, pos, ◌-◌, List, [], ◌∷◌, ◌++◌, map}
use Rattle.field_defs.specs.declared.field.FieldDef.{FieldDef}
use Rattle.field_defs.specs.declared.field.FieldValue.{FieldValue}
use Rattle.rule_set.specs.Rule.{RuleView}
use Rattle.list_chains.specs.declared.span.Span.{Span}
use Rattle.list_chains.specs.Flat.{Entry}
use Rattle.list_chains.specs.Values.{box_rows}

-- the mask of all sixteen categories
abbrev pub every_category : ℕ
every_category = 0xFFFF

-- a rule of all categories
abbrev pub rule_of : ℕ → ℕ → List FieldValue → RuleView
rule_of priority userdata values = record {
  tag = record { category_mask = every_category; priority = pos priority; userdata = userdata };
  fields = values;
}

-- the first rule has the priority, and each other one less than the rule before it
abbrev pub ranked : ℕ → List (Entry (List FieldValue)) → List RuleView
ranked priority [] = []
ranked priority (entry ∷ entries) =
    rule_of priority entry.userdata entry.box ∷ ranked (priority - 1) entries

-- each of some rows with an answer
abbrev pub answered : ℕ → List (List FieldValue) → List (Entry (List FieldValue))
answered userdata rows = map (λ values. record { box = values; userdata = userdata }) rows

-- the rows of each box of a list, with the box's answer
abbrev pub expanded : List FieldDef → List (Entry (List Span)) → List (Entry (List FieldValue))
expanded layout [] = []
expanded layout (entry ∷ entries) =
    answered entry.userdata (box_rows layout entry.box) ++ expanded layout entries

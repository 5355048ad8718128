-- Boxes with a mark before their spans. What two of them have in common has the mark of the
-- conditions of both, so the steps for boxes without conditions serve.
use Rattle.std.specs.Prelude.{ℕ, List, [], ◌∷◌, map, Bool, false, if◌then◌else◌, nat_lt}
use Rattle.field_defs.specs.declared.field.FieldDef.{FieldDef}
use Rattle.field_defs.specs.declared.field.FieldKind.TheVariants.{Range}
use Rattle.list_chains.specs.declared.span.Span.{Span}
use Rattle.list_chains.specs.Chains.{ListRule}
use Rattle.list_chains.specs.Flat.{Entry}
use Rattle.list_chains.specs.Tasks.{Chains}
use Rattle.chain_conditions.specs.Conditions.{Conditional}
use Rattle.chain_conditions.specs.Laws.{ConditionalChains}

-- the mark of some conditions: all numbers of a byte if there are none, and else one
abbrev pub mark_of : List ℕ → Span
mark_of [] = record { low = 0; high = 255 }
mark_of (x ∷ xs) = record { low = 0; high = 0 }

-- the field of marks
abbrev pub mark_def : FieldDef
mark_def = record { kind = Range; size = 1; field_index = 0; input_index = 0; offset = 0 }

-- a box with its mark
abbrev pub marked : Conditional (List Span) → List Span
marked it = mark_of it.conditions ∷ it.box

-- a rule over other boxes
abbrev pub over_boxes : {B C : Type 0} → (B → C) → ListRule B → ListRule C
over_boxes f rule = record {
  userdata = rule.userdata;
  inside = f rule.inside;
  but = map f rule.but;
  target = rule.target;
}

-- an entry over another box
abbrev pub over_box : {B C : Type 0} → (B → C) → Entry B → Entry C
over_box f entry = record { box = f entry.box; userdata = entry.userdata }

-- a rule over boxes with marks
abbrev pub marked_rule : ListRule (Conditional (List Span)) → ListRule (List Span)
marked_rule rule = over_boxes marked rule

-- chains over boxes with marks
abbrev pub marked_chains : ConditionalChains (List Span) → Chains
marked_chains chains = map (map marked_rule) chains

-- nothing is asked for a box, by its mark
abbrev pub is_sure_box : List Span → Bool
is_sure_box [] = false
is_sure_box (mark ∷ spans) = nat_lt 0 mark.high

-- the spans after the mark
abbrev pub unmarked_spans : List Span → List Span
unmarked_spans [] = []
unmarked_spans (mark ∷ spans) = spans

-- a box by its mark: under some condition, or under none
abbrev pub unmarked : List Span → Conditional (List Span)
unmarked box = record {
  box = unmarked_spans box;
  conditions = if is_sure_box box then [] else 0 ∷ [];
}

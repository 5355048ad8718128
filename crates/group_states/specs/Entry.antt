-- How a state is kept: for each of its rules one number, which holds the rule's place in the set
-- and the edge of its rest. Before the first byte of a field the rule's value says the rest, so the
-- edge kept there is the one after a whole field.
use Rattle.std.specs.Prelude.{ℕ, ◌+◌, ◌-◌, ◌*◌, ◌/◌, ◌%◌, ◌<◌, ◌==◌, List, [], ◌∷◌, length, map}
use Rattle.std.specs.Prelude.{slice_index_or, nat_lt, Bool, IsTrue, Option}
use Rattle.std.specs.Prelude.{if◌then◌else◌}
use Rattle.std.specs.List.{filter_map}
use Rattle.std.specs.Option.{option_map, unwrap_or}
use Rattle.field_defs.specs.declared.field.FieldDef.{FieldDef}
use Rattle.field_defs.specs.declared.field.FieldValue.{FieldValue}
use Rattle.field_defs.specs.declared.field.FieldValue.TheVariants.{Mask}
use Rattle.field_defs.specs.FieldBounds.{CanMatch, is_range_filled}
use Rattle.rule_set.specs.Rule.{RuleSetView}
use Rattle.node_expand.specs.declared.edge.Edge.{Edge}
use Rattle.node_expand.specs.declared.edge.Edge.TheVariants.{Free, Low, High, Both}
use Rattle.node_expand.specs.Edges.{edge_after, edge_step, is_cut}
use Rattle.node_expand.specs.Edges.{StandsBefore}

-- how many edges there are
abbrev pub edge_count : ℕ
edge_count = 4

-- an edge as a number below that
abbrev pub edge_code : Edge → ℕ
edge_code Free = 0
edge_code Low = 1
edge_code High = 2
edge_code Both = 3

-- the edge of a number
abbrev pub edge_coded : ℕ → Edge
edge_coded code = if code == 0 then Free else
    (if code == 1 then Low else (if code == 2 then High else Both))

-- the rule's place in the set and the edge as one number
abbrev pub entry_of : ℕ → Edge → ℕ
entry_of number edge = number * edge_count + edge_code edge

-- the rule's place in the set
abbrev pub number_in : ℕ → ℕ
number_in entry = entry / edge_count

-- the edge
abbrev pub edge_in : ℕ → Edge
edge_in entry = edge_coded (entry % edge_count)

-- What a place of the key has of each rule: its value for the field that has the place, the size of
-- the field, and the place in the field.
pub record ColumnView : Type 0 where
  pub values : List FieldValue
  pub size : ℕ
  pub place : ℕ

-- the value of an entry's rule
abbrev pub value_in : ColumnView → ℕ → FieldValue
value_in column entry = slice_index_or column.values (number_in entry) (Mask 0 0)

-- the edge of an entry before the place
abbrev pub edge_before : ColumnView → ℕ → Edge
edge_before column entry =
    if column.place == 0 then unwrap_or (edge_after (value_in column entry) column.size 0 0) Free
    else edge_in entry

-- the entry after a byte at the place, or none
unfoldable pub entry_step : ColumnView → ℕ → ℕ → Option ℕ
entry_step column entry byte =
    option_map (entry_of (number_in entry))
    (edge_step (value_in column entry) column.size column.place (edge_before column entry) byte)

-- the entries after a byte at the place
unfoldable pub entries_step : ColumnView → List ℕ → ℕ → List ℕ
entries_step column entries byte = filter_map (λ entry. entry_step column entry byte) entries

-- the byte is a cut of the entry
unfoldable pub is_entry_cut : ColumnView → ℕ → ℕ → Bool
is_entry_cut column entry byte =
    is_cut (value_in column entry) column.size column.place (edge_before column entry) byte

-- The entry can be asked about bytes at the place.
pub record CanStep (column : ColumnView) (entry : ℕ) : Type 0 where
  pub number : number_in entry < length column.values
  pub place : column.place < column.size
  pub value : CanMatch (value_in column entry) column.size
  pub filled : IsTrue (is_range_filled (value_in column entry))
  pub stands : StandsBefore (value_in column entry) column.size column.place
      (edge_before column entry)

-- Where the place of a key lies: the number of its field, the size of the field, and the place in
-- the field.
pub record FieldPlace : Type 0 where
  pub field : ℕ
  pub size : ℕ
  pub place : ℕ

-- the field of a place of the key
abbrev pub field_at : List FieldDef → ℕ → FieldPlace
field_at [] place = record { field = 0; size = 0; place = place }
field_at (def ∷ defs) place =
    if nat_lt place def.size
    then record { field = 0; size = def.size; place = place }
    else (let after = field_at defs (place - def.size) in
    record after { field = after.field + 1 })

-- what the place of a key has of each rule of a set
unfoldable pub column_at : RuleSetView → ℕ → ColumnView
column_at set place =
    let at = field_at set.layout place in
    record {
      values = map (λ rule. slice_index_or rule.fields at.field (Mask 0 0)) set.rules;
      size =
          at.size;
      place = at.place;
    }

-- What is asked of an entry about the bytes at a place.
use Rattle.std.specs.Prelude.{◌≡◌, ℕ, ◌+◌, ◌^◌, ◌<◌, ◌≤◌, true}
use Rattle.std.specs.Prelude.{nat_lt, Bool, not, ◌||◌, ◌&&◌}
use Rattle.field_defs.specs.declared.field.FieldValue.{FieldValue}
use Rattle.field_defs.specs.FieldBounds.{is_wild}
use Rattle.node_expand.specs.Allowed.{answer_of, IsFilled}
use Rattle.node_expand.specs.Edges.{edge_step, is_bitmask}
use Rattle.group_states.specs.Entry.{number_in, ColumnView, value_in, edge_before}
use Rattle.group_states.specs.Entry.{entry_step, is_entry_cut}
use Rattle.trie_merge.specs.declared.column.Asked.{Asked}

-- a rest of the value of which no end is inner stays so after each byte at the place: the value is
-- wild, or it is no bitmask, and some bytes of the field are read
abbrev pub stays_free : ℕ → ℕ → FieldValue → Bool
stays_free size place value = is_wild value size || (nat_lt 0 place && not (is_bitmask value))

-- What is asked about bytes at the place is the entry: the bytes that are allowed answer as its
-- rule's value does.
pub record IsAsked (column : ColumnView) (entry : ℕ) (asked : Asked) : Type 0 where
  pub number : asked.number ≡ number_in entry
  pub few : asked.number < 2 ^ 30
  pub filled : IsFilled asked.allowed
  pub answers : (byte : ℕ) → byte < 256 →
      answer_of asked.allowed byte
      ≡ edge_step (value_in column entry) column.size column.place (edge_before column entry) byte

-- The bytes from the one to the other make the same of the entry, and the byte after them is a cut.
pub record StepsAlike (column : ColumnView) (entry first last : ℕ) : Type 0 where
  pub ordered : first ≤ last
  pub alike : (byte : ℕ) → first ≤ byte → byte ≤ last →
      entry_step column entry byte ≡ entry_step column entry first
  pub cut : last < 255 → is_entry_cut column entry (last + 1) ≡ true

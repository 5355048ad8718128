-- Batches of keys: the keys stand one after the other, and so do the verdicts of each.
use Rattle.std.specs.Prelude.{◌≡◌, ℕ, ◌+◌, ◌*◌, ◌/◌, ◌≤◌, List, map, take, drop, length, fold}
use Rattle.std.specs.Prelude.{flat_map}
use Rattle.std.specs.List.{range_with_len}
use Rattle.table_sizes.specs.Sizes.{max_keys}
use Rattle.flat_table.specs.Table.{TableView}
use Rattle.flat_table.specs.Walk.{table_verdict, key_transitions, most_of_key}

-- how many keys of a length the bytes are
abbrev pub keys_of_len : ℕ → List ℕ → ℕ
keys_of_len key_len keys = length keys / key_len

-- key k of the keys of a length
abbrev pub key_of_len : ℕ → List ℕ → ℕ → List ℕ
key_of_len key_len keys k = take key_len (drop (k * key_len) keys)

-- The bytes are whole keys of a length, not too many, and there is room for so many verdicts of
-- each.
pub record KeysFit (key_len : ℕ) (keys : List ℕ) (count room : ℕ) : Type 0 where
  pub whole : length keys ≡ keys_of_len key_len keys * key_len
  pub few : keys_of_len key_len keys ≤ max_keys
  pub room_fits : room ≡ keys_of_len key_len keys * count

-- how many keys of a table the bytes are
abbrev pub keys_in : TableView → List ℕ → ℕ
keys_in table keys = keys_of_len table.key_len keys

-- key k of the keys of a table
abbrev pub key_at : TableView → List ℕ → ℕ → List ℕ
key_at table keys k = key_of_len table.key_len keys k

-- the bytes and the room are so for the keys of a table
abbrev pub LengthsFit : TableView → List ℕ → ℕ → ℕ → Type 0
LengthsFit table keys count room = KeysFit table.key_len keys count room

-- the verdicts of a key in the categories from 0 on
abbrev pub key_verdicts : TableView → ℕ → List ℕ → List ℕ
key_verdicts table count key = map (λ category. table_verdict table key category)
    (range_with_len 0 count)

-- the verdicts of the first n keys
abbrev pub first_verdicts : TableView → ℕ → List ℕ → ℕ → List ℕ
first_verdicts table count keys n = flat_map (λ k. key_verdicts table count (key_at table keys k))
    (range_with_len 0 n)

-- the verdicts of all keys
abbrev pub batch_verdicts : TableView → ℕ → List ℕ → List ℕ
batch_verdicts table count keys = first_verdicts table count keys (keys_in table keys)

-- how many transitions the walks of the first n keys take
abbrev pub first_transitions : TableView → List ℕ → ℕ → ℕ
first_transitions table keys n = fold
    (λ total k. total + key_transitions table (key_at table keys k)) 0 (range_with_len 0 n)

-- how many transitions the walks of all keys take
abbrev pub batch_transitions : TableView → List ℕ → ℕ
batch_transitions table keys = first_transitions table keys (keys_in table keys)

-- how many transitions all keys take at most
abbrev pub most_of_batch : TableView → List ℕ → ℕ
most_of_batch table keys = keys_in table keys * most_of_key table

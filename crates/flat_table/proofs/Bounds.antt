-- A key takes at most one transition for each trie and byte.
use Rattle.std.proofs.Common.{◌≡◌, ℕ, ◌+◌, ◌*◌, ◌≤◌, List, ap, arith, length, fold}
use Rattle.std.specs.Prelude.{slice_index_or, All}
use Rattle.std.specs.List.{range_with_len}
use Rattle.std.proofs.lemmas.List.Sums.{sum_by_from, sum_by-le}
use Rattle.std.proofs.lemmas.List.FromFn.{length-range_with_len}
use Rattle.flat_table.specs.Table.{TableView}
use Rattle.flat_table.specs.Walk.{key_transitions, most_of_key, tries_of, walk_transitions}
use Rattle.flat_table.specs.Batch.{batch_transitions, key_at, keys_in, most_of_batch}
use Rattle.flat_table.proofs.Lanes.{places_bound}
use Rattle.flat_table.proofs.Transitions.{transitions_bound}

-- the walks of a key take at most one word for each trie and byte
pub key_bound : (table : TableView) (key : List ℕ) → key_transitions table key ≤ most_of_key table
key_bound table key =
    let each : All (λ trie. walk_transitions table trie key ≤ table.key_len) (tries_of table) =
    λ k d below. omega (
      arith,
      places_bound table (slice_index_or (tries_of table) k d),
      transitions_bound table (slice_index_or (tries_of table) k d) key,
    ) in
    omega (
      arith,
      sum_by_from (λ trie. walk_transitions table trie key) 0 (tries_of table),
      sum_by-le (λ trie. walk_transitions table trie key) table.key_len (tries_of table) each,
      ap (λ (n : ℕ). n * table.key_len) (length-range_with_len 0 (length table.roots)),
    )

-- and those of all keys of a batch
pub batch_bound : (table : TableView) (keys : List ℕ) → batch_transitions table keys ≤ most_of_batch table keys
batch_bound table keys =
    let numbers : List ℕ = range_with_len 0 (keys_in table keys) in
    let each : All (λ k. key_transitions table (key_at table keys k) ≤ most_of_key table) numbers =
    λ k d below. key_bound table (key_at table keys (slice_index_or numbers k d)) in
    omega (
      arith,
      sum_by_from (λ k. key_transitions table (key_at table keys k)) 0 numbers,
      sum_by-le (λ k. key_transitions table (key_at table keys k)) (most_of_key table) numbers each,
      ap (λ (n : ℕ). n * most_of_key table) (length-range_with_len 0 (keys_in table keys)),
    )

-- Jobs: the walk of each key of a batch through each trie of a table.
use Rattle.std.specs.Prelude.{ℕ, ◌*◌, ◌/◌, ◌%◌, List, length, map, flat_map}
use Rattle.std.specs.List.{range_with_len}
use Rattle.flat_table.specs.Table.{TableView}
use Rattle.flat_table.specs.Walk.{tries_of}
use Rattle.flat_table.specs.Batch.{keys_in}

-- the walk of one key through one trie, by their numbers
pub record Job : Type 0 where
  pub key : ℕ
  pub trie : ℕ

-- the jobs of one key, trie by trie
abbrev pub jobs_of_key : TableView → ℕ → List Job
jobs_of_key table key = map (λ trie. record { key = key; trie = trie }) (tries_of table)

-- the jobs of all keys, key by key
abbrev pub jobs_of : TableView → List ℕ → List Job
jobs_of table keys = flat_map (jobs_of_key table) (range_with_len 0 (keys_in table keys))

-- how many jobs there are
abbrev pub job_count : TableView → List ℕ → ℕ
job_count table keys = keys_in table keys * length table.roots

-- the job of this number, which counts from 0
abbrev pub job_at : TableView → ℕ → Job
job_at table number =
    record { key = number / length table.roots; trie = number % length table.roots }

-- What rows that were reached say of a category.
use Rattle.std.specs.Prelude.{◌≡◌, ℕ, ◌+◌, ◌<◌, ◌%◌, ◌^◌, List, [], map, length, slice_index, flat_map}
use Rattle.std.specs.Prelude.{slice_index_or, Bool, false, true, not, ◌==◌, if◌then◌else◌}
use Rattle.std.specs.List.{range_with_len}
use Rattle.flat_table.specs.Table.{TableView}
use Rattle.table_sizes.specs.Sizes.{max_tries, row_len}
use Rattle.flat_table.specs.Word.{is_match, is_node, next_place}
use Rattle.flat_table.specs.Walk.{greatest, joined, userdatas, walk_row, moved, walk_transitions}
use Rattle.flat_table.specs.Walk.{key_transitions}
use Rattle.flat_table.specs.Batch.{key_at, key_verdicts, keys_in}
use Rattle.scalar_walk.specs.Lanes.{sum_below, pieces_below}

-- the greatest word of the category over the rows of these numbers
abbrev pub joined_rows : List (List ℕ) → List ℕ → ℕ → ℕ
joined_rows rows reached category = greatest (map
    (λ row. slice_index (slice_index_or rows row []) category) reached)

-- the userdata of the row of this number in the categories from 0 on
abbrev pub row_verdicts : List (List ℕ) → ℕ → ℕ → List ℕ
row_verdicts rows count row = map (λ category. slice_index (slice_index_or rows row []) category %
    userdatas) (range_with_len 0 count)

-- whether that row's word is one of a rule, in the categories from 0 on
abbrev pub row_winners : List (List ℕ) → ℕ → ℕ → List Bool
row_winners rows count row = map (λ category.
    not (slice_index (slice_index_or rows row []) category == 0)) (range_with_len 0 count)

-- the first numbers of the list are the rows that the walks through the first tries reach, and
-- these rows are there
pub record Reaches (table : TableView) (key : List ℕ) (n : ℕ) (rows : List ℕ) : Type 0 where
  pub len : length rows ≡ max_tries
  pub each : (k : ℕ) → k < n → slice_index rows k ≡ walk_row table k key
  pub there : (k : ℕ) → k < n → slice_index rows k < length table.rows

-- for each category whether some rule wins the key in it
unfoldable pub winners_of : TableView → List ℕ → List Bool
winners_of table key = map (λ category. not (joined table key category == 0))
    (range_with_len 0 row_len)

-- whether some rule wins the key, in the categories from 0 on
abbrev pub key_winners : TableView → ℕ → List ℕ → List Bool
key_winners table count key = map (λ category. not (joined table key category == 0))
    (range_with_len 0 count)

-- those of the first n keys
abbrev pub first_winners : TableView → ℕ → List ℕ → ℕ → List Bool
first_winners table count keys n = flat_map (λ k. key_winners table count (key_at table keys k))
    (range_with_len 0 n)

-- those of all keys
abbrev pub batch_winners : TableView → ℕ → List ℕ → List Bool
batch_winners table count keys = first_winners table count keys (keys_in table keys)

-- the walk of the key through the trie ends at the row, which is there
pub record EndsAt (table : TableView) (trie : ℕ) (key : List ℕ) (row : ℕ) : Type 0 where
  pub is : row ≡ walk_row table trie key
  pub there : row < length table.rows

-- A walk that stands at the word can go on by the byte: a word that is no match leads to a node,
-- whose word for the byte is there, and the walk took few words so far. A match may read word 0.
pub record CanGoOn (words : List ℕ) (word byte taken : ℕ) : Type 0 where
  pub some : 0 < length words
  pub node : is_match word ≡ false → is_node word ≡ true
  pub in_words : is_match word ≡ false → next_place word byte < length words
  pub few : taken < 2 ^ 31

-- A walk that stands at the word goes on by the byte. The next word is the one that stands then,
-- and the count of words that it took is raised by one, unless the word is a match.
pub record GoesOn (words : List ℕ) (word byte next taken new_taken : ℕ) : Type 0 where
  pub word_is : next ≡ moved words word byte
  pub taken_is : new_taken ≡ taken + (if is_match word then 0 else 1)

-- Where a walk that stands at the word reads its next one by the byte. At a match it reads word 0.
pub record ReadsAt (word byte at : ℕ) : Type 0 where
  pub node : is_node word ≡ true → at ≡ next_place word byte
  pub over : is_match word ≡ true → at ≡ 0

-- A walk that stands at the word can take the word at a place: it is there, the walk's word is a
-- match or leads to a node, and the walk took few words so far.
pub record CanTake (words : List ℕ) (word at taken : ℕ) : Type 0 where
  pub node : is_match word ≡ false → is_node word ≡ true
  pub there : at < length words
  pub few : taken < 2 ^ 31

-- A walk that stands at the word takes that at the place, and one more is counted. At a match it
-- stays.
pub record Takes (words : List ℕ) (word at next taken new_taken : ℕ) : Type 0 where
  pub word_is : next ≡ (if is_match word then word else slice_index words at)
  pub taken_is : new_taken ≡ taken + (if is_match word then 0 else 1)

-- ---- the first n keys of some, one after the other

-- how many transitions their walks through the trie take
abbrev pub walks_below : TableView → ℕ → List ℕ → ℕ → ℕ
walks_below table trie keys n = sum_below (λ k. walk_transitions table trie (key_at table keys k)) n

-- how many their walks through all tries take
abbrev pub transitions_below : TableView → List ℕ → ℕ → ℕ
transitions_below table keys n = sum_below (λ k. key_transitions table (key_at table keys k)) n

-- their verdicts, so many of each
abbrev pub verdicts_below : TableView → ℕ → List ℕ → ℕ → List ℕ
verdicts_below table count keys n =
    pieces_below (λ k. key_verdicts table count (key_at table keys k)) n

-- in which of so many categories some rule wins each
abbrev pub winners_below : TableView → ℕ → List ℕ → ℕ → List Bool
winners_below table count keys n =
    pieces_below (λ k. key_winners table count (key_at table keys k)) n

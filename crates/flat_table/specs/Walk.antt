-- The walk of a key through a trie, and the verdicts of a table.
use Rattle.std.specs.Prelude.{ℕ, ◌*◌, ◌+◌, ◌%◌, ◌^◌, max, List, [], ◌∷◌, map, take, length, fold}
use Rattle.std.specs.Prelude.{slice_index, slice_index_or, if◌then◌else◌}
use Rattle.std.specs.List.{range_with_len}
use Rattle.flat_table.specs.Word.{index_of, is_match, next_word}
use Rattle.flat_table.specs.Table.{TableView, places_of}

-- the transitions of a walk from a word on by these bytes: the word that each leads to, until a
-- match
abbrev pub transitions : List ℕ → ℕ → List ℕ → List ℕ
transitions words word [] = []
transitions words word (byte ∷ bytes) =
    if is_match word then [] else next_word words word byte ∷ transitions words
    (next_word words word byte) bytes

-- the word that stands after one more byte: a match stays
abbrev pub moved : List ℕ → ℕ → ℕ → ℕ
moved words word byte = if is_match word then word else next_word words word byte

-- the last of some transitions, or else the word from which they went
abbrev pub last_word : ℕ → List ℕ → ℕ
last_word word [] = word
last_word word (next ∷ rest) = last_word next rest

-- the root of the trie
abbrev pub root_of : TableView → ℕ → ℕ
root_of table trie = slice_index table.roots trie

-- the bytes of the key that a walk through the trie reads
abbrev pub bytes_of : TableView → ℕ → List ℕ → List ℕ
bytes_of table trie key = map (λ place. slice_index key place) (places_of table trie)

-- the transitions of the walk of the key through the trie
abbrev pub walk : TableView → ℕ → List ℕ → List ℕ
walk table trie key = transitions table.words (root_of table trie) (bytes_of table trie key)

-- the word that a walk through the trie stands at after so many bytes
abbrev pub word_after : TableView → ℕ → List ℕ → ℕ → ℕ
word_after table trie key n = fold (moved table.words) (root_of table trie)
    (take n (bytes_of table trie key))

-- how many transitions it took for them
abbrev pub transitions_after : TableView → ℕ → List ℕ → ℕ → ℕ
transitions_after table trie key n = length (transitions table.words (root_of table trie)
    (take n (bytes_of table trie key)))

-- how many transitions it takes
abbrev pub walk_transitions : TableView → ℕ → List ℕ → ℕ
walk_transitions table trie key = length (walk table trie key)

-- the row that its last word names
abbrev pub walk_row : TableView → ℕ → List ℕ → ℕ
walk_row table trie key = index_of (last_word (root_of table trie) (walk table trie key))

-- the numbers of the tries
abbrev pub tries_of : TableView → List ℕ
tries_of table = range_with_len 0 (length table.roots)

-- the rows that the walks through all tries reach
abbrev pub reached : TableView → List ℕ → List (List ℕ)
reached table key = map (λ trie. slice_index_or table.rows (walk_row table trie key) [])
    (tries_of table)

-- the greatest of the numbers, or 0 where there is none
abbrev pub greatest : List ℕ → ℕ
greatest numbers = fold max 0 numbers

-- the greatest word of the category over these rows
abbrev pub joined : TableView → List ℕ → ℕ → ℕ
joined table key category = greatest (map (λ row. slice_index row category) (reached table key))

-- how many numbers there are for the userdata of a row word, in its low half
abbrev pub userdatas : ℕ
userdatas = 2 ^ 32

-- the verdict of the table for the key in the category: the userdata of the joined word
abbrev pub table_verdict : TableView → List ℕ → ℕ → ℕ
table_verdict table key category = joined table key category % userdatas

-- how many transitions the walks of the key through all tries take
abbrev pub key_transitions : TableView → List ℕ → ℕ
key_transitions table key = fold (λ total trie. total + walk_transitions table trie key) 0
    (tries_of table)

-- how many transitions a key takes at most: one for each trie and byte
abbrev pub most_of_key : TableView → ℕ
most_of_key table = length table.roots * table.key_len

-- Laws of sound tables and of walks, over the definitions alone.
use Rattle.std.specs.Prelude.{◌≡◌, ℕ, ◌+◌, ◌<◌, ◌≤◌, List, length, true, false, None, slice_index}
use Rattle.std.specs.Prelude.{if◌then◌else◌}
use Rattle.flat_table.specs.Word.{index_of, is_match, next_place}
use Rattle.flat_table.specs.Table.{TableView, level_of, places_of}
use Rattle.flat_table.specs.Sound.{is_shaped, leads_into, is_sound_word, sound_fault}
use Rattle.flat_table.specs.Batch.{batch_transitions, most_of_batch}
use Rattle.flat_table.specs.Walk.{key_transitions, most_of_key}
use Rattle.flat_table.specs.Walk.{root_of, moved, word_after, transitions_after, walk_row, walk_transitions}

-- The parts fit together, each root leads into the first level of its trie, and each word of each
-- level is sound for the next level.
pub record IsEachSound (table : TableView) : Type 0 where
  pub shape : is_shaped table ≡ true
  pub root : (trie : ℕ) → trie < length table.roots →
      leads_into (level_of table trie 0) (root_of table trie) ≡ true
  pub word : (trie depth place : ℕ) → trie < length table.roots →
      depth < length (places_of table trie) → (level_of table trie depth).from ≤ place →
      place < (level_of table trie depth).from + (level_of table trie depth).len →
      is_sound_word (length table.rows) (level_of table trie (depth + 1))
      (slice_index table.words place) ≡ true

-- There is no first fault exactly where every root and every word is sound.
pub record SoundnessIsEach : Type 0 where
  pub each : (table : TableView) → sound_fault table ≡ None → IsEachSound table
  pub sound : (table : TableView) → IsEachSound table → sound_fault table ≡ None

-- there is a word at the place, and it names a row of the table or leads into the level of the trie
-- at the depth
pub record LeadsOn (table : TableView) (trie depth place : ℕ) : Type 0 where
  pub there : place < length table.words
  pub row : is_match (slice_index table.words place) ≡ true →
      index_of (slice_index table.words place) < length table.rows
  pub level : is_match (slice_index table.words place) ≡ false →
      leads_into (level_of table trie depth) (slice_index table.words place) ≡ true

-- Each walk through a sound table stays in it: the root leads into the first level, a word that
-- leads into a level is no match, each word of its node leads on, and after the last level no word
-- leads.
pub record WalksStay : Type 0 where
  pub root : (table : TableView) (trie : ℕ) → sound_fault table ≡ None → trie < length table.roots →
      leads_into (level_of table trie 0) (root_of table trie) ≡ true
  pub node : (table : TableView) (trie depth word : ℕ) →
      leads_into (level_of table trie depth) word ≡ true → is_match word ≡ false
  pub next : (table : TableView) (trie depth word byte : ℕ) → sound_fault table ≡ None →
      trie < length table.roots → byte < 256 →
      leads_into (level_of table trie depth) word ≡ true →
      LeadsOn table trie (depth + 1) (next_place word byte)
  pub last : (table : TableView) (trie depth word : ℕ) → length (places_of table trie) ≤ depth →
      trie < length table.roots → sound_fault table ≡ None →
      leads_into (level_of table trie depth) word ≡ false

-- A walk goes step by step: it ends at the word that stands after all its bytes; one more byte
-- costs a transition where no match stands, and none where one does; and it takes at most one
-- transition for each kept place.
pub record WalksGoStepByStep : Type 0 where
  pub row : (table : TableView) (trie : ℕ) (key : List ℕ) →
      walk_row table trie key ≡ index_of (word_after table trie key (length (places_of table trie)))
  pub transitions : (table : TableView) (trie : ℕ) (key : List ℕ) →
      walk_transitions table trie key
      ≡ transitions_after table trie key (length (places_of table trie))
  pub begin : (table : TableView) (trie : ℕ) (key : List ℕ) →
      (word_after table trie key 0 ≡ root_of table trie) × (transitions_after table trie key 0 ≡ 0)
  pub word_more : (table : TableView) (trie : ℕ) (key : List ℕ) (n place : ℕ) →
      n < length (places_of table trie) → place ≡ slice_index (places_of table trie) n →
      word_after table trie key (n + 1) ≡ moved table.words (word_after table trie key n)
      (slice_index key place)
  pub transition_more : (table : TableView) (trie : ℕ) (key : List ℕ) (n : ℕ) →
      n < length (places_of table trie) →
      transitions_after table trie key (n + 1) ≡ transitions_after table trie key n +
      (if is_match (word_after table trie key n) then 0 else 1)
  pub bound : (table : TableView) (trie : ℕ) (key : List ℕ) →
      walk_transitions table trie key ≤ length (places_of table trie)

-- Whatever the table, a key takes at most one transition for each trie and byte, and so does each
-- key of a batch.
pub record WalksAreBounded : Type 0 where
  pub key : (table : TableView) (key : List ℕ) → key_transitions table key ≤ most_of_key table
  pub batch : (table : TableView) (keys : List ℕ) →
      batch_transitions table keys ≤ most_of_batch table keys

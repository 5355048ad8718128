-- Tables as contracts see them: numbers and lists of numbers.
use Rattle.std.specs.Prelude.{ℕ, ◌+◌, ◌*◌, List, length, [], ◌∷◌, map, take, drop, slice_index_or}
use Rattle.table_sizes.specs.Sizes.{row_len}
use Rattle.table_sizes.specs.Groups.{kept_places}
use Rattle.flat_table.specs.Groups.{depth_of}
use Rattle.flat_table.specs.declared.level.Level.{Level}
use Rattle.flat_table.specs.declared.table_parts.Parts.{Parts}

-- a table
pub record TableView : Type 0 where
  pub key_len : ℕ  -- how many bytes a key has
  pub rules : ℕ  -- how many rules the table was made of
  pub kept : List ℕ  -- for each trie its kept groups
  pub roots : List ℕ  -- for each trie the word that a walk begins with
  pub level_lens : List ℕ  -- for each trie and each of its depths how many words that level has
  pub words : List ℕ  -- the words, trie by trie and level by level
  pub rows : List (List ℕ)  -- for each row a word for each of sixteen categories

-- how many words the table has, those of its rows counted
abbrev pub words_of : TableView → ℕ
words_of table = length table.words + row_len * length table.rows

-- the levels of so many words each, one after the other from a place on
abbrev pub levels_from : ℕ → List ℕ → List Level
levels_from place [] = []
levels_from place (len ∷ lens) = record { from = place; len = len } ∷ levels_from (place + len) lens

-- the list in portions of so many elements each
abbrev pub portions : {A : Type 0} → List ℕ → List A → List (List A)
portions [] xs = []
portions (n ∷ ns) xs = take n xs ∷ portions ns (drop n xs)

-- how many levels each trie has
abbrev pub depths_of : TableView → List ℕ
depths_of table = map (depth_of table.key_len) table.kept

-- the levels of each trie
abbrev pub trie_levels : TableView → List (List Level)
trie_levels table = portions (depths_of table) (levels_from 0 table.level_lens)

-- a level that no node lies in
abbrev pub no_level : Level
no_level = record { from = 0; len = 0 }

-- the level of the trie at the depth
abbrev pub level_of : TableView → ℕ → ℕ → Level
level_of table trie depth = slice_index_or (slice_index_or (trie_levels table) trie []) depth
    no_level

-- the places of a key whose bytes a walk through the trie reads
abbrev pub places_of : TableView → ℕ → List ℕ
places_of table trie = kept_places table.key_len (slice_index_or table.kept trie 0)

-- parts, each vector as its list
abbrev pub view_of : Parts → TableView
view_of parts = record {
  key_len = parts.key_len;
  rules = parts.rules;
  kept = parts.kept.items;
  roots = parts.roots.items;
  level_lens = parts.level_lens.items;
  words = parts.words.items;
  rows = parts.rows.items;
}

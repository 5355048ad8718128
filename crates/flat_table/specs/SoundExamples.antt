-- Examples of sound and unsound parts, each checked by evaluation.
use Rattle.std.specs.Prelude.{◌≡◌, ℕ, [], ◌∷◌, map, replicate, Some, None, ◌++◌, refl}
use Rattle.std.specs.List.{range_with_len}
use Rattle.flat_table.specs.declared.sound.SoundFault.TheVariants.{Shape, Root, Word}
use Rattle.flat_table.specs.Table.{TableView}
use Rattle.flat_table.specs.Sound.{sound_fault}
use Rattle.flat_table.specs.HandmadeTables.{match_of, single_at, row_of, table_of, empty_table}
use Rattle.flat_table.specs.HandmadeTables.{wild_table, source_table, port_table, bit_table}
use Rattle.flat_table.specs.HandmadeTables.{two_tries}

sound_tables : map sound_fault (empty_table ∷ wild_table ∷ source_table ∷ port_table ∷ bit_table ∷
    two_tries ∷ []) ≡ replicate 6 None
unfolding sound_fault
sound_tables = refl

-- each cause of a bad shape by itself
lists_of_tries_differ : sound_fault (record wild_table { roots = [] }) ≡ Some Shape
unfolding sound_fault
lists_of_tries_differ = refl

-- so many wild tries of one word each
abbrev wild_tries : ℕ → TableView
wild_tries n = record wild_table {
  kept = replicate n 1;
  roots =
      map single_at (range_with_len 0 n);
  level_lens = replicate n 1;
  words =
      replicate n (match_of 1);
}

eight_and_nine_tries : map sound_fault (wild_tries 8 ∷ wild_tries 9 ∷ []) ≡ None ∷ Some Shape ∷ []
unfolding sound_fault
eight_and_nine_tries = refl

key_lens : map (λ len. sound_fault (record wild_table { key_len = len }))
    (0 ∷ 1 ∷ 12 ∷ 14 ∷ 505 ∷ 509 ∷ [])
    ≡ Some Shape ∷ None ∷ Some Shape ∷ Some Shape ∷ None ∷ Some Shape ∷ []
unfolding sound_fault
key_lens = refl

kept_groups : map (λ kept. sound_fault (record wild_table { kept = kept ∷ [] }))
    (0 ∷ 1 ∷ 2 ∷ 16 ∷ 17 ∷ [])
    ≡ Some Shape ∷ None ∷ Some Shape ∷ Some Shape ∷ Some Shape ∷ []
unfolding sound_fault
kept_groups = refl

level_missing : sound_fault (table_of 2 (single_at 0) (1 ∷ 1 ∷ 1 ∷ [])
    (single_at 1 ∷ single_at 2 ∷ match_of 1 ∷ [])) ≡ Some Shape
unfolding sound_fault
level_missing = refl

level_short_by_one : sound_fault (record source_table { level_lens = 4 ∷ 1 ∷ 1 ∷ 1 ∷ [] })
    ≡ Some Shape
unfolding sound_fault
level_short_by_one = refl

row_0_missing : sound_fault (record empty_table { rows = [] }) ≡ Some Shape
unfolding sound_fault
row_0_missing = refl

row_0_with_a_word : sound_fault (record wild_table {
  rows =
      (0 ∷ 0 ∷ 1 ∷ replicate 13 0) ∷ row_of 1 ∷ [];
}) ≡ Some Shape
unfolding sound_fault
row_0_with_a_word = refl

-- roots: a match, kind 2, boundaries of a single node, a node that isn't whole, a node of the next
-- level
unsound_roots : map (λ root. sound_fault (record source_table { roots = root ∷ [] }))
    (match_of 1 ∷ 0x40000000 ∷ 0x1_20000000 ∷ 0x60000001 ∷ single_at 5 ∷ single_at 4 ∷ [])
    ≡ Some (Root 0) ∷ Some (Root 0) ∷ Some (Root 0) ∷ Some (Root 0) ∷ Some (Root 0) ∷ None ∷ []
unfolding sound_fault
unsound_roots = refl

-- the root of the second trie in the first trie's level, and the first of two faults
root_of_another_trie : sound_fault (record two_tries { roots = single_at 0 ∷ single_at 0 ∷ [] })
    ≡ Some (Root 1)
unfolding sound_fault
root_of_another_trie = refl

roots_before_words : sound_fault (record two_tries {
  roots = single_at 0 ∷ single_at 9 ∷ [];
  words =
      replicate 9 (match_of 3);
}) ≡ Some (Root 1)
unfolding sound_fault
roots_before_words = refl

-- the word at place 1 of the rule on the source: into its own level, into the next, after the
-- next, to the last row, to a row that isn't there, a match with a boundary
words_of_a_level : map (λ word. sound_fault (record source_table {
  words =
      match_of 0 ∷ word ∷ match_of 0 ∷ match_of 0 ∷ match_of 0 ∷ single_at 6 ∷ single_at
      7 ∷ match_of
      1 ∷ [];
}))
    (single_at 4 ∷ single_at 5 ∷ single_at 6 ∷ match_of 1 ∷ match_of 2 ∷ 0x1_80000001 ∷ [])
    ≡ Some (Word 1) ∷ None ∷ Some (Word 1) ∷ None ∷ Some (Word 1) ∷ Some (Word 1) ∷ []
unfolding sound_fault
words_of_a_level = refl

-- a node that ends exactly at the end of its level, and one that ends a word later
ends_with_its_level : sound_fault (table_of 2 (single_at 0) (1 ∷ 6 ∷ 1 ∷ 1 ∷ [])
    (0x60000002 ∷ replicate 6 (match_of 1) ++ replicate 2 (match_of 0))) ≡ None
unfolding sound_fault
ends_with_its_level = refl

ends_a_word_later : sound_fault (table_of 2 (single_at 0) (1 ∷ 6 ∷ 1 ∷ 1 ∷ [])
    (0x60000003 ∷ replicate 6 (match_of 1) ++ replicate 2 (match_of 0))) ≡ Some (Word 0)
unfolding sound_fault
ends_a_word_later = refl

-- after the last level there is none
last_level_leads_on : sound_fault (record wild_table { words = single_at 0 ∷ [] }) ≡ Some (Word 0)
unfolding sound_fault
last_level_leads_on = refl

-- a level of another trie is no next level
level_of_another_trie : sound_fault (record two_tries {
  words =
      single_at 1 ∷ match_of 0 ∷ single_at 6 ∷ match_of 0 ∷ match_of 0 ∷ match_of 0 ∷ single_at 7 ∷
      single_at 8 ∷ match_of 2 ∷ [];
}) ≡ Some (Word 0)
unfolding sound_fault
level_of_another_trie = refl

-- words that no walk comes to are asked too
unreached_word : sound_fault (record source_table {
  words =
      match_of 0 ∷ single_at 5 ∷ match_of 0 ∷ match_of 0 ∷ match_of 2 ∷ single_at 6 ∷ single_at 7 ∷
      match_of 1 ∷ [];
}) ≡ Some (Word 4)
unfolding sound_fault
unreached_word = refl

-- Which parts make a table that every key can be walked through, and what is wrong with the others.
use Rattle.std.specs.Prelude.{ℕ, ◌+◌, ◌*◌, ◌==◌, nat_lt, nat_le, List, [], ◌∷◌, map, take, drop}
use Rattle.std.specs.Prelude.{length, slice_get, sum, zip, Bool, false, not, ◌&&◌, if◌then◌else◌}
use Rattle.std.specs.Prelude.{Option, Some, None, option_map}
use Rattle.std.specs.List.{list_all, position_from}
use Rattle.std.specs.Option.{option_or, option_map_or}
use Rattle.flat_table.specs.Word.{index_of, is_match, is_node, is_unbounded, node_len}
use Rattle.flat_table.specs.Groups.{is_key_len, is_kept_word}
use Rattle.flat_table.specs.Table.{TableView, words_of, depths_of, trie_levels, no_level}
use Rattle.flat_table.specs.declared.level.Level.{Level}
use Rattle.flat_table.specs.declared.sound.SoundFault.{SoundFault}
use Rattle.flat_table.specs.declared.sound.SoundFault.TheVariants.{Shape, Root, Word}
use Rattle.table_sizes.specs.Sizes.{max_tries, max_words}

-- row 0 is there, and has a 0 for each category
abbrev pub begins_with_zeros : List (List ℕ) → Bool
begins_with_zeros rows =
    option_map_or (λ row. list_all (λ word. word == 0) row) (slice_get rows 0) false

-- the parts fit together, whatever their words say
abbrev pub is_shaped : TableView → Bool
is_shaped table =
    length table.kept == length table.roots
    && nat_le (length table.roots) max_tries
    && is_key_len table.key_len
    && list_all (is_kept_word table.key_len) table.kept
    && length table.level_lens == sum (depths_of table)
    && length table.words == sum table.level_lens
    && begins_with_zeros table.rows
    && nat_le (words_of table) max_words

-- the word leads to a node that lies whole in the level
abbrev pub leads_into : Level → ℕ → Bool
leads_into level word =
    is_node word
    && nat_le level.from (index_of word)
    && nat_le (index_of word + node_len word) (level.from + level.len)

-- a match names a row, of which there are so many; any other word leads into the next level
abbrev pub is_sound_word : ℕ → Level → ℕ → Bool
is_sound_word rows next word =
    if is_match word then is_unbounded word && nat_lt (index_of word) rows else leads_into next word

-- the first of the levels, or one in which no node lies
abbrev pub first_level : List Level → Level
first_level [] = no_level
first_level (level ∷ levels) = level

-- the words of the level
abbrev pub words_in : List ℕ → Level → List ℕ
words_in words level = take level.len (drop level.from words)

-- the place of the first unsound word in the levels of one trie
abbrev pub unsound_word : ℕ → List ℕ → List Level → Option ℕ
unsound_word rows words [] = None
unsound_word rows words (level ∷ levels) =
    option_or
    (position_from (λ word. not (is_sound_word rows (first_level levels) word)) level.from
    (words_in words level))
    (unsound_word rows words levels)

-- the first that is there
abbrev pub first_some : {A : Type 0} → List (Option A) → Option A
first_some [] = None
first_some (answer ∷ answers) = option_or answer (first_some answers)

-- the place of the first unsound word of the table
abbrev pub first_unsound_word : TableView → Option ℕ
first_unsound_word table =
    first_some (map (unsound_word (length table.rows) table.words) (trie_levels table))

-- the first trie whose root doesn't lead into its first level
abbrev pub first_unsound_root : TableView → Option ℕ
first_unsound_root table =
    position_from (λ trie. not (leads_into (first_level trie.1) trie.0)) 0
    (zip table.roots (trie_levels table))

-- what is wrong with the parts first, if anything is: their shape, a root, a word
unfoldable pub sound_fault : TableView → Option SoundFault
sound_fault table =
    if is_shaped table
    then option_or (option_map Root (first_unsound_root table))
    (option_map Word (first_unsound_word table))
    else Some Shape

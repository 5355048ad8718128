-- Parts have no first fault exactly where every root and every word is sound.
use Rattle.std.proofs.Common.{◌≡◌, ℕ, suc, ◌+◌, ◌<◌, Bool, true, not, Option, Some, None, List, []}
use Rattle.std.proofs.Common.{◌∷◌, refl, sym, ap, ◌∙◌, arith, map, take, drop, length, get_or, length-take, add-one}
use Rattle.std.specs.Prelude.{slice_index, option_map}
use Rattle.std.specs.List.{zip, position_from}
use Rattle.std.specs.Option.{option_or}
use Rattle.std.proofs.lemmas.List.{get_or-map, length-map}
use Rattle.std.proofs.lemmas.Slice.Zip.{get_or-zip, length-zip}
use Rattle.flat_table.specs.declared.level.Level.{Level}
use Rattle.flat_table.specs.Table.{TableView, trie_levels, no_level, level_of}
use Rattle.flat_table.specs.Sound.{leads_into, is_sound_word, first_level, words_in, unsound_word, first_some}
use Rattle.flat_table.specs.Sound.{is_shaped, first_unsound_root, first_unsound_word, sound_fault}
use Rattle.flat_table.specs.Walk.{root_of}
use Rattle.flat_table.specs.Laws.{IsEachSound}
use Rattle.flat_table.proofs.Shape.{IsShaped, shaped, shape_is}
use Rattle.flat_table.proofs.Unsound.{is_unsound_root}
use Rattle.flat_table.proofs.Safe.{levels_len, lt_levels, levels_few, word_in, root_leads, word_sound, first-is}
use Rattle.list_lemmas.proofs.Searches.{none_passes}

-- parts without a fault fit together, and each root and each word is sound
pub each_is_sound : (table : TableView) → sound_fault table ≡ None → IsEachSound table
each_is_sound table sound = record {
  shape = shape_is table sound;
  root = λ trie lt. root_leads table trie sound lt;
  word = λ trie depth place lt _ from to. word_sound table trie sound lt depth place from to;
}

-- where none is there, the first isn't
none_there : (answers : List (Option ℕ)) → ((k : ℕ) → k < length answers → get_or answers k None ≡ None) →
    first_some answers ≡ None
none_there [] each = refl
none_there (answer ∷ answers) each =
    rw (each 0 (omega arith)) (none_there answers (λ k lt. each (suc k) (omega (arith, lt))))

-- where the words of each level are sound for the next one, no word of the trie is unsound
none_unsound : (rows : ℕ) (words : List ℕ) (levels : List Level) →
    ((depth k : ℕ) → depth < length levels → k < length (words_in words (get_or levels depth no_level)) →
    is_sound_word rows (get_or levels (suc depth) no_level) (get_or (words_in words (get_or levels depth no_level)) k 0)
    ≡ true) →
    unsound_word rows words levels ≡ None
none_unsound rows words [] each = refl
none_unsound rows words (level ∷ levels) each =
    let here : position_from (λ (word : ℕ). not (is_sound_word rows (first_level levels) word)) level.from
    (words_in words level) ≡ None =
    none_passes (λ (word : ℕ). not (is_sound_word rows (first_level levels) word)) level.from (words_in words level) 0
    (λ k lt. ap not (ap (λ (next : Level). is_sound_word rows next (get_or (words_in words level) k 0))
    (first-is levels) ∙ each 0 k (omega arith) lt)) in
    rw here (none_unsound rows words levels (λ depth k lt below. each (suc depth) k (omega (arith, lt)) below))

module _ (table : TableView) (each : IsEachSound table) where
  -- the parts fit together
  shape : IsShaped table
  shape = shaped table each.shape

  -- no root is unsound
  no_root : first_unsound_root table ≡ None
  no_root =
      let count = levels_len table shape in
      none_passes is_unsound_root 0 (zip table.roots (trie_levels table)) (0, []) (λ trie below.
      let lt : trie < length table.roots =
      omega (arith, below, length-zip table.roots (trie_levels table), count) in
      rw (get_or-zip table.roots (trie_levels table) trie (0, []) lt (lt_levels table trie shape lt))
      (ap not (ap (λ (level : Level). leads_into level (root_of table trie))
      (first-is (get_or (trie_levels table) trie [])) ∙ each.root trie lt)))

  -- no word is unsound
  no_word : first_unsound_word table ≡ None
  no_word =
      let unsound = unsound_word (length table.rows) table.words in
      none_there (map unsound (trie_levels table)) (λ trie below.
      let lt : trie < length table.roots =
      omega (arith, below, length-map (trie_levels table) unsound, levels_len table shape) in
      get_or-map unsound (trie_levels table) trie [] None (lt_levels table trie shape lt)
      ∙ none_unsound (length table.rows) table.words (get_or (trie_levels table) trie []) (λ depth k in_trie in_words.
      word_of trie depth k lt in_trie in_words))
    where
      word_of : (trie depth k : ℕ) → trie < length table.roots →
          depth < length (get_or (trie_levels table) trie []) →
          k < length (words_in table.words (level_of table trie depth)) →
          is_sound_word (length table.rows) (level_of table trie (suc depth))
          (get_or (words_in table.words (level_of table trie depth)) k 0) ≡ true
      word_of trie depth k lt in_trie in_words =
          let level : Level = level_of table trie depth in
          let below : k < level.len =
          omega (arith, in_words, length-take level.len (drop level.from table.words)) in
          ap (λ (w : ℕ). is_sound_word (length table.rows) (level_of table trie (suc depth)) w)
          (word_in table.words level k below)
          ∙ rw (add-one depth) at (each.word trie depth (level.from + k) lt
          (omega (arith, in_trie, levels_few table trie shape lt)) (omega arith) (omega (arith, below)))

-- parts that fit together have no fault if each root and each word is sound
pub sound_of_each : (table : TableView) → IsEachSound table → sound_fault table ≡ None
unfolding sound_fault
sound_of_each table each = rw (each.shape, no_root table each, no_word table each) refl

-- A walk through a sound table stays in it: each word that it takes is there, and leads on or names a row.
use Rattle.std.proofs.Common.{◌≡◌, ℕ, zero, suc, ◌+◌, ◌<◌, ◌≤◌, Bool, true, false, not, Option, Some, None, List, []}
use Rattle.std.proofs.Common.{◌∷◌, refl, sym, ap, ◌∙◌, arith, map, take, drop, length, sum, get_or, ◌-◌, length-take}
use Rattle.std.proofs.Common.{length-drop, inl, inr, add-one}
use Rattle.std.specs.Prelude.{slice_index}
use Rattle.std.specs.List.{zip}
use Rattle.std.proofs.lemmas.List.{get_or-map, length-map, get_or-take, get_or-drop, get_or_past}
use Rattle.std.proofs.lemmas.List.Sums.{sum_by-cons, sum_by-take-drop}
use Rattle.flat_table.proofs.Levels.{levels-drop, levels-take}
use Rattle.flat_table.proofs.Places.{portion-at}
use Rattle.std.proofs.lemmas.Bool.Decides.{nat_tests}
use Rattle.std.proofs.lemmas.Bool.{cases_Bool, not-false}
use Rattle.flat_table.specs.declared.level.Level.{Level}
use Rattle.flat_table.specs.Word.{index_of, is_match, node_len, offset_of, next_place}
use Rattle.flat_table.specs.Groups.{depth_of}
use Rattle.flat_table.specs.Table.{TableView, levels_from, portions, depths_of, trie_levels, no_level, level_of}
use Rattle.flat_table.specs.Table.{places_of}
use Rattle.flat_table.specs.Sound.{leads_into, is_sound_word, first_level, words_in, unsound_word, first_some}
use Rattle.flat_table.specs.Sound.{sound_fault}
use Rattle.flat_table.specs.Walk.{root_of}
use Rattle.flat_table.proofs.Shape.{IsShaped, sound_parts}
use Rattle.flat_table.specs.Laws.{LeadsOn}
use Rattle.std.proofs.lemmas.Slice.Zip.{get_or-zip, length-zip}
use Rattle.flat_table.proofs.Unsound.{is_unsound_root}
use Rattle.list_lemmas.proofs.Options.{both_none}
use Rattle.list_lemmas.proofs.Searches.{position_none}

-- where the first that is there isn't, none is
first_none : (answers : List (Option ℕ)) (k : ℕ) → first_some answers ≡ None → k < length answers →
    get_or answers k None ≡ None
first_none [] k e h = absurd (omega arith)
first_none (None ∷ answers) zero e h = refl
first_none (None ∷ answers) (suc k) e h = first_none answers k e (omega arith)
first_none (Some place ∷ answers) k e h = cc

-- the words of each level are sound for the next one
level_sound : (rows : ℕ) (words : List ℕ) (levels : List Level) (depth : ℕ) (k : ℕ) →
    unsound_word rows words levels ≡ None →
    k < length (words_in words (get_or levels depth no_level)) →
    is_sound_word rows (get_or levels (depth + 1) no_level)
    (get_or (words_in words (get_or levels depth no_level)) k 0)
    ≡ true
level_sound rows words [] depth k e h = absurd (omega arith)
level_sound rows words (level ∷ []) zero k e h =
    not-false _ (position_none (λ (word : ℕ). not (is_sound_word rows no_level word)) level.from
    (words_in words level)
    k 0 (both_none _ _ e).0 h)
level_sound rows words (level ∷ next ∷ levels) zero k e h =
    not-false _ (position_none (λ (word : ℕ). not (is_sound_word rows next word)) level.from (words_in words level) k
    0
    (both_none _ _ e).0 h)
level_sound rows words (level ∷ levels) (suc depth) k e h =
    rw (add-one (suc depth)) (rw (add-one depth) at (level_sound rows words levels depth k (both_none _ _ e).1 h))

-- no level reaches after all words
level-bound : (place : ℕ) (lens : List ℕ) (n : ℕ) → (get_or (levels_from place lens) n no_level).from +
    (get_or (levels_from place lens) n no_level).len ≤ place + sum lens
level-bound place [] n = omega arith
level-bound place (len ∷ lens) zero = omega (arith, sum_by-cons (λ (x : ℕ). x) len lens)
level-bound place (len ∷ lens) (suc n) = omega (
  arith,
  level-bound (place + len) lens n,
  sum_by-cons (λ (x : ℕ). x) len lens,
)

-- the first level is that at depth 0
pub first-is : (levels : List Level) → first_level levels ≡ get_or levels 0 no_level
first-is [] = refl
first-is (level ∷ levels) = refl

-- the offset lies within the node
offset-below : (word byte : ℕ) → byte < 256 → offset_of word byte < node_len word
offset-below word byte h = grind (arith, nat_tests)

-- a word that leads into a level names no row
node_is_no_match_of : (level : Level) (word : ℕ) → leads_into level word ≡ true → is_match word ≡ false
node_is_no_match_of level word e = grind (arith, nat_tests)

-- the node that it leads to lies whole in the level
leads_within : (level : Level) (word : ℕ) → leads_into level word ≡ true →
    (level.from ≤ index_of word) × (index_of word + node_len word ≤ level.from + level.len)
leads_within level word e = (grind (arith, nat_tests), grind (arith, nat_tests))

-- no word leads into a level of no words
nowhere : (word : ℕ) → leads_into no_level word ≡ false
nowhere word = grind (arith, nat_tests)

-- what a sound word says
sound_word : (rows word : ℕ) (next : Level) → is_sound_word rows next word ≡ true →
    (is_match word ≡ true → index_of word < rows) × (is_match word ≡ false → leads_into next word ≡ true)
sound_word rows word next e =
    elim (cases_Bool (is_match word)) [
      | inl w ↦ (λ _. grind (arith, nat_tests, rw w at e), λ no_match. cc)
      | inr w ↦
          (λ match. cc, λ _. rw w at e)
    ]

-- there are as many portions as sizes
length-portions : {A : Type 0} (sizes : List ℕ) (xs : List A) → length (portions sizes xs) ≡ length sizes
length-portions [] xs = refl
length-portions (size ∷ sizes) xs = ap suc (length-portions sizes (drop size xs))

-- there are as many tries with levels as roots
pub levels_len : (table : TableView) → IsShaped table → length (trie_levels table) ≡ length table.roots
levels_len table shape =
    length-portions (depths_of table) (levels_from 0 table.level_lens)
    ∙ length-map table.kept (depth_of table.key_len) ∙ shape.same

-- the tries of parts that fit together
module _ (table : TableView) (trie : ℕ) (shape : IsShaped table) (lt : trie < length table.roots) where
  -- the trie has a kept word
  lt_kept : trie < length table.kept
  lt_kept = omega (arith, shape.same)

  -- the trie's depth is the number of its kept places
  depth_is : get_or (depths_of table) trie 0 ≡ length (places_of table trie)
  depth_is = get_or-map (depth_of table.key_len) table.kept trie 0 0 lt_kept

  -- the trie has a depth
  lt_depths : trie < length (depths_of table)
  lt_depths = omega (arith, lt_kept, length-map table.kept (depth_of table.key_len))

  -- the trie has its levels
  pub lt_levels : trie < length (trie_levels table)
  lt_levels = omega (arith, levels_len table shape)

  -- its levels are those after the levels of earlier tries
  levels_cut : get_or (trie_levels table) trie [] ≡ take (length (places_of table trie))
      (drop (sum (take trie (depths_of table))) (levels_from 0 table.level_lens))
  levels_cut = portion-at (depths_of table) trie (levels_from 0 table.level_lens) lt_depths
      ∙ ap (λ (n : ℕ). take n (drop (sum (take trie (depths_of table))) (levels_from 0 table.level_lens))) depth_is

  -- a trie has no more levels than it keeps places
  pub levels_few : length (get_or (trie_levels table) trie []) ≤ length (places_of table trie)
  levels_few = omega (arith, ap (λ (ls : List Level). length ls) levels_cut, length-take {A = Level})

  -- no word leads into a level after the last one
  pub none_after : (depth word : ℕ) → length (places_of table trie) ≤ depth →
      leads_into (level_of table trie depth) word ≡ false
  none_after depth word le =
      ap (λ (level : Level). leads_into level word) (get_or_past (get_or (trie_levels table) trie []) depth no_level
      (omega (arith, levels_few))) ∙ nowhere word

  -- each of its levels lies within the words
  level_within : (depth : ℕ) → (level_of table trie depth).from + (level_of table trie depth).len ≤ length table.words
  level_within depth =
      let n : ℕ = sum (take trie (depths_of table)) in
      let d : ℕ = length (places_of table trie) in
      let lens : List ℕ = take d (drop n table.level_lens) in
      let is : get_or (trie_levels table) trie [] ≡ levels_from (0 + sum (take n table.level_lens)) lens =
      levels_cut ∙ ap (λ (ls : List Level). take d ls) (levels-drop n 0 table.level_lens)
      ∙ levels-take d (0 + sum (take n table.level_lens)) (drop n table.level_lens) in
      let bound = level-bound (0 + sum (take n table.level_lens)) lens depth in
      let one = sum_by-take-drop (λ (x : ℕ). x) table.level_lens n in
      let two = sum_by-take-drop (λ (x : ℕ). x) (drop n table.level_lens) d in
      let l = ap (λ (ls : List Level). (get_or ls depth no_level).from + (get_or ls depth no_level).len) is in
      omega (arith, bound, one, two, l, shape.words)

-- the word at an offset of a level
pub word_in : (words : List ℕ) (level : Level) (k : ℕ) → k < level.len →
    get_or (words_in words level) k 0 ≡ slice_index words (level.from + k)
word_in words level k below =
    get_or-take level.len (drop level.from words) k 0 below ∙ get_or-drop level.from words k 0

-- the tries of a sound table
module _ (table : TableView) (trie : ℕ) (sound : sound_fault table ≡ None) (lt : trie < length table.roots) where
  -- the parts fit together
  shape : IsShaped table
  shape = (sound_parts table sound).shape

  -- the root leads into the first level
  pub root_leads : leads_into (level_of table trie 0) (root_of table trie) ≡ true
  root_leads =
      let count = levels_len table shape in
      let lens : trie < length (zip table.roots (trie_levels table)) =
      omega (arith, length-zip table.roots (trie_levels table), count) in
      let none = position_none is_unsound_root 0 (zip table.roots (trie_levels table)) trie (0, [])
      (sound_parts table sound).roots lens in
      let at = get_or-zip table.roots (trie_levels table) trie (0, []) lt (lt_levels table trie shape lt) in
      ap (λ (level : Level). leads_into level (root_of table trie))
      (sym (first-is (get_or (trie_levels table) trie [])))
      ∙ not-false _ (rw at at none)

  -- no word of its levels is unsound
  sound_levels : unsound_word (length table.rows) table.words (get_or (trie_levels table) trie []) ≡ None
  sound_levels =
      let below = lt_levels table trie shape lt in
      sym (get_or-map (unsound_word (length table.rows) table.words) (trie_levels table) trie [] None below)
      ∙ first_none (map (unsound_word (length table.rows) table.words) (trie_levels table)) trie
      (sound_parts table sound).words
      (omega (arith, below, length-map (trie_levels table) (unsound_word (length table.rows) table.words)))

  -- each word of a level is sound for the next one
  pub word_sound : (depth place : ℕ) → (level_of table trie depth).from ≤ place →
      place < (level_of table trie depth).from + (level_of table trie depth).len →
      is_sound_word (length table.rows) (level_of table trie (depth + 1)) (slice_index table.words place) ≡ true
  word_sound depth place from to =
      let level : Level = level_of table trie depth in
      let k : ℕ = place - level.from in
      let in_level : k < level.len = omega (arith, from, to) in
      let in_words : k < length (words_in table.words level) =
      omega (
        arith,
        length-take level.len (drop level.from table.words),
        length-drop level.from table.words,
        level_within table trie shape lt depth,
        from,
        in_level,
      ) in
      let at : get_or (words_in table.words level) k 0 ≡ slice_index table.words place =
      word_in table.words level k in_level ∙ ap (λ (n : ℕ). slice_index table.words n) (omega (arith, from)) in
      ap (λ (w : ℕ). is_sound_word (length table.rows) (level_of table trie (depth + 1)) w) (sym at)
      ∙ level_sound (length table.rows) table.words (get_or (trie_levels table) trie []) depth k sound_levels in_words

  -- the word of a node for a byte leads on into the next level
  pub next_leads_on : (depth word byte : ℕ) → byte < 256 → leads_into (level_of table trie depth) word ≡ true →
      LeadsOn table trie (depth + 1) (next_place word byte)
  next_leads_on depth word byte small leads =
      let within = leads_within (level_of table trie depth) word leads in
      let off = offset-below word byte small in
      let s = sound_word (length table.rows) (slice_index table.words (next_place word byte))
      (level_of table trie (depth + 1)) (word_sound depth (next_place word byte) (omega (arith, within.0))
      (omega (arith, within.1, off))) in
      record {
        there = omega (arith, within.1, off, level_within table trie shape lt depth);
        row = s.0;
        level = s.1;
      }

-- a word that leads into a level of a table names no row
pub node_is_no_match : (table : TableView) (trie depth word : ℕ) → leads_into (level_of table trie depth) word
    ≡ true →
    is_match word ≡ false
node_is_no_match table trie depth word e = node_is_no_match_of (level_of table trie depth) word e

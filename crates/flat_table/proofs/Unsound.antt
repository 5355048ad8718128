-- The first unsound word and root, trie by trie.
use Rattle.std.proofs.Common.{◌≡◌, ℕ, ◌+◌, ◌-◌, ◌<◌, Bool, true, false, not, cond, Option, Some, None, List, ◌∷◌, refl}
use Rattle.std.proofs.Common.{sym, ap, ◌∙◌, map, take, drop, length, get_or, drop-cons, add-one, sum, arith}
use Rattle.std.proofs.lemmas.List.{take_all, length-drop}
use Rattle.std.proofs.lemmas.List.Sums.{sum_by-cons}
use Rattle.std.specs.List.{zip, position_from}
use Rattle.std.specs.Option.{is_some, option_or}
use Rattle.flat_table.specs.declared.level.Level.{Level}
use Rattle.flat_table.specs.Table.{TableView, levels_from, trie_levels}
use Rattle.flat_table.specs.Sound.{leads_into, is_sound_word, first_level, unsound_word, first_some, first_unsound_word}
use Rattle.flat_table.specs.Sound.{first_unsound_root}
use Rattle.flat_table.proofs.Levels.{Turn}

-- of two answers the first one counts if it is there
found_here : (here later : Option ℕ) → is_some here ≡ true → option_or here later ≡ here
found_here None later h = cc
found_here (Some place) later h = refl

-- and the second one counts if the first isn't there
not_here : (here later : Option ℕ) → is_some here ≡ false → option_or here later ≡ later
not_here None later h = refl
not_here (Some place) later h = cc

-- A loop over the tries looks at the levels of the trie at which it stands: an unsound word there is the first of
-- all, and else the first is in the levels after.
module _ (table : TableView) (trie first from end : ℕ) (place : Option ℕ)
    (e : place ≡ unsound_word (length table.rows) table.words
    (levels_from from (take (end - first) (drop first table.level_lens))))
    (all : first_some (map (unsound_word (length table.rows) table.words) (drop trie (trie_levels table)))
    ≡ first_unsound_word table)
    (t : Turn table trie first from end) where
  -- the first unsound word is that of this trie, or else that of those after it
  word_step : option_or place (first_some (map (unsound_word (length table.rows) table.words)
      (drop (trie + 1) (trie_levels table)))) ≡ first_unsound_word table
  word_step =
      rw e (sym (ap (λ (levels : List (List Level)). first_some
      (map (unsound_word (length table.rows) table.words) levels)) t.here) ∙ all)

  -- what is found in this trie is the first of all
  pub word_here : is_some place ≡ true → place ≡ first_unsound_word table
  word_here some = sym (found_here place _ some) ∙ word_step

  -- if none is found in this trie, the first is that of those after it
  pub no_word_here : is_some place ≡ false → first_some
      (map (unsound_word (length table.rows) table.words) (drop (trie + 1) (trie_levels table)))
      ≡ first_unsound_word table
  no_word_here none = sym (not_here place _ none) ∙ word_step

-- the lengths of the levels not yet looked at are that of the one here and those of the later ones
lens_here : (depth : ℕ) (lens : List ℕ) → depth < length lens →
    drop depth lens ≡ get_or lens depth 0 ∷ drop (depth + 1) lens
lens_here depth lens lt = rw (add-one depth) (drop-cons lens depth 0 lt)

-- the words of the levels left are those of the level here and of the later ones
pub words_here : (depth : ℕ) (lens : List ℕ) → depth < length lens →
    sum (drop depth lens) ≡ get_or lens depth 0 + sum (drop (depth + 1) lens)
words_here depth lens lt =
    ap sum (lens_here depth lens lt) ∙ sum_by-cons (λ (x : ℕ). x) (get_or lens depth 0) (drop (depth + 1) lens)

-- A loop over the levels of a trie looks at the words of the one at which it stands: an unsound word there is the
-- first of all, and else the first is in the levels after.
module _ (rows : ℕ) (words lens : List ℕ) (depth from : ℕ) (lt : depth < length lens) (next : Level)
    (leads : next ≡ first_level (levels_from (from + get_or lens depth 0)
    (take (length lens - (depth + 1)) (drop (depth + 1) lens))))
    (place whole : Option ℕ)
    (e : place ≡ position_from (λ word. not (is_sound_word rows next word)) from
    (take (from + get_or lens depth 0 - from) (drop from words)))
    (all : unsound_word rows words (levels_from from (drop depth lens)) ≡ whole) where
  -- the first unsound word is that of this level, or else that of those after it
  level_step : option_or place (unsound_word rows words
      (levels_from (from + get_or lens depth 0) (drop (depth + 1) lens))) ≡ whole
  level_step =
      let later : List ℕ = drop (depth + 1) lens in
      let rest : take (length lens - (depth + 1)) later ≡ later = take_rest_all in
      let long : from + get_or lens depth 0 - from ≡ get_or lens depth 0 = omega arith in
      rw (e, leads, rest, long) (sym (ap (λ (ls : List ℕ). unsound_word rows words (levels_from from ls))
      (lens_here depth lens lt)) ∙ all)
    where
      take_rest_all : take (length lens - (depth + 1)) (drop (depth + 1) lens) ≡ drop (depth + 1) lens
      take_rest_all = take_all (length lens - (depth + 1)) (drop (depth + 1) lens)
          (omega (arith, length-drop (depth + 1) lens))

  -- what is found in this level is the first of all
  pub level_here : is_some place ≡ true → place ≡ whole
  level_here some = sym (found_here place _ some) ∙ level_step

  -- if none is found in this level, the first is that of those after it
  pub no_level_here : is_some place ≡ false →
      unsound_word rows words (levels_from (from + get_or lens depth 0) (drop (depth + 1) lens)) ≡ whole
  no_level_here none = sym (not_here place _ none) ∙ level_step

-- the root doesn't lead into the first of these levels
abbrev pub is_unsound_root : ℕ × List Level → Bool
is_unsound_root trie = not (leads_into (first_level trie.1) trie.0)

-- one step of a search over two lists side by side
root_step : (trie : ℕ) (roots : List ℕ) (levels : List (List Level)) (here : List Level) → trie < length roots →
    drop trie levels ≡ here ∷ drop (trie + 1) levels →
    position_from is_unsound_root trie (zip (drop trie roots) (drop trie levels))
    ≡ cond (is_unsound_root (get_or roots trie 0, here)) (Some trie)
    (position_from is_unsound_root (trie + 1) (zip (drop (trie + 1) roots) (drop (trie + 1) levels)))
root_step trie roots levels here lt e =
    let now : drop trie roots ≡ get_or roots trie 0 ∷ drop (trie + 1) roots =
    rw (add-one trie) (drop-cons roots trie 0 lt) in
    ap (λ (xs : List ℕ). position_from is_unsound_root trie (zip xs (drop trie levels))) now
    ∙ ap (λ (ls : List (List Level)). position_from is_unsound_root trie
    (zip (get_or roots trie 0 ∷ drop (trie + 1) roots) ls)) e

-- a choice is the same by whatever its test is equal to
cond_at : {A : Type 0} (b : Bool) (value : Bool) (x y z : A) → b ≡ value → cond b x y ≡ z → cond value x y ≡ z
cond_at b value x y z e h = ap (λ (v : Bool). cond v x y) (sym e) ∙ h

-- A loop over the tries looks at the root of the trie at which it stands: if it is unsound it is the first, and else
-- the first is among the roots after.
module _ (table : TableView) (trie first from end : ℕ) (lt : trie < length table.roots) (sound : Bool)
    (e : sound ≡ leads_into (first_level (levels_from from (take (end - first) (drop first table.level_lens))))
    (get_or table.roots trie 0))
    (all : position_from is_unsound_root trie (zip (drop trie table.roots) (drop trie (trie_levels table)))
    ≡ first_unsound_root table)
    (t : Turn table trie first from end) where
  -- a root that is unsound here is the first
  pub root_here : sound ≡ false → Some trie ≡ first_unsound_root table
  root_here unsound = cond_at _ true _ _ _ (ap not (sym e ∙ unsound))
      (sym (root_step trie table.roots (trie_levels table) _ lt t.here) ∙ all)

  -- if the root is sound here, the first is that of those after it
  pub no_root_here : sound ≡ true → position_from is_unsound_root (trie + 1)
      (zip (drop (trie + 1) table.roots) (drop (trie + 1) (trie_levels table))) ≡ first_unsound_root table
  no_root_here fine = cond_at _ false _ _ _ (ap not (sym e ∙ fine))
      (sym (root_step trie table.roots (trie_levels table) _ lt t.here) ∙ all)

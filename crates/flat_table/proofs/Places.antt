-- What a table keeps beside its parts, and where its levels stand.
use Rattle.std.proofs.Common.{◌≡◌, ℕ, zero, suc, ◌+◌, ◌<◌, List, [], ◌∷◌, refl, sym, ap, ◌∙◌, arith, take, drop, length}
use Rattle.std.proofs.Common.{sum, get_or}
use Rattle.arrayvec.specs.ArrayVec.{ArrayVec}
use Rattle.std.proofs.lemmas.List.{get_or-map, length-map, drop-drop, get_or-take, get_or-drop}
use Rattle.std.proofs.lemmas.List.Sums.{sum_by-cons, sum_by_more, sum_by_more_le}
use Rattle.flat_table.specs.declared.level.Level.{Level}
use Rattle.table_sizes.specs.Groups.{kept_places}
use Rattle.flat_table.specs.Groups.{depth_of}
use Rattle.flat_table.specs.Table.{TableView, levels_from, portions, depths_of, no_level, level_of, places_of}
use Rattle.flat_table.specs.TableInvariant.{IsTable}
use Rattle.flat_table.proofs.Shape.{IsShaped, sound_parts}

-- the element of a portion is that of the whole list, after the portions before
pub portion-at : {A : Type 0} (sizes : List ℕ) (n : ℕ) (xs : List A) → n < length sizes →
    get_or (portions sizes xs) n [] ≡ take (get_or sizes n 0) (drop (sum (take n sizes)) xs)
portion-at [] n xs h = absurd (omega arith)
portion-at (size ∷ sizes) zero xs h = refl
portion-at (size ∷ sizes) (suc n) xs h =
    portion-at sizes n (drop size xs) (omega arith)
    ∙ ap (λ (ys : List _). take (get_or sizes n 0) ys) (drop-drop (sum (take n sizes)) size xs
    ∙ ap (λ (k : ℕ). drop k xs) (sym (sum_by-cons (λ (x : ℕ). x) size (take n sizes))))

-- the level at a number has the length at that number, and after the last there is none
pub level-len : (place : ℕ) (lens : List ℕ) (n : ℕ) → (get_or (levels_from place lens) n no_level).len
    ≡ get_or lens n 0
level-len place [] n = refl
level-len place (len ∷ lens) zero = refl
level-len place (len ∷ lens) (suc n) = level-len (place + len) lens n

-- the kept places of a trie are those that stand beside the parts
module _ (table : TableView) (roots : List ℕ) (places : List (ArrayVec ℕ)) (t : IsTable table roots places) where
  -- each trie has its places
  tries_len : length places ≡ length table.kept
  tries_len = sym (length-map places (λ (trie : ArrayVec ℕ). trie.items))
      ∙ ap (λ (xs : List (List ℕ)). length xs) t.read ∙ length-map table.kept (kept_places table.key_len)

  -- there are as many as roots
  pub tries_of_places : length places ≡ length table.roots
  tries_of_places = tries_len ∙ (sound_parts table t.sound).shape.same

  -- what stands beside a trie are its kept places
  pub places-at : (trie : ℕ) (here : ArrayVec ℕ) → trie < length table.roots → here ≡ get_or places trie here →
      here.items ≡ places_of table trie
  places-at trie here lt e =
      let known : trie < length places = omega (arith, tries_of_places) in
      let lt_kept : trie < length table.kept = omega (arith, (sound_parts table t.sound).shape.same) in
      ap (λ (p : ArrayVec ℕ). p.items) e ∙ sym (get_or-map (λ (p : ArrayVec ℕ). p.items) places trie here [] known)
      ∙ ap (λ (xs : List (List ℕ)). get_or xs trie []) t.read
      ∙ get_or-map (kept_places table.key_len) table.kept trie 0 [] lt_kept

-- one more trie's levels
pub levels-more : (table : TableView) (trie : ℕ) → trie < length table.kept →
    sum (take (trie + 1) (depths_of table)) ≡ sum (take trie (depths_of table)) + length (places_of table trie)
levels-more table trie lt =
    let known : trie < length (depths_of table) = omega (arith, length-map table.kept (depth_of table.key_len)) in
    sum_by_more (λ (x : ℕ). x) (depths_of table) trie 0 known
    ∙ ap (λ (d : ℕ). sum (take trie (depths_of table)) + d)
    (get_or-map (depth_of table.key_len) table.kept trie 0 0 lt)

-- where a level of a trie stands among all
module _ (table : TableView) (s : IsShaped table) (trie depth : ℕ) (lt : trie < length table.roots)
    (below : depth < length (places_of table trie)) where
  -- the trie has a kept word
  lt_kept : trie < length table.kept
  lt_kept = omega (arith, s.same)

  -- the trie has a depth
  lt_depths : trie < length (depths_of table)
  lt_depths = omega (arith, lt_kept, length-map table.kept (depth_of table.key_len))

  -- the trie's depth is the number of its kept places
  depth_is : get_or (depths_of table) trie 0 ≡ length (places_of table trie)
  depth_is = get_or-map (depth_of table.key_len) table.kept trie 0 0 lt_kept

  -- the level is one of all levels
  pub level_bound : sum (take trie (depths_of table)) + depth < length table.level_lens
  level_bound = omega (
    arith,
    s.levels,
    depth_is,
    below,
    sum_by_more_le (λ (x : ℕ). x) (depths_of table) trie 0 lt_depths,
  )

  -- the level itself
  pub level_is : level_of table trie depth ≡ get_or (levels_from 0 table.level_lens)
      (sum (take trie (depths_of table)) + depth) no_level
  level_is =
      let at = portion-at (depths_of table) trie (levels_from 0 table.level_lens) lt_depths in
      let within : depth < get_or (depths_of table) trie 0 = omega (arith, depth_is, below) in
      ap (λ (levels : List Level). get_or levels depth no_level) at
      ∙ get_or-take (get_or (depths_of table) trie 0) (drop (sum (take trie (depths_of table)))
      (levels_from 0 table.level_lens)) depth no_level within
      ∙ get_or-drop (sum (take trie (depths_of table))) (levels_from 0 table.level_lens) depth no_level

  -- the level is as long as is kept for it
  pub level_len_is : (level_of table trie depth).len ≡ get_or table.level_lens
      (sum (take trie (depths_of table)) + depth) 0
  level_len_is = ap (λ (l : Level). l.len) level_is ∙ level-len 0 table.level_lens
      (sum (take trie (depths_of table)) + depth)

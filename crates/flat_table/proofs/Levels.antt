-- Where the levels of a table lie, trie by trie.
use Rattle.std.proofs.Common.{◌≡◌, ℕ, zero, suc, ◌+◌, ◌<◌, ◌≤◌, List, [], ◌∷◌, refl, sym, ap, ◌∙◌, arith, add-one, map}
use Rattle.std.proofs.Common.{take, drop, length, sum, get_or, drop-cons, ◌-◌}
use Rattle.std.proofs.lemmas.List.Sums.{sum_by-cons, sum_by-take-drop}
use Rattle.std.proofs.lemmas.List.{drop-drop}
use Rattle.flat_table.specs.declared.level.Level.{Level}
use Rattle.flat_table.specs.Groups.{depth_of}
use Rattle.list_lemmas.proofs.Positions.{rest_of_drop}
use Rattle.flat_table.specs.Table.{TableView, levels_from, portions, trie_levels}

-- the levels after the first few begin where those end
pub levels-drop : (n place : ℕ) (lens : List ℕ) → drop n (levels_from place lens)
    ≡ levels_from (place + sum (take n lens)) (drop n lens)
levels-drop zero place lens = ap (λ (k : ℕ). levels_from k lens) (omega arith)
levels-drop (suc n) place [] = refl
levels-drop (suc n) place (len ∷ lens) = levels-drop n (place + len) lens
    ∙ ap (λ (k : ℕ). levels_from k (drop n lens)) (omega (arith, sum_by-cons (λ (x : ℕ). x) len (take n lens)))

-- the first few levels are those of the first few lengths
pub levels-take : (n place : ℕ) (lens : List ℕ) → take n (levels_from place lens) ≡ levels_from place (take n lens)
levels-take zero place lens = refl
levels-take (suc n) place [] = refl
levels-take (suc n) place (len ∷ lens) = ap (λ (levels : List Level). record { from = place; len = len } ∷ levels)
    (levels-take n (place + len) lens)

-- A loop over the tries stands at one of them: its levels are the first of those left, and they begin at these places
-- of the lengths and of the words.
pub record AtTrie (table : TableView) (trie first from : ℕ) : Type 0 where
  pub rest : portions (map (depth_of table.key_len) (drop trie table.kept))
      (levels_from from (drop first table.level_lens)) ≡ drop trie (trie_levels table)
  pub levels : first + sum (map (depth_of table.key_len) (drop trie table.kept)) ≡ length table.level_lens
  pub words : from + sum (drop first table.level_lens) ≡ length table.words

-- what the loop finds at the trie, and that it then stands at the next one
pub record Turn (table : TableView) (trie first from end : ℕ) : Type 0 where
  pub bound : end ≤ length table.level_lens
  pub fits : from + sum (take (end - first) (drop first table.level_lens)) ≤ length table.words
  pub here : drop trie (trie_levels table)
      ≡ levels_from from (take (end - first) (drop first table.level_lens)) ∷ drop
      (trie + 1) (trie_levels table)
  pub next : AtTrie table (trie + 1) end (from + sum (take (end - first) (drop first table.level_lens)))

-- the levels of the first of the tries left, and after them those of the others
tries_step : (depth : ℕ → ℕ) (kept : ℕ) (others : List ℕ) (from : ℕ) (lens : List ℕ) →
    portions (map depth (kept ∷ others)) (levels_from from lens)
    ≡ levels_from from (take (depth kept) lens) ∷ portions (map depth others)
    (levels_from (from + sum (take (depth kept) lens)) (drop (depth kept) lens))
tries_step depth kept others from lens =
    let front = levels-take (depth kept) from lens in
    let back = levels-drop (depth kept) from lens in
    cc

-- a loop that stands at a trie finds its levels there, and then stands at the next trie
pub turn : (table : TableView) (trie first from end : ℕ) → trie < length table.kept →
    end ≡ first + depth_of table.key_len (get_or table.kept trie 0) →
    AtTrie table trie first from → Turn table trie first from end
turn table trie first from end lt ends at =
    let kept : ℕ = get_or table.kept trie 0 in
    let depth : ℕ → ℕ = depth_of table.key_len in
    let d : ℕ = end - first in
    let lens : List ℕ = drop first table.level_lens in
    let len : depth kept ≡ d = omega arith in
    let now : drop trie table.kept ≡ kept ∷ drop (trie + 1) table.kept =
    rw (add-one trie) (drop-cons table.kept trie 0 lt) in
    let more : sum (map depth (drop trie table.kept)) ≡ depth kept + sum (map depth (drop (trie + 1) table.kept)) =
    ap (λ (xs : List ℕ). sum (map depth xs)) now ∙ sum_by-cons (λ (x : ℕ). x) (depth kept)
    (map depth (drop (trie + 1) table.kept)) in
    let after : drop d lens ≡ drop end table.level_lens = drop-drop d first table.level_lens
    ∙ ap (λ (n : ℕ). drop n table.level_lens) (omega arith) in
    let parts : sum (take d lens) + sum (drop d lens) ≡ sum lens = sum_by-take-drop (λ (x : ℕ). x) lens d in
    let left : sum (drop d lens) ≡ sum (drop end table.level_lens) = ap sum after in
    let whole : levels_from from (take d lens) ∷ portions (map depth (drop (trie + 1) table.kept))
    (levels_from (from + sum (take d lens)) (drop d lens)) ≡ drop trie (trie_levels table) =
    rw len at (sym (ap (λ (xs : List ℕ). portions (map depth xs) (levels_from from lens)) now
    ∙ tries_step depth kept (drop (trie + 1) table.kept) from lens) ∙ at.rest) in
    let rest : portions (map depth (drop (trie + 1) table.kept))
    (levels_from (from + sum (take d lens)) (drop d lens))
    ≡ drop (trie + 1) (trie_levels table) = rest_of_drop trie (trie_levels table) _ _ whole in
    record {
      bound = omega arith;
      fits = omega arith;
      here = sym whole ∙ ap (λ (ys : List (List Level)). levels_from from (take d lens) ∷ ys) rest;
      next = record {
        rest = ap (λ (xs : List ℕ). portions (map depth (drop (trie + 1) table.kept))
            (levels_from (from + sum (take d lens)) xs)) (sym after) ∙ rest;
        levels = omega arith;
        words = omega arith;
      };
    }

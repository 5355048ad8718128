use Rattle.std.proofs.Common.{◌≡◌, ◌+◌, ℕ, List, None, arith, sym, ap, ◌∙◌, subst, length, get_or, sum, take}
use Rattle.flat_table.specs.Table.{TableView, depths_of}
use Rattle.flat_table.specs.Sound.{sound_fault}
use Rattle.flat_table.proofs.Shape.{IsShaped, sound_parts}
use Rattle.flat_table.proofs.Places.{levels-more, level_bound, level_len_is}
use Rattle.flat_table.proofs.table.Table.level_len.Goals as goal

-- the table that contracts see is shaped
shape_of : (seen table : TableView) → seen ≡ table → sound_fault seen ≡ None → IsShaped table
shape_of seen table e h = (sound_parts table (subst (λ (t : TableView). sound_fault t ≡ None) e h)).shape

pub overflow_add-first : goal.overflow_add-first
overflow_add-first c =
    let s = shape_of _ c.args.self.now c.self.view_is c.self.invariant.sound in
    omega (arith, s.few)

pub loop-earlier-preserved : goal.loop-earlier-preserved
loop-earlier-preserved c =
    let s = shape_of _ c.args.self.now c.self.view_is c.self.invariant.sound in
    let more = levels-more c.args.self.now c.loop-earlier.earlier (omega (arith, s.same)) in
    (omega (arith, more), omega arith)

pub overflow_add-result : goal.overflow_add-result
overflow_add-result c =
    let s = shape_of _ c.args.self.now c.self.view_is c.self.invariant.sound in
    let lens = c.as_slice-lens.ensures.value ∙ ap (λ (t : TableView). t.level_lens) c.self.view_is in
    let at : c.loop-earlier.earlier ≡ c.args.trie = omega arith in
    let first : c.loop-earlier.first ≡ sum (take c.args.trie (depths_of c.args.self.now)) = c.loop-earlier.invariant.0
    ∙ ap (λ (n : ℕ). sum (take n (depths_of c.args.self.now))) at in
    let bound = level_bound c.args.self.now s c.args.trie c.args.depth c.requires.trie c.requires.depth in
    omega (arith, bound, ap (λ (xs : List ℕ). length xs) lens)

pub offset_bounds-lens-first : goal.offset_bounds-lens-first
offset_bounds-lens-first c =
    let s = shape_of _ c.args.self.now c.self.view_is c.self.invariant.sound in
    let lens = c.as_slice-lens.ensures.value ∙ ap (λ (t : TableView). t.level_lens) c.self.view_is in
    let at : c.loop-earlier.earlier ≡ c.args.trie = omega arith in
    let first : c.loop-earlier.first ≡ sum (take c.args.trie (depths_of c.args.self.now)) = c.loop-earlier.invariant.0
    ∙ ap (λ (n : ℕ). sum (take n (depths_of c.args.self.now))) at in
    let bound = level_bound c.args.self.now s c.args.trie c.args.depth c.requires.trie c.requires.depth in
    omega (arith, bound, ap (λ (xs : List ℕ). length xs) lens)

pub bounds-lens-first : goal.bounds-lens-first
bounds-lens-first c =
    let s = shape_of _ c.args.self.now c.self.view_is c.self.invariant.sound in
    let lens = c.as_slice-lens.ensures.value ∙ ap (λ (t : TableView). t.level_lens) c.self.view_is in
    let at : c.loop-earlier.earlier ≡ c.args.trie = omega arith in
    let first : c.loop-earlier.first ≡ sum (take c.args.trie (depths_of c.args.self.now)) = c.loop-earlier.invariant.0
    ∙ ap (λ (n : ℕ). sum (take n (depths_of c.args.self.now))) at in
    let bound = level_bound c.args.self.now s c.args.trie c.args.depth c.requires.trie c.requires.depth in
    omega (arith, bound, ap (λ (xs : List ℕ). length xs) lens)

pub returns : goal.returns
returns c =
    let s = shape_of _ c.args.self.now c.self.view_is c.self.invariant.sound in
    let lens = c.as_slice-lens.ensures.value ∙ ap (λ (t : TableView). t.level_lens) c.self.view_is in
    let at : c.loop-earlier.earlier ≡ c.args.trie = omega arith in
    let first : c.loop-earlier.first ≡ sum (take c.args.trie (depths_of c.args.self.now)) = c.loop-earlier.invariant.0
    ∙ ap (λ (n : ℕ). sum (take n (depths_of c.args.self.now))) at in
    ap (λ (xs : List ℕ). get_or xs (c.loop-earlier.first + c.args.depth) 0) lens
    ∙ ap (λ (n : ℕ). get_or c.args.self.now.level_lens (n + c.args.depth) 0) first
    ∙ sym (level_len_is c.args.self.now s c.args.trie c.args.depth c.requires.trie c.requires.depth)

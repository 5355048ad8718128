use Rattle.std.proofs.Common.{◌≡◌, ◌+◌, ◌<◌, arith, sym, ap, ◌∙◌, get_or, ℕ, List, ◌-◌, subst, sum, take, drop, length}
use Rattle.std.proofs.Common.{length-take}
use Rattle.std.proofs.lemmas.Option.{IfSome_then}
use Rattle.flat_table.specs.Groups.{depth_of}
use Rattle.flat_table.specs.Table.{TableView, view_of}
use Rattle.flat_table.proofs.Shape.{shaped}
use Rattle.flat_table.proofs.Levels.{AtTrie, Turn, turn}
use Rattle.flat_table.proofs.Unsound.{word_here, no_word_here}
use Rattle.flat_table.proofs.sound.first_unsound_word.Goals as goal

-- what the loop finds, by the depth of the trie at which it stands
turn_of : (table : TableView) (trie first from depth : ℕ) (kept : List ℕ) → kept ≡ table.kept → trie < length kept →
    depth ≡ depth_of table.key_len (get_or kept trie 0) → AtTrie table trie first from →
    Turn table trie first from (first + depth)
turn_of table trie first from depth kept same lt is at =
    turn table trie first from (first + depth) (omega (arith, lt, ap length same))
    (ap (λ (d : ℕ). first + d) is ∙ ap (λ (xs : List ℕ). first + depth_of table.key_len (get_or xs trie 0)) same) at

pub returns-then-is_some-clause-place : goal.returns-then-is_some-clause-place
returns-then-is_some-clause-place c =
    let table = view_of c.args.parts.now in
    let l = c.loop-kept in
    let end = l.first + c.depth_of.result in
    let t = turn_of table l.kept-index l.first l.from c.depth_of.result c.deref-kept-items.result.now
    c.deref-kept-items.ensures.value (omega arith) c.depth_of.ensures.value l.invariant.0 in
    word_here table l.kept-index l.first l.from end c.unsound_word-place.result
    (rw (c.len.ensures, c.args.parts.now.rows.ok.0, c.deref-in-loop-kept.ensures.value, c.deref.ensures.value) at
    c.unsound_word-place.ensures.place) l.invariant.1 t (sym c.is_some.ensures ∙ c.if-is_some.true)

pub loop-kept-preserved : goal.loop-kept-preserved
loop-kept-preserved c =
    let table = view_of c.args.parts.now in
    let l = c.loop-kept in
    let end = l.first + c.depth_of.result in
    let t = turn_of table l.kept-index l.first l.from c.depth_of.result c.deref-kept-items.result.now
    c.deref-kept-items.ensures.value (omega arith) c.depth_of.ensures.value l.invariant.0 in
    let words : c.sum_of-from.result ≡ sum (take (end - l.first) (drop l.first table.level_lens)) =
    rw c.deref.ensures.value at c.sum_of-from.ensures.value in (
      subst (λ (n : ℕ). AtTrie table (l.kept-index + 1) end (l.from + n)) (sym words) t.next,
      no_word_here table l.kept-index l.first l.from end c.unsound_word-place.result
          (rw (c.len.ensures, c.args.parts.now.rows.ok.0, c.deref-in-loop-kept.ensures.value, c.deref.ensures.value)
          at
          c.unsound_word-place.ensures.place) l.invariant.1 t (sym c.is_some.ensures ∙ c.if-is_some.false),
    )

pub depth_of-requires : goal.depth_of-requires
depth_of-requires c = (shaped (view_of c.args.parts.now) c.requires).key_bound

pub overflow_add-end : goal.overflow_add-end
overflow_add-end c =
    let s = shaped (view_of c.args.parts.now) c.requires in
    omega (
      arith,
      c.loop-kept.invariant.0.levels,
      c.depth_of.ensures.bound,
      s.key_bound,
      c.args.parts.now.level_lens.ok.0,
    )

pub unsound_word-place-requires-clause-words : goal.unsound_word-place-requires-clause-words
unsound_word-place-requires-clause-words c =
    let table = view_of c.args.parts.now in
    let l = c.loop-kept in
    let t = turn_of table l.kept-index l.first l.from c.depth_of.result c.deref-kept-items.result.now
    c.deref-kept-items.ensures.value (omega arith) c.depth_of.ensures.value l.invariant.0 in
    rw (c.deref.ensures.value, c.deref-in-loop-kept.ensures.value) t.fits

pub unsound_word-place-requires-clause-few : goal.unsound_word-place-requires-clause-few
unsound_word-place-requires-clause-few c =
    let s = shaped (view_of c.args.parts.now) c.requires in
    omega (arith, s.small, ap length c.deref-in-loop-kept.ensures.value)

pub returns-then-is_some-clause-bound : goal.returns-then-is_some-clause-bound
returns-then-is_some-clause-bound c =
    let s = shaped (view_of c.args.parts.now) c.requires in
    let long = ap length c.deref-in-loop-kept.ensures.value in
    IfSome_then c.unsound_word-place.result c.unsound_word-place.ensures.bound
    (λ place below. omega (arith, below, s.small, long))

pub sum_of-from-requires : goal.sum_of-from-requires
sum_of-from-requires c =
    let s = shaped (view_of c.args.parts.now) c.requires in
    let l = c.loop-kept in
    omega (
      arith,
      length-take (l.first + c.depth_of.result - l.first) (drop l.first c.deref.result.now),
      c.depth_of.ensures.bound,
      s.key_bound,
    )

pub overflow_add-from : goal.overflow_add-from
overflow_add-from c =
    let table = view_of c.args.parts.now in
    let s = shaped table c.requires in
    let l = c.loop-kept in
    let t = turn_of table l.kept-index l.first l.from c.depth_of.result c.deref-kept-items.result.now
    c.deref-kept-items.ensures.value (omega arith) c.depth_of.ensures.value l.invariant.0 in
    omega (arith, rw c.deref.ensures.value at c.sum_of-from.ensures.value, t.fits, s.small)

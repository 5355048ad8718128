use Rattle.std.proofs.Common.{◌≡◌, ◌+◌, ◌-◌, ◌<◌, ℕ, List, length, arith, sym, ap, ◌∙◌, subst, sum, take, drop}
use Rattle.std.proofs.Common.{length-take}
use Rattle.std.proofs.lemmas.List.{get_or_read}
use Rattle.flat_table.specs.Groups.{depth_of}
use Rattle.flat_table.specs.Table.{view_of}
use Rattle.flat_table.proofs.Shape.{shaped}
use Rattle.flat_table.proofs.Levels.{AtTrie, turn}
use Rattle.flat_table.proofs.Unsound.{root_here, no_root_here}
use Rattle.flat_table.proofs.sound.unsound_root.Goals as goal

pub returns-then-not-holds_node_of-clause-place : goal.returns-then-not-holds_node_of-clause-place
returns-then-not-holds_node_of-clause-place c =
    let table = view_of c.args.parts.now in
    let l = c.loop-trie in
    let s = shaped table c.requires in
    let lt : l.trie < length table.roots = omega (
      arith,
      c.loop-trie-test.true,
      ap (λ (xs : List ℕ). length xs) c.deref-root-items.ensures.value,
    ) in
    let lt_kept : l.trie < length table.kept = omega (arith, s.same) in
    let end = l.first + c.depth_of.result in
    let ends = ap (λ (d : ℕ). l.first + d) c.depth_of.ensures.value
    ∙ ap (λ (kept : ℕ). l.first + depth_of table.key_len kept)
    (get_or_read table.kept _ _ lt_kept c.index.ensures 0) in
    let t = turn table l.trie l.first l.from end lt_kept ends l.invariant.0 in
    let e = rw (c.first.ensures.level, c.deref.ensures.value, c.deref-root-items.ensures.value) at
    c.holds_node_of.ensures in
    root_here table l.trie l.first l.from end lt c.holds_node_of.result e l.invariant.1 t c.if-not-holds_node_of.true

pub loop-trie-preserved : goal.loop-trie-preserved
loop-trie-preserved c =
    let table = view_of c.args.parts.now in
    let l = c.loop-trie in
    let s = shaped table c.requires in
    let lt : l.trie < length table.roots = omega (
      arith,
      c.loop-trie-test.true,
      ap (λ (xs : List ℕ). length xs) c.deref-root-items.ensures.value,
    ) in
    let lt_kept : l.trie < length table.kept = omega (arith, s.same) in
    let end = l.first + c.depth_of.result in
    let ends = ap (λ (d : ℕ). l.first + d) c.depth_of.ensures.value
    ∙ ap (λ (kept : ℕ). l.first + depth_of table.key_len kept)
    (get_or_read table.kept _ _ lt_kept c.index.ensures 0) in
    let t = turn table l.trie l.first l.from end lt_kept ends l.invariant.0 in
    let e = rw (c.first.ensures.level, c.deref.ensures.value, c.deref-root-items.ensures.value) at
    c.holds_node_of.ensures in
    let words : c.sum_of-from.result ≡ sum (take (end - l.first) (drop l.first table.level_lens)) =
    rw c.deref.ensures.value at c.sum_of-from.ensures.value in (
      subst (λ (n : ℕ). AtTrie table (l.trie + 1) end (l.from + n)) (sym words) t.next,
      no_root_here table l.trie l.first l.from end lt c.holds_node_of.result e l.invariant.1 t
          c.if-not-holds_node_of.false,
    )

pub depth_of-requires : goal.depth_of-requires
depth_of-requires c = (shaped (view_of c.args.parts.now) c.requires).key_bound

pub overflow_add-end : goal.overflow_add-end
overflow_add-end c =
    let s = shaped (view_of c.args.parts.now) c.requires in
    omega (
      arith,
      c.loop-trie.invariant.0.levels,
      c.depth_of.ensures.bound,
      s.key_bound,
      c.args.parts.now.level_lens.ok.0,
    )

pub returns-then-not-holds_node_of-clause-bound : goal.returns-then-not-holds_node_of-clause-bound
returns-then-not-holds_node_of-clause-bound c =
    let s = shaped (view_of c.args.parts.now) c.requires in
    omega (arith, s.few, c.loop-trie-test.true, ap length c.deref-root-items.ensures.value)

pub sum_of-from-requires : goal.sum_of-from-requires
sum_of-from-requires c =
    let s = shaped (view_of c.args.parts.now) c.requires in
    let l = c.loop-trie in
    omega (
      arith,
      length-take (l.first + c.depth_of.result - l.first) (drop l.first c.deref.result.now),
      c.depth_of.ensures.bound,
      s.key_bound,
    )

pub overflow_add-from : goal.overflow_add-from
overflow_add-from c =
    let table = view_of c.args.parts.now in
    let l = c.loop-trie in
    let s = shaped table c.requires in
    let lt : l.trie < length table.roots = omega (
      arith,
      c.loop-trie-test.true,
      ap (λ (xs : List ℕ). length xs) c.deref-root-items.ensures.value,
    ) in
    let lt_kept : l.trie < length table.kept = omega (arith, s.same) in
    let end = l.first + c.depth_of.result in
    let ends = ap (λ (d : ℕ). l.first + d) c.depth_of.ensures.value
    ∙ ap (λ (kept : ℕ). l.first + depth_of table.key_len kept)
    (get_or_read table.kept _ _ lt_kept c.index.ensures 0) in
    let t = turn table l.trie l.first l.from end lt_kept ends l.invariant.0 in
    omega (arith, rw c.deref.ensures.value at c.sum_of-from.ensures.value, t.fits, s.small)

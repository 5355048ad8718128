use Rattle.std.proofs.Common.{ℕ, ◌+◌, ◌-◌, drop, get_or, length-take, sym, ◌∙◌, arith}
use Rattle.std.proofs.lemmas.Option.{IfSome_then}
use Rattle.flat_table.proofs.Unsound.{words_here, level_here, no_level_here}
use Rattle.flat_table.proofs.sound.unsound_word.Goals as goal

pub overflow_add-end : goal.overflow_add-end
overflow_add-end c =
    let l = c.loop-depth in
    omega (arith, words_here l.depth c.args.lens.now c.loop-depth-test.true, l.invariant.1, c.requires.few)

pub unsound_in_level-place-requires-clause-next : goal.unsound_in_level-place-requires-clause-next
unsound_in_level-place-requires-clause-next c =
    let l = c.loop-depth in
    omega (
      arith,
      c.first-next.ensures.bound,
      words_here l.depth c.args.lens.now c.loop-depth-test.true,
      l.invariant.1,
      c.requires.few,
    )

pub unsound_in_level-place-requires-clause-from : goal.unsound_in_level-place-requires-clause-from
unsound_in_level-place-requires-clause-from c =
    let l = c.loop-depth in
    let len : ℕ = get_or c.args.lens.now l.depth 0 in
    omega (
      arith,
      length-take (l.from + len - l.from) (drop l.from c.args.words.now),
      words_here l.depth c.args.lens.now c.loop-depth-test.true,
      l.invariant.1,
      c.requires.few,
    )

pub returns-then-is_some-clause-place : goal.returns-then-is_some-clause-place
returns-then-is_some-clause-place c =
    let l = c.loop-depth in
    level_here c.args.rows c.args.words.now c.args.lens.now l.depth l.from c.loop-depth-test.true c.first-next.result
    c.first-next.ensures.level c.unsound_in_level-place.result _ c.unsound_in_level-place.ensures.place l.invariant.0
    (sym c.is_some.ensures ∙ c.if-is_some.true)

pub returns-then-is_some-clause-bound : goal.returns-then-is_some-clause-bound
returns-then-is_some-clause-bound c =
    let l = c.loop-depth in
    let len : ℕ = get_or c.args.lens.now l.depth 0 in
    IfSome_then c.unsound_in_level-place.result c.unsound_in_level-place.ensures.bound (λ place below. omega (
      arith,
      below,
      length-take (l.from + len - l.from) (drop l.from c.args.words.now),
      words_here l.depth c.args.lens.now c.loop-depth-test.true,
      l.invariant.1,
    ))

pub loop-depth-preserved : goal.loop-depth-preserved
loop-depth-preserved c =
    let l = c.loop-depth in (
      no_level_here c.args.rows c.args.words.now c.args.lens.now l.depth l.from c.loop-depth-test.true
          c.first-next.result c.first-next.ensures.level c.unsound_in_level-place.result _
          c.unsound_in_level-place.ensures.place l.invariant.0 (sym c.is_some.ensures ∙ c.if-is_some.false),
      omega (arith, words_here l.depth c.args.lens.now c.loop-depth-test.true, l.invariant.1),
    )

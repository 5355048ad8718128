use Rattle.std.proofs.Common.{◌≡◌, ◌<◌, false, arith}
use Rattle.list_lemmas.proofs.Agreeing.{next_before, next_after, next_low, next_inside, next_high}
use Rattle.node_expand.proofs.Changes.{alike_marks}
use Rattle.node_expand.proofs.allowed.last_between.Goals as goal

pub returns-then-byte-low : goal.returns-then-byte-low
returns-then-byte-low c = alike_marks _ _ _ _ _ _ c.requires (omega arith)
    (next_before _ _ _ _ _ c.requires (omega arith) c.if-byte-low.true)

pub returns-then-high-byte : goal.returns-then-high-byte
returns-then-high-byte c = alike_marks _ _ _ _ _ _ c.requires (omega arith)
    (next_after _ _ _ _ _ c.requires (omega arith) c.if-high-byte.true (omega arith))

pub returns-then-low_inner : goal.returns-then-low_inner
returns-then-low_inner c = alike_marks _ _ _ _ _ _ c.requires (omega arith)
    (next_low _ _ _ _ _ c.requires (omega arith) c.if-byte-low-2.true c.if-low-high.true c.if-low_inner.true)

pub returns-then-high_inner : goal.returns-then-high_inner
returns-then-high_inner c =
    let free : c.args.byte ≡ c.args.low → c.args.low_inner ≡ false = λ is. grind arith in
    alike_marks _ _ _ _ _ _ c.requires (omega arith) (next_inside _ _ _ _ _ c.requires (omega arith)
    c.if-byte-low.false c.if-byte-high.true c.if-high_inner.true free)

pub returns : goal.returns
returns c =
    let free : c.args.byte ≡ c.args.low → c.args.low < c.args.high → c.args.low_inner ≡ false =
    λ is below. grind arith in
    let ends : c.args.byte < c.args.high → c.args.high_inner ≡ false = λ below. grind arith in
    alike_marks _ _ _ _ _ _ c.requires (omega arith) (next_high _ _ _ _ _ c.requires (omega arith)
    c.if-byte-low.false c.if-high-byte.false ends free)

-- A block that a span takes neither wholly nor not at all has two halves.
use Rattle.std.proofs.Common.{◌++◌, ◌^◌, ◌-◌, ◌+◌, sym, ap, ◌∙◌, arith}
use Rattle.std.proofs.lemmas.List.{append_assoc}
use Rattle.std.proofs.lemmas.Nat.{pow_pos}
use Rattle.std.proofs.lemmas.Result.{on_ok_weaker}
use Rattle.list_chains.specs.Values.{block, blocks_of}
use Rattle.list_chains.proofs.Halves.{blocks_both, some_free, power_half}
use Rattle.list_chains.proofs.values.+put_blocks.Goals as goal

pub put_blocks-requires : goal.put_blocks-requires
put_blocks-requires t c =
    let some = some_free c.args.free c.args.base c.args.span (sym c.takes_all.ensures ∙ c.if-takes_all.false)
    (sym c.takes_none.ensures ∙ c.if-takes_none.false) in
    let half = power_half c.args.free some in
    let within = c.requires.free in
    let fits = c.requires.base in
    (omega (arith, c.decreases, some), (c.requires.bits, (omega (arith, within), omega (arith, fits, half))))

pub next_base-requires-clause-free : goal.next_base-requires-clause-free
next_base-requires-clause-free t c =
    let within = c.requires.free in let bits = c.requires.bits in omega (arith, within, bits)

pub next_base-requires-clause-base : goal.next_base-requires-clause-base
next_base-requires-clause-base t c =
    let some = some_free c.args.free c.args.base c.args.span (sym c.takes_all.ensures ∙ c.if-takes_all.false)
    (sym c.takes_none.ensures ∙ c.if-takes_none.false) in
    let half = power_half c.args.free some in
    let fits = c.requires.base in
    let one = pow_pos (c.args.free - 1) in
    omega (arith, fits, half, one)

pub put_blocks-requires-2 : goal.put_blocks-requires-2
put_blocks-requires-2 t c =
    let some = some_free c.args.free c.args.base c.args.span (sym c.takes_all.ensures ∙ c.if-takes_all.false)
    (sym c.takes_none.ensures ∙ c.if-takes_none.false) in
    let half = power_half c.args.free some in
    let within = c.requires.free in
    let fits = c.requires.base in
    let next = c.next_base.ensures in
    (omega (arith, c.decreases, some), (c.requires.bits, (omega (arith, within), omega (arith, fits, half, next))))

pub returns : goal.returns
returns t c =
    let value = block c.args.kind c.args.bits in
    let free = c.args.free in
    let both = blocks_both value free c.args.base c.args.span (sym c.takes_all.ensures ∙ c.if-takes_all.false)
    (sym c.takes_none.ensures ∙ c.if-takes_none.false) in
    let first = blocks_of value (free - 1) c.args.base c.args.span in
    on_ok_weaker c.put_blocks-2.result (λ d.
    d
    ∙ (λ i. c.in_ok-put_blocks.ensures i ++ blocks_of value (free - 1) (c.next_base.ensures i) c.args.span)
    ∙ append_assoc c.args.into.now.items first (blocks_of value (free - 1) (c.args.base + 2 ^ (free - 1)) c.args.span)
    ∙ ap (λ blocks. c.args.into.now.items ++ blocks) (sym both)) c.put_blocks-2.ensures

-- The bits that are left have the spans of their first one's two values, or of one of them.
use Rattle.std.proofs.Common.{◌++◌, ◌^◌, ◌-◌, bit_or, sym, ap, ◌∙◌, arith, rules}
use Rattle.std.proofs.lemmas.List.{append_assoc}
use Rattle.std.proofs.lemmas.Result.{on_ok_weaker}
use Rattle.cisco_reader.specs.Wildcard.{spans_from}
use Rattle.cisco_reader.proofs.Masks.{spans_none, spans_whole, spans_one, spans_both}
use Rattle.cisco_reader.proofs.wildcard.+put_spans.Goals as goal

pub returns-then-bits-eq0 : goal.returns-then-bits-eq0
returns-then-bits-eq0 t c =
    let none = ap (λ bits. spans_from bits c.args.base c.args.free) c.if-bits-eq0.true
    ∙ spans_none c.args.base c.args.free in
    rw none (search rules)

pub returns-then-is_free : goal.returns-then-is_free
returns-then-is_free t c =
    rw (spans_whole c.args.bits c.args.base c.args.free (omega (arith, c.if-bits-eq0.false))
    (sym c.is_free.ensures ∙ c.if-is_free.true)) (search rules)

pub returns-then-counts : goal.returns-then-counts
returns-then-counts t c =
    c.in_ok-put_spans.ensures
    ∙ ap (λ spans. c.args.into.now.items ++ spans)
    (sym (spans_one c.args.bits c.args.base c.args.free (omega (arith, c.if-bits-eq0.false))
    (sym c.is_free.ensures ∙ c.if-is_free.false) (sym c.counts.ensures ∙ c.if-counts.true)))

pub returns : goal.returns
returns t c =
    let bit = c.args.bits - 1 in
    let both = spans_both c.args.bits c.args.base c.args.free (omega (arith, c.if-bits-eq0.false))
    (sym c.is_free.ensures ∙ c.if-is_free.false) (sym c.counts.ensures ∙ c.if-counts.false) in
    let first = spans_from bit c.args.base c.args.free in
    on_ok_weaker c.put_spans-2.result (λ d.
    d
    ∙ (λ i. c.in_ok-put_spans.ensures i ++ spans_from bit (bit_or c.args.base (c.power.ensures.is i)) c.args.free)
    ∙ append_assoc c.args.into.now.items first (spans_from bit (bit_or c.args.base (2 ^ bit)) c.args.free)
    ∙ ap (λ spans. c.args.into.now.items ++ spans) (sym both)) c.put_spans-2.ensures

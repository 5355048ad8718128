-- What two boxes have in common, span by span.
use Rattle.std.proofs.Common.{List, ◌++◌, sym, ap, ◌∙◌}
use Rattle.std.specs.Option.{option_map}
use Rattle.list_chains.specs.declared.span.Span.{Span}
use Rattle.list_chains.specs.Spans.{box_meet}
use Rattle.list_chains.proofs.Meets.{differ, no_more, from_none}
use Rattle.list_chains.proofs.span.meet_spans.Goals as goal

pub returns-then-ones-others : goal.returns-then-ones-others
returns-then-ones-others c = sym (differ c.args.ones.now c.args.others.now c.if-ones-others.true)

pub loop-place-init : goal.loop-place-init
loop-place-init c = (
  rw c.new-spans.ensures.items (from_none (box_meet c.args.ones.now c.args.others.now)),
  c.if-ones-others.false,
)

pub returns-then-span : goal.returns-then-span
returns-then-span c =
    let same = c.loop-place.invariant in
    sym (same.0 ∙ ap (λ r. option_map (λ (rest : List Span). c.loop-place.spans.items ++ rest) r)
    (no_more c.args.ones.now c.args.others.now c.loop-place.place c.common-span.result c.loop-place-test.true same.1
    c.common-span.ensures c.if-span.true))

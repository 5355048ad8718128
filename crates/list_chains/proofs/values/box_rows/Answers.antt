-- The rows of a box, from its last span on.
use Rattle.std.proofs.Common.{◌≡◌, ◌++◌, ◌-◌, List, [], ◌∷◌, length, ap, ◌∙◌, arith}
use Rattle.list_lemmas.proofs.Elements.{length-AllZip}
use Rattle.list_lemmas.proofs.Passing.{AllZip-place}
use Rattle.field_defs.specs.declared.field.FieldValue.{FieldValue}
use Rattle.list_chains.specs.Spans.{IsFieldSpan}
use Rattle.list_chains.specs.Values as spec
use Rattle.list_chains.proofs.LawfulRows.{rows_some}
use Rattle.list_chains.proofs.Meets.{zero_span}
use Rattle.list_chains.proofs.RowSteps.{rows_at_end, more_rows, rows_above}
use Rattle.list_chains.proofs.values.box_rows.Goals as goal

pub returns-then-most-eq0 : goal.returns-then-most-eq0
returns-then-most-eq0 c =
    let some = rows_some c.args.defs.now c.args.spans.now c.requires.spans in
    omega (arith, some, c.if-most-eq0.true)

pub loop-gone-init : goal.loop-gone-init
loop-gone-init c =
    let is : c.push.new.self.items ≡ [] ∷ [] =
    c.in_ok-push.ensures.items ∙ (λ i. c.new-rows.ensures.items i ++ c.none.ensures i ∷ []) in
    let one = ap (λ (rows : List (List FieldValue)). length rows) is in
    (is ∙ rows_at_end c.args.defs.now c.args.spans.now c.requires.spans, omega (arith, one, c.if-most-eq0.false))

pub bounds-spans-place : goal.bounds-spans-place
bounds-spans-place c =
    let same = length-AllZip IsFieldSpan c.args.defs.now c.args.spans.now c.requires.spans in
    omega (arith, same, c.loop-gone-test.true)

pub span_values-requires : goal.span_values-requires
span_values-requires c =
    let same = length-AllZip IsFieldSpan c.args.defs.now c.args.spans.now c.requires.spans in
    (AllZip-place IsFieldSpan c.args.defs.now c.args.spans.now (length c.args.defs.now - 1 - c.loop-gone.gone) _
    zero_span c.requires.spans (omega (arith, same, c.loop-gone-test.true))).size

pub returns-in-None : goal.returns-in-None
returns-in-None c =
    let layout = c.args.defs.now in
    let said = rw c.in-None.is at c.in_ok-more.ensures in
    rows_above layout c.args.spans.now c.loop-gone.gone c.args.most
    (spec.each_before c.deref.result.now c.deref-in-loop-gone.result.now) c.requires.spans
    (more_rows layout c.args.spans.now c.loop-gone.gone _ zero_span c.deref.result.now c.deref-in-loop-gone.result.now
    c.requires.spans c.loop-gone-test.true (c.deref.ensures.value ∙ c.in_ok-values.ensures)
    (c.deref-in-loop-gone.ensures.value ∙ c.loop-gone.invariant.0)) said

pub loop-gone-preserved : goal.loop-gone-preserved
loop-gone-preserved c =
    let layout = c.args.defs.now in
    let said = rw c.in-Some.is at c.in_ok-more.ensures in (
      said.0 ∙ more_rows layout c.args.spans.now c.loop-gone.gone _ zero_span c.deref.result.now
          c.deref-in-loop-gone.result.now c.requires.spans c.loop-gone-test.true
          (c.deref.ensures.value ∙ c.in_ok-values.ensures)
          (c.deref-in-loop-gone.ensures.value ∙ c.loop-gone.invariant.0),
      said.1,
    )

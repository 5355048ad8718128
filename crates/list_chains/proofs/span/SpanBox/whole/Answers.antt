-- The fields of a layout have sizes that fields may have, and so their spans are lawful.
use Rattle.std.proofs.Common.{List, length, sym, ap, subst, arith}
use Rattle.std.specs.List.{AllZip}
use Rattle.std.proofs.lemmas.List.Sums.{AllPass-from_list_all}
use Rattle.list_lemmas.proofs.Loops.{mapped_all}
use Rattle.field_defs.specs.declared.field.FieldDef.{FieldDef}
use Rattle.field_defs.specs.FieldBounds.{is_size}
use Rattle.field_defs.proofs.Offered.{lawful_sizes}
use Rattle.list_chains.specs.Spans.{IsFieldSpan}
use Rattle.list_chains.proofs.WholeBoxes.{whole_fits}
use Rattle.list_chains.proofs.span.SpanBox.whole.Goals as goal

pub whole_span-requires : goal.whole_span-requires
whole_span-requires c =
    AllPass-from_list_all (λ (def : FieldDef). is_size def.size) c.fields-def-items.result.now
    (rw c.fields-def-items.ensures.fields (lawful_sizes c.args.layout.now c.fields-def-items.ensures.lawful))
    c.loop-def.def-index _ c.loop-def-test.true

pub returns-clause-fits : goal.returns-clause-fits
returns-clause-fits c =
    let layout = c.args.layout.now in
    let many = ap (λ (defs : List FieldDef). length defs) c.fields-def-items.ensures.fields in
    subst (AllZip IsFieldSpan layout)
    (sym (mapped_all c.loop-def.invariant (omega (arith, c.loop-def-test.false, many))))
    (whole_fits layout (lawful_sizes layout c.fields-def-items.ensures.lawful))

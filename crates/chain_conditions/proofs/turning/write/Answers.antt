-- The rows of a box are lawful, and written if there is room.
use Rattle.std.proofs.Common.{◌≡◌, List, length, sym, ap, subst, ◌∙◌, refl, arith}
use Rattle.std.specs.List.{AllByRecursion, AllZip}
use Rattle.std.proofs.lemmas.List.Elements.{All-from_recursion}
use Rattle.field_defs.specs.declared.field.FieldValue.{FieldValue}
use Rattle.field_defs.specs.declared.field.FieldDef.{FieldDef}
use Rattle.rule_set.specs.Lawful.{IsLawfulValue}
use Rattle.list_chains.specs.Spans.{IsFieldSpan}
use Rattle.list_chains.specs.Values as spec
use Rattle.list_chains.proofs.Offered.{rows_lawful}
use Rattle.chain_conditions.specs.Marked.{unmarked_spans}
use Rattle.chain_conditions.proofs.Turnings.{rows_written, unmarked_fit}
use Rattle.chain_conditions.proofs.turning.write.Goals as goal

pub box_rows-requires-clause-spans : goal.box_rows-requires-clause-spans
box_rows-requires-clause-spans c =
    let fits = unmarked_fit c.args.turning.now.set.layout c.args.within c.requires.spans in
    subst (λ (fields : List FieldDef). AllZip IsFieldSpan fields c.unmarked-spans.result.now)
    (sym (c.fields.ensures.fields ∙ c.layout.ensures))
    (subst (AllZip IsFieldSpan c.args.turning.now.set.layout) (sym c.unmarked-spans.ensures) fits)

pub put_rows-requires-clause-lawful : goal.put_rows-requires-clause-lawful
put_rows-requires-clause-lawful c k d below =
    let layout = c.args.turning.now.set.layout in
    let said = rw c.in-Some.is at c.in_ok-rows.ensures in
    let is : c.deref.result.now ≡ spec.box_rows layout (unmarked_spans c.args.within) =
    c.deref.ensures.value ∙ said.0
    ∙ (λ i. spec.box_rows ((c.fields.ensures.fields ∙ c.layout.ensures) i) (c.unmarked-spans.ensures i)) in
    All-from_recursion (AllZip IsLawfulValue layout) c.deref.result.now
    (subst (AllByRecursion (AllZip IsLawfulValue layout)) (sym is)
    (rows_lawful layout (unmarked_spans c.args.within) (unmarked_fit layout c.args.within c.requires.spans)))
    k d below

pub returns : goal.returns
returns c =
    let layout = c.args.turning.now.set.layout in
    let said = rw c.in-Some.is at c.in_ok-rows.ensures in
    let is : c.deref.result.now ≡ spec.box_rows layout (unmarked_spans c.args.within) =
    c.deref.ensures.value ∙ said.0
    ∙ (λ i. spec.box_rows ((c.fields.ensures.fields ∙ c.layout.ensures) i) (c.unmarked-spans.ensures i)) in
    let many = ap (λ (rows : List (List FieldValue)). length rows) c.deref.ensures.value in
    let within = said.1 in
    rows_written c.args.turning.now _ c.args.mask c.args.userdata c.args.within c.deref.result.now c.requires.kept is
    (omega (arith, many, within, c.len-room.ensures)) c.in_ok-put_rows.ensures.layout c.in_ok-put_rows.ensures.rules
    c.keep_sure.ensures refl

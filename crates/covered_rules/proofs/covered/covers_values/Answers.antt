use Rattle.std.proofs.Common.{◌&&◌, ◌+◌, drop, sym, ap, ◌∙◌, arith}
use Rattle.field_defs.specs.declared.field.FieldDef.{FieldDef}
use Rattle.field_defs.specs.FieldBounds.{CanMatch}
use Rattle.list_lemmas.proofs.Elements.{length-AllZip}
use Rattle.covered_rules.specs.Covered.{covers_values}
use Rattle.covered_rules.proofs.Asking.{covers_values-drop, covers_values-drop_all}
use Rattle.covered_rules.proofs.Fields.{can_match_at}
use Rattle.covered_rules.proofs.covered.covers_values.Goals as goal

pub offset_bounds-values-place : goal.offset_bounds-values-place
offset_bounds-values-place c =
    omega (
      arith,
      length-AllZip (λ (def : FieldDef) value. CanMatch value def.size) c.args.defs.now c.args.values.now
          c.requires.values,
      c.loop-place-test.true,
    )

pub offset_bounds-others-place : goal.offset_bounds-others-place
offset_bounds-others-place c =
    omega (
      arith,
      length-AllZip (λ (def : FieldDef) value. CanMatch value def.size) c.args.defs.now c.args.others.now
          c.requires.others,
      c.loop-place-test.true,
    )

pub bounds-values-place : goal.bounds-values-place
bounds-values-place c =
    omega (
      arith,
      length-AllZip (λ (def : FieldDef) value. CanMatch value def.size) c.args.defs.now c.args.values.now
          c.requires.values,
      c.loop-place-test.true,
    )

pub bounds-others-place : goal.bounds-others-place
bounds-others-place c =
    omega (
      arith,
      length-AllZip (λ (def : FieldDef) value. CanMatch value def.size) c.args.defs.now c.args.others.now
          c.requires.others,
      c.loop-place-test.true,
    )

pub covers_value-requires-clause-value : goal.covers_value-requires-clause-value
covers_value-requires-clause-value c =
    can_match_at c.args.defs.now c.args.values.now c.loop-place.place _ _ c.requires.values c.loop-place-test.true

pub covers_value-requires-clause-other : goal.covers_value-requires-clause-other
covers_value-requires-clause-other c =
    can_match_at c.args.defs.now c.args.others.now c.loop-place.place _ _ c.requires.others c.loop-place-test.true

pub loop-place-preserved : goal.loop-place-preserved
loop-place-preserved c =
    let defs = c.args.defs.now in
    let values = c.args.values.now in
    let others = c.args.others.now in
    let i = c.loop-place.place in
    let there = length-AllZip (λ (def : FieldDef) value. CanMatch value def.size) defs values c.requires.values in
    let too = length-AllZip (λ (def : FieldDef) value. CanMatch value def.size) defs others c.requires.others in
    c.loop-place.invariant
    ∙ covers_values-drop defs values i _ _ c.loop-place-test.true (omega (arith, there, c.loop-place-test.true))
    others _ (omega (arith, too, c.loop-place-test.true))
    ∙ ap (λ here. here && covers_values (drop (i + 1) defs) (drop (i + 1) values) (drop (i + 1) others))
    (sym c.covers_value.ensures ∙ c.if-not-covers_value.false)

pub returns : goal.returns
returns c =
    let defs = c.args.defs.now in
    let values = c.args.values.now in
    let others = c.args.others.now in
    let there = length-AllZip (λ (def : FieldDef) value. CanMatch value def.size) defs values c.requires.values in
    let too = length-AllZip (λ (def : FieldDef) value. CanMatch value def.size) defs others c.requires.others in
    sym (c.loop-place.invariant ∙ covers_values-drop_all defs values others c.loop-place.place
    (omega (arith, c.loop-place-test.false)) (omega (arith, there, c.loop-place-test.false))
    (omega (arith, too, c.loop-place-test.false)))

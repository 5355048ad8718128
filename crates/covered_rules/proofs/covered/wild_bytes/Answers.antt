use Rattle.std.proofs.Common.{◌<◌, length, get_or, sym, ◌∙◌, true, false, arith}
use Rattle.field_defs.specs.declared.field.FieldDef.{FieldDef}
use Rattle.field_defs.specs.FieldBounds.{CanMatch}
use Rattle.field_defs.proofs.Offered.{size_at_most_8}
use Rattle.list_lemmas.proofs.Elements.{length-AllZip}
use Rattle.covered_rules.proofs.Asking.{no_field, no_value, wild_bytes-more}
use Rattle.covered_rules.proofs.Fields.{can_match_at}
use Rattle.covered_rules.proofs.covered.wild_bytes.Goals.{then-is_wild, else-is_wild}
use Rattle.covered_rules.proofs.covered.wild_bytes.Goals as goal

pub bounds-values-place : goal.bounds-values-place
bounds-values-place c =
    omega (
      arith,
      length-AllZip (λ (def : FieldDef) value. CanMatch value def.size) c.args.defs.now c.args.values.now
          c.requires.values,
      c.loop-place-test.true,
    )

pub is_wild-requires : goal.is_wild-requires
is_wild-requires c =
    can_match_at c.args.defs.now c.args.values.now c.loop-place.place _ _ c.requires.values c.loop-place-test.true

pub loop-place-preserved : goal.loop-place-preserved
loop-place-preserved c =
    let defs = c.args.defs.now in
    let values = c.args.values.now in
    let i = c.loop-place.place in
    let here : i < length defs = c.loop-place-test.true in
    let there : i < length values =
    omega (
      arith,
      length-AllZip (λ (def : FieldDef) value. CanMatch value def.size) defs values c.requires.values,
      here,
    ) in
    let can = can_match_at defs values i no_field no_value c.requires.values here in
    let small = size_at_most_8 (get_or defs i no_field).size can.lawful_size in
    elim c.if-is_wild.branch [
      | then-is_wild w ↦
          let step = wild_bytes-more defs values i no_field no_value here there true
          (sym c.is_wild.ensures.test ∙ w.if-is_wild.true) in (
            omega (arith, c.loop-place.invariant.0, step, w.bytes-is, w.from-bytes.ensures),
            omega (arith, c.loop-place.invariant.1, small, w.bytes-is, w.from-bytes.ensures),
          )
      | else-is_wild w ↦
          let step = wild_bytes-more defs values i no_field no_value here there false
          (sym c.is_wild.ensures.test ∙ w.if-is_wild.false) in (
            omega (arith, c.loop-place.invariant.0, step, w.bytes-is),
            omega (arith, c.loop-place.invariant.1, w.bytes-is),
          )
    ]

use Rattle.std.proofs.Common.{◌≡◌, IsTrue, sym, subst}
use Rattle.field_defs.specs.declared.field.FieldValue.TheVariants.{Range}
use Rattle.field_defs.specs.FieldBounds.{is_range_filled, is_wild}
use Rattle.node_expand.specs.Rest.{as_range}
use Rattle.node_expand.proofs.EdgeRests.{as_its_range}
use Rattle.node_expand.proofs.expand.as_range.Goals as goal
use Rattle.node_expand.proofs.expand.as_range.Goals.{After-mask_ends-first}

-- the two ends are those of the range that the value is
made : (c : After-mask_ends-first) → Range c.mask_ends-first.result.0 c.mask_ends-first.result.1
    ≡ as_range c.args.value.now c.args.size
made c = rw (c.in-Mask.is, c.mask_ends-first.ensures.low, c.mask_ends-first.ensures.high)

pub returns-in-Mask-clause-lawful : goal.returns-in-Mask-clause-lawful
returns-in-Mask-clause-lawful c = rw (made c) ((as_its_range c.args.value.now c.args.size).lawful c.requires)

pub returns-in-Mask-clause-filled : goal.returns-in-Mask-clause-filled
returns-in-Mask-clause-filled c = λ filled.
    subst (λ value. IsTrue (is_range_filled value)) (sym (made c))
    ((as_its_range c.args.value.now c.args.size).filled filled)

pub returns-in-Mask-clause-wild : goal.returns-in-Mask-clause-wild
returns-in-Mask-clause-wild c =
    subst (λ value. is_wild value c.args.size ≡ is_wild c.args.value.now c.args.size) (sym (made c))
    ((as_its_range c.args.value.now c.args.size).wild c.requires)

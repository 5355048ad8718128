use Rattle.std.proofs.Common.{false, arith, subst, sym}
use Rattle.node_expand.specs.declared.allowed.Allowed.TheVariants.{Between, Agreeing}
use Rattle.node_expand.specs.Edges.{AnswersAlike}
use Rattle.node_expand.specs.Allowed.{answer_of}
use Rattle.node_expand.proofs.Changes.{whole_mask, no_mask}
use Rattle.node_expand.proofs.Changes.{stays_alike}
use Rattle.node_expand.proofs.allowed.last_masked.Goals as goal

pub returns-then-mask-eq255 : goal.returns-then-mask-eq255
returns-then-mask-eq255 c =
    let value = c.args.value in
    subst (λ mask. AnswersAlike (answer_of (Agreeing value mask)) c.args.byte c.last_between.result)
    (sym c.if-mask-eq255.true)
    (stays_alike (answer_of (Between value value false false)) (answer_of (Agreeing value 255)) c.args.byte
    c.last_between.result (whole_mask value) c.last_between.type_inv c.last_between.ensures)

pub returns-then-mask-eq0 : goal.returns-then-mask-eq0
returns-then-mask-eq0 c =
    subst (λ mask. AnswersAlike (answer_of (Agreeing c.args.value mask)) c.args.byte 255) (sym c.if-mask-eq0.true)
    (no_mask c.args.value c.args.byte (omega arith))

pub returns : goal.returns
returns c = rw (← c.into.ensures, ← c.into-2.ensures, ← c.into-3.ensures) c.last_agreeing.ensures

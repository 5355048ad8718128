use Rattle.std.proofs.Common.{false, arith, get_or, ◌∙◌}
use Rattle.node_expand.specs.declared.allowed.Allowed.TheVariants.{Agreeing}
use Rattle.node_expand.specs.Edges.{is_change}
use Rattle.node_expand.specs.Allowed.{answer_of}
use Rattle.node_expand.proofs.Changes.{unchanged_outside}
use Rattle.node_expand.proofs.allowed.mark_agreeing.Goals as goal
use Rattle.list_lemmas.proofs.Tests.{marked_more, marked_none, marked_all}

pub loop-byte-init : goal.loop-byte-init
loop-byte-init c = λ place within. marked_none (is_change (answer_of (Agreeing c.args.value c.args.mask)))
    c.max-byte.result place (get_or c.args.marks.now place false)
    (λ before. unchanged_outside _ c.args.first c.args.last place c.requires.ends within (λ a b d. omega arith))

pub loop-byte-preserved : goal.loop-byte-preserved
loop-byte-preserved c = λ place within.
    c.mark_where.ensures place within
    ∙ rw (c.turns.ensures, c.loop-byte.invariant place within)
    (marked_more (is_change (answer_of (Agreeing c.args.value c.args.mask))) c.loop-byte.byte place
    (get_or c.args.marks.now place false))

pub returns : goal.returns
returns c = λ place within.
    c.loop-byte.invariant place within
    ∙ marked_all (is_change (answer_of (Agreeing c.args.value c.args.mask))) c.loop-byte.byte place
    (get_or c.args.marks.now place false)
    (λ after. unchanged_outside _ c.args.first c.args.last place c.requires.ends within (λ a b d. omega arith))

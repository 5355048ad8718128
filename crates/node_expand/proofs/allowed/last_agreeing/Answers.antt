use Rattle.std.proofs.Common.{◌≡◌, ◌+◌, ◌-◌, sym, ◌∙◌, ap, inl, inr, arith}
use Rattle.std.proofs.lemmas.Bool.{cases_eq}
use Rattle.node_expand.specs.declared.allowed.Allowed.TheVariants.{Agreeing}
use Rattle.node_expand.specs.Edges.{is_change}
use Rattle.node_expand.specs.Allowed.{answer_of}
use Rattle.node_expand.proofs.Changes.{alike_until}
use Rattle.node_expand.proofs.allowed.last_agreeing.Goals as goal

pub loop-byte-init : goal.loop-byte-init
loop-byte-init c = λ byte above below. absurd (omega (arith, above, below))

pub loop-byte-preserved : goal.loop-byte-preserved
loop-byte-preserved c = λ byte above below. elim (cases_eq byte c.loop-byte.byte) [
  | inl is ↦
      ap (is_change (answer_of (Agreeing c.args.value c.args.mask))) is ∙ sym c.turns.ensures ∙ c.if-turns.false
  | inr other ↦ c.loop-byte.invariant byte above (omega (arith, below, other))
]

pub returns-then-turns : goal.returns-then-turns
returns-then-turns c =
    let answer = answer_of (Agreeing c.args.value c.args.mask) in
    let next : c.loop-byte.byte - 1 + 1 ≡ c.loop-byte.byte = omega arith in
    alike_until answer c.args.first (c.loop-byte.byte - 1) (omega arith)
    (λ byte above below. c.loop-byte.invariant byte above (omega arith))
    (λ more. ap (is_change answer) next ∙ sym c.turns.ensures ∙ c.if-turns.true)

pub returns : goal.returns
returns c =
    alike_until (answer_of (Agreeing c.args.value c.args.mask)) c.args.first 255 (omega arith)
    (λ byte above below. c.loop-byte.invariant byte above (omega arith))
    (λ more. absurd (omega (arith, more)))

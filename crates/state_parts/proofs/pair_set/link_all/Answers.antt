use Rattle.std.proofs.Common.{◌∙◌, refl, ap, subst, length, arith}
use Rattle.std.proofs.lemmas.List.{take_all, length-map}
use Rattle.state_parts.specs.Buckets.{pair_in, AreLinked}
use Rattle.state_parts.proofs.pair_set.link_all.Goals as goal

pub loop-place-init : goal.loop-place-init
loop-place-init c = (c.requires.empty, refl, refl)

pub link-requires-clause-before : goal.link-requires-clause-before
link-requires-clause-before c = c.loop-place.invariant.0

pub loop-place-preserved : goal.loop-place-preserved
loop-place-preserved c =
    let i = c.loop-place.invariant in
    let long = ap length c.link.ensures.same in (
      c.link.ensures.linked,
      c.link.ensures.same ∙ i.1,
      omega (arith, long, i.2, length-map c.loop-place.all pair_in, length-map c.link.new.all pair_in),
    )

pub returns-clause-linked : goal.returns-clause-linked
returns-clause-linked c =
    subst (λ all. AreLinked all c.loop-place.heads)
    (take_all c.loop-place.place c.loop-place.all (omega (arith, c.loop-place-test.false, c.loop-place.invariant.2)))
    c.loop-place.invariant.0

pub returns-clause-same : goal.returns-clause-same
returns-clause-same c = c.loop-place.invariant.1

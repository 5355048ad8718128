-- The way goes on to the chain that the rule leads to.
use Rattle.std.proofs.Common.{◌≡◌, ◌-◌, ◌+◌, length, sym, ap, ◌∙◌, arith}
use Rattle.list_chains.specs.Jumps.{bad_chain, way}
use Rattle.list_chains.proofs.Ways.{way_goes_on}
use Rattle.list_chains.proofs.jumps.way.Goals as goal

pub loop-preserved : goal.loop-preserved
loop-preserved c =
    let chains = c.args.chains.now in
    let marks = c.args.marks.now in
    let count = length chains in
    let leads = sym (ap (bad_chain marks) c.rules_of.ensures) ∙ sym c.bad_step-rule.ensures.chain ∙ c.in-Some.is in
    let within = c.if-next-chains.false in
    let less : count - c.loop.counter - 1 ≡ count - (c.loop.counter + 1) = omega arith in (
      omega (arith, within),
      sym (way_goes_on (count - c.loop.counter) chains marks c.loop.chain c.in-Some.next
          (omega (arith, c.loop-test.true)) leads (omega (arith, within))
          ∙ ap (λ turns. way turns chains marks c.in-Some.next) less)
          ∙ c.loop.invariant.1,
    )

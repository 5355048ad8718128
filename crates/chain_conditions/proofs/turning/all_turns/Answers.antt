-- All steps, or as many as are made.
use Rattle.std.proofs.Common.{◌≡◌, ◌-◌, suc, length, sym, ap, subst, ◌∙◌, arith}
use Rattle.table_sizes.specs.Sizes.{max_rules}
use Rattle.list_chains.specs.Made.{rules_before}
use Rattle.chain_conditions.specs.Kinds.{masks_of}
use Rattle.chain_conditions.specs.Turned.{Turns, left_made}
use Rattle.chain_conditions.proofs.Turnings.{made_end}
use Rattle.chain_conditions.proofs.turning.all_turns.Goals as goal

pub returns-in-Done : goal.returns-in-Done
returns-in-Done c =
    let masks = masks_of c.args.kinds.now in
    let chains = c.args.chains.now in
    let policy = c.args.policy in
    let old = c.loop-left.turning in
    let it = subst (Turns masks chains policy old c.one_turn.new.turning) c.in-Done.is c.in_ok-one_turn.ensures in
    let one_less : c.loop-left.left ≡ suc (c.loop-left.left - 1) = omega (arith, c.loop-left-test.true) in (
      it.layout ∙ c.loop-left.invariant.1,
      sym c.loop-left.invariant.2 ∙ ap (λ n. left_made masks chains policy n old) one_less ∙ it.is
          (c.loop-left.left - 1),
    )

pub returns-in-Full : goal.returns-in-Full
returns-in-Full c =
    let masks = masks_of c.args.kinds.now in
    let chains = c.args.chains.now in
    let policy = c.args.policy in
    let old = c.loop-left.turning in
    let it = subst (Turns masks chains policy old c.one_turn.new.turning) c.in-Full.is c.in_ok-one_turn.ensures in
    let one_less : c.loop-left.left ≡ suc (c.loop-left.left - 1) = omega (arith, c.loop-left-test.true) in
    sym c.loop-left.invariant.2 ∙ ap (λ n. left_made masks chains policy n old) one_less ∙ it.is (c.loop-left.left - 1)

pub returns : goal.returns
returns c =
    let old = c.loop-left.turning in
    let none : c.loop-left.left ≡ 0 = omega (arith, c.loop-left-test.false) in
    sym c.loop-left.invariant.2
    ∙ ap (λ n. left_made (masks_of c.args.kinds.now) c.args.chains.now c.args.policy n old) none
    ∙ ap (rules_before old.set.rules)
    (made_end old.set.layout (masks_of c.args.kinds.now) c.args.chains.now c.args.policy
    (max_rules - length old.set.rules) old.last old.tasks)

-- Each state adds its price.
use Rattle.std.proofs.Common.{arith, rules, [], Some, ◌+◌, ◌≡◌}
use Rattle.std.proofs.lemmas.List.Sums.{sum_by_more, sum_by-take-le}
use Rattle.list_lemmas.proofs.Elements.{length-AllZip}
use Rattle.list_lemmas.proofs.Passing.{AllZip-place}
use Rattle.trie_merge.proofs.Merging.{no_cuts_yet}
use Rattle.trie_merge.proofs.probe.price_rest.Goals as goal
use Rattle.trie_merge.specs.Shared.{IsIn}
use Rattle.trie_merge.specs.Words.{cost_ahead}

pub loop-state-init : goal.loop-state-init
loop-state-init c =
    let none : c.new-cuts.result.items ≡ [] = search rules in
    record {
      cuts = rw none (no_cuts_yet (Some c.args.next.now) c.args.target.now);
      within = c.requires.before;
      price = λ set tree lists rise all. omega arith;
    }

pub price_ahead-requires-clause-cuts : goal.price_ahead-requires-clause-cuts
price_ahead-requires-clause-cuts c = c.loop-state.invariant.cuts

pub price_ahead-requires-clause-number : goal.price_ahead-requires-clause-number
price_ahead-requires-clause-number c = c.requires.numbers c.loop-state.state-index 0 c.loop-state-test.true

pub overflow_add-words : goal.overflow_add-words
overflow_add-words c =
    omega (arith, c.loop-state.invariant.within, c.requires.cap, c.in_ok-its.ensures.most)

pub loop-state-preserved : goal.loop-state-preserved
loop-state-preserved c =
    let its = c.in_ok-its.ensures in
    let k = c.loop-state.state-index in
    record {
      cuts = its.cuts;
      within = c.if-words-budget.false;
      price = λ set tree lists rise all.
          (let zip = IsIn set c.args.target.now tree in
          omega (
            arith,
            c.loop-state.invariant.price set tree lists rise all,
            sum_by_more (cost_ahead c.args.next.now) lists k []
                (omega (arith, c.loop-state-test.true, length-AllZip zip lists c.args.states.now all)),
            its.least set tree _ rise (AllZip-place zip lists c.args.states.now k [] 0 all c.loop-state-test.true),
          ));
    }

pub returns-then-words-budget-clause-over : goal.returns-then-words-budget-clause-over
returns-then-words-budget-clause-over c = λ _ set tree lists rise all.
    let zip = IsIn set c.args.target.now tree in
    let k = c.loop-state.state-index in
    omega (
      arith,
      c.if-words-budget.true,
      c.loop-state.invariant.price set tree lists rise all,
      sum_by_more (cost_ahead c.args.next.now) lists k []
          (omega (arith, c.loop-state-test.true, length-AllZip zip lists c.args.states.now all)),
      c.in_ok-its.ensures.least set tree _ rise
          (AllZip-place zip lists c.args.states.now k [] 0 all c.loop-state-test.true),
      sum_by-take-le (cost_ahead c.args.next.now) lists (k + 1),
    )

pub returns-clause-counted : goal.returns-clause-counted
returns-clause-counted c = record {
  within = c.loop-state.invariant.within;
  least = λ set tree lists rise all. omega (
    arith,
    c.loop-state.invariant.price set tree lists rise all,
    sum_by-take-le (cost_ahead c.args.next.now) lists c.loop-state.state-index,
  );
}

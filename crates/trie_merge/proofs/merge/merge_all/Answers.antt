-- Each state goes on from the states before it.
use Rattle.std.proofs.Common.{ℕ, ◌+◌, List, drop, arith}
use Rattle.std.proofs.lemmas.List.{take_more, take-append-drop, take_all}
use Rattle.trie_merge.proofs.merge.merge_all.Goals as goal
use Rattle.trie_merge.proofs.Merging.{none_so_far, first_ready, can_add, one_more_state, all_merged, past_cap}

pub loop-state-init : goal.loop-state-init
loop-state-init c = record {
  so_far = none_so_far _ _ _ _ _ c.requires.first;
  within = omega (arith, c.requires.can.before, c.requires.first.words, c.requires.first.least);
  ready = first_ready _ _ _ _ _ c.requires.first c.requires.can.ask;
}

pub add_state-requires : goal.add_state-requires
add_state-requires c =
    can_add c.requires.can c.loop-state.invariant.ready c.loop-state.invariant.within
    (c.requires.can.numbers c.loop-state.state-index 0 c.loop-state-test.true)

pub loop-state-preserved : goal.loop-state-preserved
loop-state-preserved c = record {
  so_far = rw (take_more c.args.states.now c.loop-state.state-index 0 c.loop-state-test.true)
      (one_more_state c.loop-state.invariant.so_far c.ranks_order_rules.ensures
      c.the_best_has_the_greatest_rank.ensures c.in_ok-add_state.ensures);
  within = c.if-progress-budget.false;
  ready = c.in_ok-add_state.ensures.ready;
}

pub returns-then-progress-budget-clause-over : goal.returns-then-progress-budget-clause-over
returns-then-progress-budget-clause-over c = λ _ set group tree lists for placed.
    let states : List ℕ = c.args.states.now in
    let k : ℕ = c.loop-state.state-index in
    past_cap
    (one_more_state c.loop-state.invariant.so_far c.ranks_order_rules.ensures c.the_best_has_the_greatest_rank.ensures
    c.in_ok-add_state.ensures)
    c.args.budget.cap (drop (k + 1) states) c.if-progress-budget.true set group tree lists for
    (rw (← take_more states k 0 c.loop-state-test.true, take-append-drop (k + 1) states) placed)

pub returns-clause-merged : goal.returns-clause-merged
returns-clause-merged c =
    let inv = c.loop-state.invariant in
    record {
      steps = c.loop-state.progress.work.steps;
      led = inv.so_far.led;
      each = all_merged (rw (take_all c.loop-state.state-index c.args.states.now c.loop-state-test.false) at inv.so_far)
          c.args.budget.cap inv.within;
      inside = inv.ready.inside;
      pieces = inv.ready.pieces;
    }

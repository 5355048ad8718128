use Rattle.std.proofs.Common.{ℕ, List, ◌∷◌, [], ◌+◌, ◌<◌, length, drop, get_or, sym, refl, arith}
use Rattle.group_states.specs.declared.run.Run.{Run}
use Rattle.table_sizes.specs.Sizes.{cost_of}
use Rattle.table_fill.specs.Filled.{words_into}
use Rattle.list_lemmas.proofs.Loops.{writes_one, writes_all, sum_left}
use Rattle.table_fill.proofs.trie.words_into.Goals as goal

pub loop-state-preserved : goal.loop-state-preserved
loop-state-preserved c =
    let states : List (List Run) = get_or c.args.trie.now.levels c.args.depth [] in
    let state : ℕ = c.loop-state.state in
    let below : state < length states = omega (arith, c.loop-state-test.true, c.states-state-end.ensures) in (
      writes_one _ c.loop-state.invariant.0 below c.runs-runs.ensures c.in_ok-push.ensures.items
          (λ i. sym c.node_word.ensures i
          ∷ words_into (c.loop-state.place + sym c.node_len-place.ensures.value i) (drop (state + 1) states)),
      omega (arith, sum_left (λ (runs : List Run). cost_of (length runs)) states state _ below c.runs-runs.ensures),
    )

pub returns : goal.returns
returns c =
    writes_all c.loop-state.invariant.0 refl (omega (arith, c.loop-state-test.false, c.states-state-end.ensures))

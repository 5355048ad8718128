use Rattle.std.proofs.Common.{arith}
use Rattle.list_lemmas.proofs.Loops.{joined_more, joined_all}
use Rattle.table_fill.proofs.trie.push_level.Goals as goal

pub loop-state-preserved : goal.loop-state-preserved
loop-state-preserved c =
    joined_more _ c.loop-state.invariant (omega (arith, c.loop-state-test.true, c.states-state-end.ensures))
    c.runs.ensures c.in_ok-push_node.ensures

pub returns : goal.returns
returns c = joined_all c.loop-state.invariant (omega (arith, c.loop-state-test.false, c.states-state-end.ensures))

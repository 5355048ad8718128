use Rattle.list_lemmas.proofs.Loops.{joined_more, joined_all}
use Rattle.table_fill.proofs.tries.level_lens_of.Goals as goal

pub loop-trie-preserved : goal.loop-trie-preserved
loop-trie-preserved c =
    joined_more _ c.loop-trie.invariant c.loop-trie-test.true c.trie-item.is c.in_ok-push_level_lens.ensures

pub returns : goal.returns
returns c = joined_all c.loop-trie.invariant c.loop-trie-test.false

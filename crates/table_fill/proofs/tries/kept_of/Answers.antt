use Rattle.list_lemmas.proofs.Loops.{mapped_more, mapped_all}
use Rattle.table_fill.proofs.tries.kept_of.Goals as goal

pub loop-trie-preserved : goal.loop-trie-preserved
loop-trie-preserved c =
    mapped_more _ c.loop-trie.invariant c.loop-trie-test.true c.trie-item.is c.in_ok-push.ensures.items c.kept.ensures

pub returns : goal.returns
returns c = mapped_all c.loop-trie.invariant c.loop-trie-test.false

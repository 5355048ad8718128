use Rattle.std.proofs.Common.{ℕ, ◌∷◌, ◌+◌, drop, sym, refl, arith}
use Rattle.table_fill.specs.Filled.{nodes_len, roots_of}
use Rattle.list_lemmas.proofs.Loops.{writes_one, writes_all, sum_left}
use Rattle.table_fill.proofs.tries.roots_of.Goals as goal

pub loop-trie-preserved : goal.loop-trie-preserved
loop-trie-preserved c =
    let at : ℕ = c.loop-trie.trie-index in (
      writes_one _ c.loop-trie.invariant.0 c.loop-trie-test.true c.trie-item.is c.in_ok-push.ensures.items
          (λ i. sym c.root_at.ensures i
          ∷ roots_of (c.loop-trie.place + sym c.nodes_len-place.ensures.value i) (drop (at + 1) c.args.tries.now)),
      omega (arith, sum_left nodes_len c.args.tries.now at _ c.loop-trie-test.true c.trie-item.is),
    )

pub returns : goal.returns
returns c = writes_all c.loop-trie.invariant.0 refl c.loop-trie-test.false

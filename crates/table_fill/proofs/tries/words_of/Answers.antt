use Rattle.std.proofs.Common.{◌≡◌, ◌+◌, ◌++◌, ℕ, List, drop, length, length-append, sym, ap, refl, subst, ◌∙◌, arith}
use Rattle.group_states.specs.Levels.{LevelsView}
use Rattle.table_fill.specs.Filled.{nodes_len, words_of_levels, words_of_tries, matches_of}
use Rattle.table_fill.specs.Tries.{HasNodes, row_count}
use Rattle.list_lemmas.proofs.Loops.{writes_more, writes_all, sum_left}
use Rattle.table_fill.proofs.Sounds.{length-levels-words}
use Rattle.table_fill.proofs.tries.words_of.Goals as goal

pub loop-trie-preserved : goal.loop-trie-preserved
loop-trie-preserved c =
    let trie : LevelsView = c.trie-item.result in
    let at : ℕ = c.loop-trie.trie-index in
    let words : List ℕ = c.loop-trie.words.items in
    let part : List ℕ = words_of_levels (length words) (matches_of c.loop-trie.row trie) trie.levels in
    let long : length c.push_trie.new.words.items ≡ length words + nodes_len trie =
    ap length c.in_ok-push_trie.ensures ∙ length-append words part
    ∙ ap (λ n. length words + n) (length-levels-words (length words) (matches_of c.loop-trie.row trie) trie.levels) in (
      writes_more _ part c.loop-trie.invariant.0 c.loop-trie-test.true c.trie-item.is c.in_ok-push_trie.ensures
          (λ i. part ++ words_of_tries (sym long i) (c.loop-trie.row + sym c.rows-row.ensures i)
          (drop (at + 1) c.args.tries.now)),
      omega (arith, sum_left nodes_len c.args.tries.now at _ c.loop-trie-test.true c.trie-item.is),
      omega (arith, sum_left row_count c.args.tries.now at _ c.loop-trie-test.true c.trie-item.is),
    )

pub push_trie-requires-clause-nodes : goal.push_trie-requires-clause-nodes
push_trie-requires-clause-nodes c =
    subst HasNodes (sym c.trie-item.is)
    (c.requires.nodes c.loop-trie.trie-index c.trie-item.result c.loop-trie-test.true)

pub push_trie-requires-clause-size : goal.push_trie-requires-clause-size
push_trie-requires-clause-size c =
    omega (arith, sum_left nodes_len c.args.tries.now c.loop-trie.trie-index _ c.loop-trie-test.true c.trie-item.is)

pub push_trie-requires-clause-rows : goal.push_trie-requires-clause-rows
push_trie-requires-clause-rows c =
    omega (arith, sum_left row_count c.args.tries.now c.loop-trie.trie-index _ c.loop-trie-test.true c.trie-item.is)

pub returns : goal.returns
returns c = writes_all c.loop-trie.invariant.0 refl c.loop-trie-test.false

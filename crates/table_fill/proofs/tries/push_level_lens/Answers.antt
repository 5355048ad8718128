use Rattle.std.proofs.Common.{refl, arith, []}
use Rattle.list_lemmas.proofs.Loops.{mapped_more, mapped_all}
use Rattle.table_fill.proofs.Sounds.{level_fits}
use Rattle.table_fill.proofs.tries.push_level_lens.Goals as goal

pub level_len-requires-clause-size : goal.level_len-requires-clause-size
level_len-requires-clause-size c =
    level_fits c.args.trie.now c.loop-depth.depth c.requires.nodes c.requires.size
    (omega (arith, c.loop-depth-test.true, c.depths-depth-end.ensures))

pub overflow_cast-level_len : goal.overflow_cast-level_len
overflow_cast-level_len c =
    omega (
      arith,
      c.level_len.ensures,
      level_fits c.args.trie.now c.loop-depth.depth c.requires.nodes c.requires.size
          (omega (arith, c.loop-depth-test.true, c.depths-depth-end.ensures)),
    )

pub loop-depth-preserved : goal.loop-depth-preserved
loop-depth-preserved c =
    mapped_more [] c.loop-depth.invariant (omega (arith, c.loop-depth-test.true, c.depths-depth-end.ensures)) refl
    c.in_ok-push.ensures.items c.level_len.ensures

pub returns : goal.returns
returns c =
    mapped_all c.loop-depth.invariant (omega (arith, c.loop-depth-test.false, c.depths-depth-end.ensures))

-- the lengths of the levels so far
use Rattle.table_fill.specs.Filled.{level_len}
use Rattle.list_lemmas.proofs.Loops.{Mapped}
use Rattle.table_fill.proofs.tries.push_level_lens.Given as goal

abbrev pub invariant-loop-depth : goal.invariant-loop-depth
invariant-loop-depth l = Mapped level_len l.trie.levels l.depth l.fn.lens.items l.lens.items

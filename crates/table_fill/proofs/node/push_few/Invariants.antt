-- the words of the runs so far
use Rattle.group_states.specs.declared.run.Run.{Run}
use Rattle.table_fill.specs.Filled.{succ_word}
use Rattle.list_lemmas.proofs.Loops.{Mapped}
use Rattle.table_fill.proofs.node.push_few.Given as goal

abbrev pub invariant-loop-run : goal.invariant-loop-run
invariant-loop-run l =
    Mapped (λ (run : Run). succ_word l.targets run.to) l.runs l.run-index l.fn.words.items l.words.items

-- the words so far, with those of the runs that are left, are those of all runs
use Rattle.std.proofs.Common.{◌++◌, drop}
use Rattle.list_lemmas.proofs.Loops.{Writes}
use Rattle.table_fill.proofs.Given.{words_from, HoldRest}
use Rattle.table_fill.proofs.node.push_many.Given as goal

abbrev pub invariant-loop-run : goal.invariant-loop-run
invariant-loop-run l =
    Writes (words_from l.targets l.first) l.runs l.run-index l.words.items (l.fn.words.items
    ++ words_from l.targets 0 l.runs)
    × HoldRest l.first (drop l.run-index l.runs)

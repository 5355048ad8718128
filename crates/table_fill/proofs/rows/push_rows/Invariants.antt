-- the rows so far
use Rattle.std.proofs.Common.{map}
use Rattle.table_fill.specs.Tries.{winner_in}
use Rattle.list_lemmas.proofs.Loops.{Mapped}
use Rattle.table_fill.proofs.rows.push_rows.Given as goal

abbrev pub invariant-loop-number : goal.invariant-loop-number
invariant-loop-number l = Mapped (map (winner_in l.words)) l.trie.rows l.number l.fn.rows.items l.rows.items

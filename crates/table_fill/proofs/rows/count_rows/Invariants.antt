-- the rows so far, with those of the tries that are left, are those of all tries
use Rattle.std.proofs.Common.{◌≡◌, ◌+◌, drop, sum_by}
use Rattle.table_fill.specs.Tries.{row_count}
use Rattle.table_fill.proofs.rows.count_rows.Given as goal

abbrev pub invariant-loop-trie : goal.invariant-loop-trie
invariant-loop-trie l = l.rows + sum_by row_count (drop l.trie-index l.tries) ≡ sum_by row_count l.tries

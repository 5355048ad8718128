-- the matches of the rows so far
use Rattle.std.proofs.Common.{◌≡◌, map}
use Rattle.std.specs.List.{range_with_len}
use Rattle.table_fill.specs.Filled.{match_of}
use Rattle.table_fill.proofs.trie.matches_of.Given as goal

abbrev pub invariant-loop-number : goal.invariant-loop-number
invariant-loop-number l = l.words.items ≡ map match_of (range_with_len l.row l.number)

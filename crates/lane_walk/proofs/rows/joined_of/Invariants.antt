-- the rows of the tries so far are joined
use Rattle.lane_walk.specs.Turn.{IsRowOf}
use Rattle.lane_walk.proofs.rows.joined_of.Given as goal

abbrev pub invariant-loop-trie : goal.invariant-loop-trie
invariant-loop-trie l = IsRowOf l.table l.noted l.trie l.row

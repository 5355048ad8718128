use Rattle.std.proofs.Common.{◌-◌}
use Rattle.trie_merge.proofs.follow.lead_entry.Given as goal
use Rattle.trie_merge.proofs.Leads.{EntrySoFar}

abbrev pub invariant-loop-first : goal.invariant-loop-first
invariant-loop-first l = EntrySoFar l.column l.entry l.fn.target l.target l.pieces.items l.first

abbrev pub decreases-loop-first : goal.decreases-loop-first
decreases-loop-first l = 256 - l.first

-- The boxes so far.
use Rattle.std.proofs.Common.{[]}
use Rattle.list_lemmas.proofs.Loops.{Mapped}
use Rattle.chain_conditions.specs.Marked.{marked}
use Rattle.chain_conditions.proofs.marked.marked_boxes.Given as goal

-- one for each box so far
abbrev pub invariant-loop-it : goal.invariant-loop-it
invariant-loop-it l = Mapped marked l.boxes l.it-index [] l.all.items

-- the roots so far
use Rattle.std.proofs.Common.{◌≡◌, take, length}
use Rattle.flat_table.proofs.table.roots_of.Given as goal

abbrev pub invariant-loop-root : goal.invariant-loop-root
invariant-loop-root l = (l.tries.items ≡ take l.root-index l.roots) × (length l.tries.items ≡ l.root-index)

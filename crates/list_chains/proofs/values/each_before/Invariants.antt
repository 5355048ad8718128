-- The rows so far.
use Rattle.std.proofs.Common.{[], ◌∷◌, map}
use Rattle.list_lemmas.proofs.Loops.{Joined}
use Rattle.list_chains.proofs.values.each_before.Given as goal

-- those of each value so far
abbrev pub invariant-loop-value : goal.invariant-loop-value
invariant-loop-value l = Joined (λ value. map (λ rest. value ∷ rest) l.rests) l.values l.value-index [] l.rows.items

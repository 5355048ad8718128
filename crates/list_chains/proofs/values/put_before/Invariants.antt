-- The rows so far.
use Rattle.std.proofs.Common.{◌∷◌}
use Rattle.list_lemmas.proofs.Loops.{Mapped}
use Rattle.list_chains.proofs.values.put_before.Given as goal

-- one for each rest so far
abbrev pub invariant-loop-rest : goal.invariant-loop-rest
invariant-loop-rest l = Mapped (λ rest. l.value ∷ rest) l.rests l.rest-index l.fn.into.items l.into.items

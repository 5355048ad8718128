use Rattle.std.proofs.Common.{◌==◌, inl, inr}
use Rattle.std.proofs.lemmas.Bool.{and_parts, eqb-true}
use Rattle.std.proofs.lemmas.Result.{on_ok_weaker}
use mathlib.Core.Logic.{⊎_elim}
use Rattle.state_parts.proofs.parts.Parts.entry.Goals as goal

pub returns-clause-entries : goal.returns-clause-entries
returns-clause-entries c =
    on_ok_weaker c.number.result
    (λ from other there. ⊎_elim inl
    (λ same. inr (eqb-true other c.args.entry (and_parts (0 == 0) (other == c.args.entry) same).1)) (from other there))
    c.number.ensures.entries

use Rattle.std.proofs.Common.{◌==◌, inr, arith}
use Rattle.std.proofs.lemmas.Bool.{and_parts, eqb-true}
use Rattle.std.proofs.lemmas.Result.{IfOk-weaker, on_ok_weaker}
use mathlib.Core.Logic.{⊎_elim}
use Rattle.state_parts.specs.Tree.{Joins}
use Rattle.state_parts.proofs.parts.Parts.join.Goals as goal

pub returns-clause-entries : goal.returns-clause-entries
returns-clause-entries c =
    on_ok_weaker c.number.result
    (λ from entry there. ⊎_elim (λ old. old) (λ same. absurd (omega (
      arith,
      eqb-true 0 c.args.left (and_parts (0 == c.args.left) (entry == c.args.right) same).0,
      c.if-left-eq0.false,
    ))) (from entry there))
    c.number.ensures.entries

pub returns-clause-joins : goal.returns-clause-joins
returns-clause-joins c =
    IfOk-weaker c.number.result _ (λ number. Joins c.number.new.self c.args.left c.args.right number)
    (λ number at. inr (inr (omega (arith, c.if-left-eq0.false), omega (arith, c.if-right-eq0.false), at)))
    c.number.ensures.number

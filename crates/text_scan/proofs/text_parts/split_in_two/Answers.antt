use Rattle.std.proofs.Common.{arith}
use Rattle.list_lemmas.proofs.Texts.{some_part}
use Rattle.text_scan.proofs.text_parts.split_in_two.Goals as goal

-- a second separator makes a third part
pub returns-in-Some : goal.returns-in-Some
returns-in-Some c =
    rw (c.in_ok-before.ensures.parts, c.in-Some.ensures.parts) (
    record { parts = λ two. omega (arith, some_part c.args.separator c.in-Some.field-0.1.now) })

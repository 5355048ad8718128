-- What stands in front of the answers that are left is what is shown of the packet.
use Rattle.std.proofs.Common.{◌∙◌, arith, ap, sym, take}
use Rattle.capture_report.proofs.Writing.{shown_own}
use Rattle.capture_report.proofs.lines.put_own.Goals as goal

pub take_front-verdicts-requires : goal.take_front-verdicts-requires
take_front-verdicts-requires g c = omega (arith, c.requires.front.few, c.requires.count)

pub take_dashes-dashes-requires-clause-front : goal.take_dashes-dashes-requires-clause-front
take_dashes-dashes-requires-clause-front g c asked =
    omega (arith, c.requires.front.marks_fit (c.requires.marks ∙ asked), c.requires.count)

pub write_line-requires-clause-verdicts : goal.write_line-requires-clause-verdicts
write_line-requires-clause-verdicts g c =
    c.take_front-verdicts.ensures.front ∙ ap (λ n. take n c.args.left.now.verdicts.now) c.requires.count
    ∙ c.requires.front.verdicts_are

pub write_line-requires-clause-dashes : goal.write_line-requires-clause-dashes
write_line-requires-clause-dashes g c =
    shown_own _ c.requires.marks c.requires.front c.requires.count c.take_dashes-dashes.ensures.front
    c.take_dashes-dashes.ensures.none

pub returns-clause-dashes : goal.returns-clause-dashes
returns-clause-dashes g c asked = c.take_dashes-dashes.ensures.rest (sym c.requires.marks ∙ asked)

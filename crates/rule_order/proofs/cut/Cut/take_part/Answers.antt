use Rattle.std.proofs.Common.{arith}
use Rattle.rule_order.proofs.Parts.{left_later, parts_more}
use Rattle.rule_order.proofs.cut.Cut.take_part.Goals as goal

pub longest_part-requires-clause-left : goal.longest_part-requires-clause-left
longest_part-requires-clause-left c =
    rw c.split_at.ensures.back (left_later c.args.rules.now c.args.order.now c.args.self.now.taken c.requires.order)

pub returns-in_ok-push-in-Some-clause-parts : goal.returns-in_ok-push-in-Some-clause-parts
returns-in_ok-push-in-Some-clause-parts c =
    let old = c.args.self.now in
    let new = c.in_ok-push-in-Some.ensures in
    let first = rw (c.in-Some.is, c.split_at.ensures.back) at c.in_ok-part.ensures in
    rw (new.levels, new.taken, new.total)
    (parts_more c.args.rules.now c.args.order.now old.levels.items old.taken old.total c.min.result c.in-Some.part
    c.requires.parts c.requires.parts.within first
    (omega (arith, first.within, c.min.ensures, c.requires.parts.size)))

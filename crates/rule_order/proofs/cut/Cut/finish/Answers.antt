use Rattle.std.proofs.Common.{arith}
use Rattle.rule_order.proofs.Parts.{parts_hold}
use Rattle.rule_order.proofs.cut.Cut.finish.Goals as goal

pub returns : goal.returns
returns c =
    parts_hold c.args._rules.now c.args.order.now c.args.self.levels.items c.args.self.taken c.args.self.total
    c.requires.order c.requires.parts c.requires.few (omega (arith, c.if-self-order.false))

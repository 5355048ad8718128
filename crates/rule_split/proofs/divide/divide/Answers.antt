use Rattle.std.proofs.Common.{length, ◌∙◌, ap, arith}
use Rattle.rule_split.proofs.Sides.{length-sides}
use Rattle.rule_split.proofs.divide.divide.Goals as goal

pub sides-requires-clause-field : goal.sides-requires-clause-field
sides-requires-clause-field c =
    omega (
      arith,
      ap length (c.as_slice-else-most-eq0.ensures.value ∙ c.in_ok-numbers.ensures),
      length-sides c.args.rules.now c.args.group.now,
      c.place_of.ensures.within,
    )

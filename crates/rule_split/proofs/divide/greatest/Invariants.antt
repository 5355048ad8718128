use Rattle.std.proofs.Common.{◌≡◌, take}
use Rattle.rule_set.specs.Groups.{greatest}
use Rattle.rule_split.proofs.divide.greatest.Given as goal

abbrev pub invariant-loop-number : goal.invariant-loop-number
invariant-loop-number l = l.most ≡ greatest (take l.number-index l.numbers)

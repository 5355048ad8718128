use Rattle.std.proofs.Common.{◌≡◌, take}
use Rattle.std.specs.List.{count_by}
use Rattle.rule_split.specs.Divide.{is_wild_in}
use Rattle.rule_split.proofs.divide.smaller_side.Given as goal

abbrev pub invariant-loop-number : goal.invariant-loop-number
invariant-loop-number l = l.wild ≡ count_by (is_wild_in l.rules l.field) (take l.number-index l.group)

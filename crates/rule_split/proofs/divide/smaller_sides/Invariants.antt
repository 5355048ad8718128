use Rattle.std.proofs.Common.{◌≡◌, map}
use Rattle.std.specs.List.{range_with_len}
use Rattle.rule_split.specs.Divide.{smaller_side}
use Rattle.rule_split.proofs.divide.smaller_sides.Given as goal

abbrev pub invariant-loop-field : goal.invariant-loop-field
invariant-loop-field l = l.sides.items ≡ map (smaller_side l.rules l.group) (range_with_len 0 l.field)

use Rattle.std.proofs.Common.{◌≡◌}
use Rattle.std.specs.List.{filter_map}
use Rattle.rule_split.specs.Counted.{levels_in}
use Rattle.rule_split.proofs.split.kept_levels.Given as goal

abbrev pub invariant-loop-group : goal.invariant-loop-group
invariant-loop-group l = l.kept.items ≡ filter_map levels_in l.yielded

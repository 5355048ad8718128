use Rattle.std.proofs.Common.{◌≡◌, take}
use Rattle.rule_split.specs.Counted.{most_counted}
use Rattle.rule_split.proofs.turn.most_words.Given as goal

abbrev pub invariant-loop-group : goal.invariant-loop-group
invariant-loop-group l = l.most ≡ most_counted l.budget (take l.group-index l.groups)

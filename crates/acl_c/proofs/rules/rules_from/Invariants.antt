-- the rules so far, and the values after theirs
use Rattle.std.proofs.Common.{◌≡◌, ◌*◌, map, drop, length}
use Rattle.std.specs.List.{range_with_len}
use Rattle.acl_c.specs.Rules.{rule_from}
use Rattle.acl_c.proofs.rules.rules_from.Given as goal

abbrev pub invariant-loop-place : goal.invariant-loop-place
invariant-loop-place l = record {
  rules : l.rules.items ≡ map (rule_from l.defs l.tags l.values) (range_with_len 0 l.place);
  left : l.left ≡ drop (l.place * length l.defs) l.values;
}

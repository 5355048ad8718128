use Rattle.std.proofs.Common.{◌≡◌, map, All}
use Rattle.rule_split.specs.Counted.{group_in, IsRight}
use Rattle.rule_split.specs.Split.{words_of_group, first_groups, turns}
use Rattle.rule_split.proofs.split.last_groups.Given as goal

-- the groups after so many turns, and what is known of each is right
abbrev pub invariant-loop : goal.invariant-loop
invariant-loop l =
    (map group_in l.groups.items ≡ turns (words_of_group l.rules) l.rules l.budget l.counter (first_groups l.rules))
    × All (IsRight l.rules l.budget) l.groups.items

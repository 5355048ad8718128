use Rattle.std.proofs.Common.{◌≡◌, map, take, All}
use Rattle.rule_split.specs.Counted.{group_in, IsPassed, IsRight}
use Rattle.rule_split.proofs.turn.find_over.Given as goal

-- the groups are the same, what is known of them is right, and those so far are passed
abbrev pub invariant-loop-place : goal.invariant-loop-place
invariant-loop-place l =
    (map group_in l.groups.items ≡ map group_in l.initial.groups.items)
    × All (IsRight l.rules l.budget) l.groups.items
    × All (IsPassed l.rules l.budget) (take l.place l.groups.items)

-- The groups so far.
use Rattle.cisco_reader.specs.Groups.{no_groups, with_group_line}
use Rattle.cisco_reader.proofs.Steps.{IsMadeUpTo}
use Rattle.cisco_reader.proofs.packets.read_groups.Given as goal

-- there are those of each line so far
abbrev pub invariant-loop-line : goal.invariant-loop-line
invariant-loop-line l = IsMadeUpTo with_group_line no_groups l.lines l.line-index l.groups

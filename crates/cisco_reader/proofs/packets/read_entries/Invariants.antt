-- The list so far.
use Rattle.cisco_reader.specs.Lists.{no_list, with_line}
use Rattle.cisco_reader.proofs.Steps.{IsMadeUpTo}
use Rattle.cisco_reader.proofs.packets.read_entries.Given as goal

-- it has what each line so far adds to it
abbrev pub invariant-loop-line : goal.invariant-loop-line
invariant-loop-line l =
    IsMadeUpTo (with_line l.asked) (no_list l.groups) l.lines.outside l.line-index l.list

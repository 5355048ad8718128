-- The lines so far.
use Rattle.list_lemmas.proofs.Loops.{Mapped}
use Rattle.cisco_reader.proofs.held.put_lines.Given as goal

-- each so far was put after the old ones
abbrev pub invariant-loop-line : goal.invariant-loop-line
invariant-loop-line l = Mapped (λ line. line) l.lines l.line-index l.fn.into.items l.into.items

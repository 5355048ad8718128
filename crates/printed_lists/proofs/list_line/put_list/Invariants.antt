-- The lines so far.
use Rattle.printed_lists.proofs.Written.{AreWritten}
use Rattle.printed_lists.proofs.list_line.put_list.Given as goal

-- they stand after the text that was there
abbrev pub invariant-loop-line : goal.invariant-loop-line
invariant-loop-line l = AreWritten l.family l.lines l.line-index l.fn.text.items l.text.items

-- The bytes so far.
use Rattle.list_lemmas.proofs.Loops.{Mapped}
use Rattle.printed_lists.specs.Listed as spec
use Rattle.printed_lists.proofs.list_line.put_bytes.Given as goal

-- one for each byte so far
abbrev pub invariant-loop-byte : goal.invariant-loop-byte
invariant-loop-byte l = Mapped spec.comment_byte l.comment l.byte-index l.fn.text.items l.text.items

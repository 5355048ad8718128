-- The lines so far.
use Rattle.std.proofs.Common.{map, ◌++◌}
use Rattle.list_lemmas.proofs.Loops.{Writes}
use Rattle.printed_lists.specs.Listed.{Comment, line_views}
use Rattle.list_tool.specs.Printed.{commented}
use Rattle.list_tool.proofs.printing.commented.Given as goal

-- those of the rules that are left come after them
abbrev pub invariant-loop-place : goal.invariant-loop-place
invariant-loop-place l =
    Writes (commented l.form (map (λ text. text.now) l.texts) l.by_line l.place) l.rules l.place
    (line_views l.lines.items)
    (map (λ text. Comment text) (map (λ text. text.now) l.head)
    ++ commented l.form (map (λ text. text.now) l.texts) l.by_line 0 l.rules)

-- The comments so far.
use Rattle.std.proofs.Common.{map}
use Rattle.list_lemmas.proofs.Loops.{Writes}
use Rattle.printed_lists.specs.Listed.{Comment, line_views}
use Rattle.list_tool.proofs.printing.headed.Given as goal

-- those of the texts that are left come after them
abbrev pub invariant-loop-text : goal.invariant-loop-text
invariant-loop-text l =
    Writes (λ texts. map (λ text. Comment text) (map (λ text. text.now) texts)) l.head l.text-index
    (line_views l.lines.items) (map (λ text. Comment text) (map (λ text. text.now) l.head))

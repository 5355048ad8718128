-- One comment more was put, and at the end all are.
use Rattle.std.proofs.Common.{◌∙◌, ap, refl}
use Rattle.std.proofs.lemmas.List.{map_push}
use Rattle.list_lemmas.proofs.Loops.{writes_all, writes_one}
use Rattle.printed_lists.specs.Listed.{line_view, line_views}
use Rattle.list_tool.proofs.printing.headed.Goals as goal

pub loop-text-preserved : goal.loop-text-preserved
loop-text-preserved c =
    writes_one _ c.loop-text.invariant c.loop-text-test.true refl
    (ap line_views c.in_ok-push.ensures.items ∙ map_push line_view c.loop-text.lines.items _) refl

pub returns : goal.returns
returns c = writes_all c.loop-text.invariant refl c.loop-text-test.false

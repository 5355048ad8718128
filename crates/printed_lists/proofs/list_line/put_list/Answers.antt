-- Each line is one that can be written, and at the end all are.
use Rattle.std.proofs.Common.{sym, subst}
use Rattle.list_lemmas.proofs.Spans.{All-of_map}
use Rattle.printed_lists.specs.Listed.{IsPrintableLine, line_view, line_views}
use Rattle.printed_lists.proofs.Written.{written_more, written_text, written_fits}
use Rattle.printed_lists.proofs.list_line.put_list.Goals as goal

pub put_line-requires : goal.put_line-requires
put_line-requires c =
    subst (λ line. IsPrintableLine c.args.family (line_view line)) (sym c.line-item.is)
    (All-of_map (IsPrintableLine c.args.family) line_view c.args.lines.now c.requires c.loop-line.line-index
    c.line-item.result c.loop-line-test.true)

pub loop-line-preserved : goal.loop-line-preserved
loop-line-preserved c =
    written_more _ c.loop-line.invariant c.loop-line-test.true c.line-item.is c.in_ok-put_line.ensures.text
    c.in_ok-put_line.ensures.fits

pub returns-clause-text : goal.returns-clause-text
returns-clause-text c = written_text c.loop-line.invariant c.loop-line-test.false

pub returns-clause-reads_back : goal.returns-clause-reads_back
returns-clause-reads_back c =
    c.printed_lists_are_files.ensures c.args.family (line_views c.args.lines.now) c.requires
    (written_fits c.loop-line.invariant c.loop-line-test.false)

use Rattle.std.proofs.Common.{◌≡◌, ◌&&◌, ltb, false, arith, get_or, sym, ap, ◌∙◌, ◌||◌}
use Rattle.std.proofs.lemmas.Bool.Decides.{nat_tests}
use Rattle.node_expand.proofs.Changes.{between_changes}
use Rattle.list_lemmas.proofs.Agreeing.{marks_in_order}
use Rattle.node_expand.proofs.allowed.mark_between.Goals as goal

pub returns : goal.returns
returns c = λ byte within.
    let low = c.args.low in
    let high = c.args.high in
    let old = get_or c.args.marks.now byte false in
    let low_end : c.if-low-high.mark_where ≡ (ltb low high && c.args.low_inner) = grind (arith, nat_tests) in
    let high_end : c.if-low-high-2.mark_where ≡ (ltb low high && c.args.high_inner) = grind (arith, nat_tests) in
    c.mark_where-4.ensures byte within
    ∙ rw (
      c.mark_where-3.ensures byte within,
      c.mark_where-2.ensures byte within,
      c.mark_where.ensures byte within,
      low_end,
      high_end,
    )
    (marks_in_order low high c.args.low_inner c.args.high_inner byte old
    ∙ ap (λ change. change || old)
    (sym (between_changes low high c.args.low_inner c.args.high_inner byte c.requires.filled within)))

use Rattle.std.proofs.Common.{sym, ◌∙◌}
use Rattle.acl_audit.proofs.Repeating.{second_alike, second_fits}
use Rattle.acl_audit.proofs.compare.compare_second.Goals as goal

pub returns-then-are_halves_equal-clause-told : goal.returns-then-are_halves_equal-clause-told
returns-then-are_halves_equal-clause-told c =
    second_alike c.args.one.now c.args.two.now c.requires.layouts
    (sym c.are_halves_equal.ensures ∙ c.if-are_halves_equal.true) c.requires.alike

pub returns-then-are_halves_equal-clause-fits : goal.returns-then-are_halves_equal-clause-fits
returns-then-are_halves_equal-clause-fits c =
    second_fits c.args.one.now c.args.two.now c.args.budget
    (sym c.are_halves_equal.ensures ∙ c.if-are_halves_equal.true) c.requires.first

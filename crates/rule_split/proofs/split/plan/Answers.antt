use Rattle.std.proofs.Common.{◌≤◌, ◌∙◌, arith}
use Rattle.rule_split.specs.Split.{plan_of}
use Rattle.rule_split.proofs.split.plan.Goals as goal

pub returns-clause-plan : goal.returns-clause-plan
unfolding plan_of
returns-clause-plan c =
    let split = c.in_ok-split.split in
    let is = c.in_ok-split.ensures.split in
    let within : split.total ≤ split.budget = c.in_ok-check.ensures.fits in
    let kept = is.kept_are (omega (arith, within, is.budget_is)) in
    c.in_ok-plan.ensures ∙ (λ i. record { levels = kept i; total = is.total_is i })

use Rattle.std.proofs.Common.{◌≡◌, ℕ, List, Option, Some, sym, ap, ◌∙◌}
use Rattle.acl_audit.specs.Compared.{told_difference}
use Rattle.acl_audit.specs.Difference.{Difference, difference}
use Rattle.audit_report.proofs.Unlike.{unlike_line}
use Rattle.audit_report.proofs.compare.push_difference.Goals as goal

pub returns-in_ok-push_verdicts-in-Differ : goal.returns-in_ok-push_verdicts-in-Differ
returns-in_ok-push_verdicts-in-Differ c =
    let found : List ℕ → Option Difference = λ key. Some (record { key = key; category = c.in-Differ.category }) in
    let is : found c.as_slice-key.result.now ≡ difference c.args.one.now c.args.two.now =
    ap found c.as_slice-key.ensures.value ∙ sym (ap told_difference c.in-Differ.is) ∙ c.requires.told in
    rw (
      c.in_ok-push_verdicts-in-Differ.ensures,
      c.in_ok-push_place-in-Differ.ensures,
      c.in_ok-push_family.ensures,
      c.plain_verdict-first.ensures,
      c.plain_verdict-second.ensures,
    )
    (unlike_line c.args.family c.args.one.now c.args.two.now
    (record { key = c.as_slice-key.result.now; category = c.in-Differ.category }) c.args.text.now.items is)

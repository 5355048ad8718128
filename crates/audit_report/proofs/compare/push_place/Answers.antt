use Rattle.audit_report.proofs.Unlike.{place_line}
use Rattle.audit_report.proofs.compare.push_place.Goals as goal

pub returns : goal.returns
returns c =
    rw (
      c.in_ok-push_key.ensures,
      c.in_ok-push_piece-2.ensures,
      c.in_ok-push_number.ensures,
      c.in_ok-push_piece.ensures,
      c.from.ensures,
    ) (place_line c.args.category c.args.key.now c.args.text.now.items)

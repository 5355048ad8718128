use Rattle.std.proofs.lemmas.Result.{on_ok_weaker}
use Rattle.acl_session.proofs.Mirroring.{removes}
use Rattle.acl_session.proofs.context.reset_rules.Goals as goal

pub returns : goal.returns
returns c =
    on_ok_weaker c.push_piece.result
    (λ text. removes c.args.context.now c.reset_rules.new.self c.args.replies.now.items c.push_piece.new.text.items
    c.reset_rules.ensures text)
    c.push_piece.ensures

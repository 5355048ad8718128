use Rattle.std.proofs.lemmas.Result.{on_ok_weaker}
use Rattle.acl_session.proofs.Mirroring.{clears}
use Rattle.acl_session.proofs.context.reset.Goals as goal

pub returns : goal.returns
returns c =
    on_ok_weaker c.push_piece.result
    (λ text. clears c.args.context.now c.reset.new.self c.args.replies.now.items c.push_piece.new.text.items
    c.reset.ensures text)
    c.push_piece.ensures

use Rattle.std.proofs.Common.{Err, ap}
use Rattle.std.proofs.lemmas.Result.{on_ok_weaker}
use Rattle.acl_session.proofs.Mirroring.{builds, is_too_large}
use Rattle.acl_session.proofs.context.build.Goals as goal

pub returns-in-Ok : goal.returns-in-Ok
returns-in-Ok c =
    on_ok_weaker c.push_piece.result
    (λ text. builds c.args.budget c.args.context.now c.build.new.self c.args.replies.now.items
    c.push_piece.new.text.items c.in-Ok.ensures.table c.in-Ok.ensures.serves c.in-Ok.ensures.fits text)
    c.push_piece.ensures

pub returns-in-Err-TooLarge : goal.returns-in-Err-TooLarge
returns-in-Err-TooLarge c =
    let words = c.in-Err-TooLarge.words in
    let most = c.in-Err-TooLarge.budget in
    let large = c.in-Err-TooLarge.ensures.too_large words most (ap Err c.in-Err-TooLarge.field-0-is) in
    on_ok_weaker c.push_too_large.result
    (λ text. is_too_large c.args.budget words most c.args.context.now c.build.new.self c.args.replies.now.items
    c.push_too_large.new.text.items c.in-Err-TooLarge.ensures.err large.0 large.1 large.2 text)
    c.push_too_large.ensures

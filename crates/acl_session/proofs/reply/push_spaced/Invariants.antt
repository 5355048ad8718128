-- the numbers so far
use Rattle.std.proofs.Common.{◌≡◌, ◌++◌, take}
use Rattle.acl_session.specs.Replies.{spaced}
use Rattle.acl_session.proofs.reply.push_spaced.Given as goal

abbrev pub invariant-loop-place : goal.invariant-loop-place
invariant-loop-place l = l.text.items ≡ l.fn.text.items ++ spaced (take l.place l.numbers)

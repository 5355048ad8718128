use Rattle.std.proofs.Common.{◌≡◌, ℕ, List, ◌++◌, subst, ◌∙◌}
use Rattle.std.specs.Prelude.{OnOk}
use Rattle.acl_session.specs.State.{Held}
use Rattle.acl_session.specs.Session.{classified_text}
use Rattle.acl_session.specs.Mirrors.{Holds}
use Rattle.acl_session.proofs.buffer.classify.Goals as goal

pub returns : goal.returns
returns c =
    subst (λ (bytes : List ℕ). OnOk c.push_reply.result ((held : Held) → Holds held c.args.context.now →
    c.push_reply.new.replies.items ≡ c.args.replies.now.items ++ classified_text held c.args.cats.count bytes))
    (c.deref.ensures.value ∙ c.in_ok-buffer.ensures) c.push_reply.ensures

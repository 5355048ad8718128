use Rattle.std.proofs.Common.{refl, sym, ◌∙◌}
use Rattle.std.proofs.lemmas.Result.{on_ok_weaker}
use Rattle.text_scan.specs.Parts.{words_of}
use Rattle.acl_session.specs.Command.{Reset}
use Rattle.acl_session.specs.Session.{cleared}
use Rattle.acl_session.proofs.Mirroring.{calls_it, calls_none, has_words}
use Rattle.acl_session.proofs.made.Made.reset.Goals as goal

pub returns-then-not-is_end : goal.returns-then-not-is_end
returns-then-not-is_end c =
    on_ok_weaker c.push_bad_line.result
    (has_words Reset (words_of c.args.words.now) c.args.self.now c.args.replies.now.items
    c.push_bad_line.new.replies.items (sym c.is_end.ensures ∙ c.if-not-is_end.true))
    c.push_bad_line.ensures

pub returns-in-Some : goal.returns-in-Some
returns-in-Some c =
    on_ok_weaker c.reset.result
    (calls_it Reset cleared (words_of c.args.words.now) c.args.self.now c.in-Some.context c.reset.new.context
    c.args.replies.now.items c.reset.new.replies.items (λ state. refl)
    (sym c.is_end.ensures ∙ c.if-not-is_end.false) c.in-Some.is)
    c.reset.ensures

pub returns-in-None : goal.returns-in-None
returns-in-None c =
    on_ok_weaker c.push_no_context.result
    (calls_none Reset cleared (words_of c.args.words.now) c.args.self.now c.args.replies.now.items
    c.push_no_context.new.replies.items (λ state. refl) (sym c.is_end.ensures ∙ c.if-not-is_end.false) c.in-None.is)
    c.push_no_context.ensures

use Rattle.std.proofs.Common.{refl, sym, ◌∙◌}
use Rattle.std.proofs.lemmas.Result.{on_ok_weaker}
use Rattle.text_scan.specs.Parts.{words_of}
use Rattle.acl_session.specs.Command.{ResetRules}
use Rattle.acl_session.specs.Session.{without_rules}
use Rattle.acl_session.proofs.Mirroring.{calls_it, calls_none, has_words}
use Rattle.acl_session.proofs.made.Made.reset_rules.Goals as goal

pub returns-then-not-is_end : goal.returns-then-not-is_end
returns-then-not-is_end c =
    on_ok_weaker c.push_bad_line.result
    (has_words ResetRules (words_of c.args.words.now) c.args.self.now c.args.replies.now.items
    c.push_bad_line.new.replies.items (sym c.is_end.ensures ∙ c.if-not-is_end.true))
    c.push_bad_line.ensures

pub returns-in-Some : goal.returns-in-Some
returns-in-Some c =
    on_ok_weaker c.reset_rules.result
    (calls_it ResetRules without_rules (words_of c.args.words.now) c.args.self.now c.in-Some.context
    c.reset_rules.new.context c.args.replies.now.items c.reset_rules.new.replies.items (λ state. refl)
    (sym c.is_end.ensures ∙ c.if-not-is_end.false) c.in-Some.is)
    c.reset_rules.ensures

pub returns-in-None : goal.returns-in-None
returns-in-None c =
    on_ok_weaker c.push_no_context.result
    (calls_none ResetRules without_rules (words_of c.args.words.now) c.args.self.now c.args.replies.now.items
    c.push_no_context.new.replies.items (λ state. refl) (sym c.is_end.ensures ∙ c.if-not-is_end.false) c.in-None.is)
    c.push_no_context.ensures

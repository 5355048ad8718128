use Rattle.std.proofs.Common.{Some, refl, sym, ap, ◌∙◌}
use Rattle.std.specs.Option.{option_map}
use Rattle.std.proofs.lemmas.Result.{on_ok_weaker}
use Rattle.text_scan.specs.Parts.{words_of}
use Rattle.acl_session.specs.Command.{AddRule, rule_of}
use Rattle.acl_session.specs.Session.{added}
use Rattle.acl_session.proofs.Mirroring.{asked, called, missing, nothing_said}
use Rattle.acl_session.proofs.made.Made.rule.Goals as goal

pub returns-in_default : goal.returns-in_default
returns-in_default c =
    on_ok_weaker c.push_bad_line.result
    (λ text. nothing_said c.args.self.now c.args.self.now c.args.replies.now.items c.push_bad_line.new.replies.items
    (option_map AddRule (rule_of (words_of c.args.words.now)))
    (ap (option_map AddRule) (sym c.in_ok-rule.ensures ∙ c.in_default.is)) refl text)
    c.push_bad_line.ensures

pub returns-in-Some-context : goal.returns-in-Some-context
returns-in-Some-context c =
    let rule = c.in-Some.rule in
    on_ok_weaker c.add_rule.result
    (λ answers. asked (AddRule rule) (option_map AddRule (rule_of (words_of c.args.words.now))) _ _ _ _
    (ap (option_map AddRule) (sym c.in_ok-rule.ensures ∙ c.in-Some.is))
    (called (λ held. added held rule) c.args.self.now
    record {
      alloc = c.args.self.now.alloc;
      collected = c.args.self.now.collected;
      context = Some c.add_rule.new.context;
    } c.in-Some-context.context c.add_rule.new.context c.args.replies.now.items c.add_rule.new.replies.items
    c.in-Some-context.is refl answers))
    c.add_rule.ensures

pub returns-in-None : goal.returns-in-None
returns-in-None c =
    let rule = c.in-Some.rule in
    on_ok_weaker c.push_no_context.result
    (λ text. asked (AddRule rule) (option_map AddRule (rule_of (words_of c.args.words.now))) _ _ _ _
    (ap (option_map AddRule) (sym c.in_ok-rule.ensures ∙ c.in-Some.is))
    (missing (λ held. added held rule) c.args.self.now
    record {
      alloc = c.args.self.now.alloc;
      collected = c.args.self.now.collected;
      context = c.args.self.now.context;
    } c.args.replies.now.items c.push_no_context.new.replies.items c.in-None.is refl text))
    c.push_no_context.ensures

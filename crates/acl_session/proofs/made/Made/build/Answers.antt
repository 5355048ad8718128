use Rattle.std.proofs.Common.{Some, refl, sym, ap, ◌∙◌}
use Rattle.std.specs.Option.{option_map}
use Rattle.std.proofs.lemmas.Result.{on_ok_weaker}
use Rattle.text_scan.specs.Parts.{words_of}
use Rattle.acl_session.specs.Command.{Build, budget_of}
use Rattle.acl_session.specs.Session.{built}
use Rattle.acl_session.proofs.Mirroring.{asked, called, missing, nothing_said}
use Rattle.acl_session.proofs.made.Made.build.Goals as goal

pub returns-in_default : goal.returns-in_default
returns-in_default c =
    on_ok_weaker c.push_bad_line.result
    (λ text. nothing_said c.args.self.now c.args.self.now c.args.replies.now.items c.push_bad_line.new.replies.items
    (option_map Build (budget_of (words_of c.args.words.now)))
    (ap (option_map Build) (sym c.read_budget.ensures.budget ∙ c.in_default.is)) refl text)
    c.push_bad_line.ensures

pub returns-in-Some-context : goal.returns-in-Some-context
returns-in-Some-context c =
    let budget = c.in-Some.budget in
    on_ok_weaker c.build.result
    (λ answers. asked (Build budget) (option_map Build (budget_of (words_of c.args.words.now))) _ _ _ _
    (ap (option_map Build) (sym c.read_budget.ensures.budget ∙ c.in-Some.is))
    (called (λ held. built held budget) c.args.self.now
    record {
      alloc = c.args.self.now.alloc;
      collected = c.args.self.now.collected;
      context = Some c.build.new.context;
    } c.in-Some-context.context c.build.new.context c.args.replies.now.items c.build.new.replies.items
    c.in-Some-context.is refl answers))
    c.build.ensures

pub returns-in-None : goal.returns-in-None
returns-in-None c =
    let budget = c.in-Some.budget in
    on_ok_weaker c.push_no_context.result
    (λ text. asked (Build budget) (option_map Build (budget_of (words_of c.args.words.now))) _ _ _ _
    (ap (option_map Build) (sym c.read_budget.ensures.budget ∙ c.in-Some.is))
    (missing (λ held. built held budget) c.args.self.now
    record {
      alloc = c.args.self.now.alloc;
      collected = c.args.self.now.collected;
      context = c.args.self.now.context;
    } c.args.replies.now.items c.push_no_context.new.replies.items c.in-None.is refl text))
    c.push_no_context.ensures

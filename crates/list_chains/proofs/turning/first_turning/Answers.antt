-- At first there are no rules, and all keys come to the chain.
use Rattle.std.proofs.Common.{◌≡◌, [], ◌∷◌, sym, ap, subst, ◌∙◌, refl, arith}
use Rattle.rule_set.specs.Rule.{RuleSetView}
use Rattle.list_chains.specs.declared.task.Act.TheVariants.{Leave}
use Rattle.list_chains.specs.Spans.{whole_box}
use Rattle.list_chains.specs.Tasks.{enter}
use Rattle.list_chains.specs.Made.{first_tasks}
use Rattle.list_chains.specs.Turned.{HaveBoxes}
use Rattle.list_chains.proofs.Fitting.{Fits, first_fit}
use Rattle.list_chains.proofs.turning.first_turning.Goals as goal

pub returns : goal.returns
returns c =
    let whole = whole_box c.args.layout in
    let leaving : c.put_leaving.new.tasks ≡ record { act = Leave; within = whole; frames = [] } ∷ [] =
    c.in_ok-put_leaving.ensures
    ∙ (λ i. record { act = Leave; within = c.in_ok-whole-2.ensures.is i; frames = [] } ∷ c.new-tasks.ensures i) in
    let tasks : c.put_entry.new.tasks ≡ first_tasks c.args.depth c.args.start whole =
    c.in_ok-put_entry.ensures
    ∙ (λ i. enter c.args.depth c.args.start (c.in_ok-whole.ensures.is i) (c.new.ensures.items i) (leaving i)) in
    let set = c.new-2.ensures in
    let layout : c.new-2.result.layout ≡ c.args.layout = ap (λ (s : RuleSetView). s.layout) set in
    let rules : c.new-2.result.rules ≡ [] = ap (λ (s : RuleSetView). s.rules) set in
    let fits : Fits c.args.layout whole =
    subst (Fits c.args.layout) c.in_ok-whole.ensures.is c.in_ok-whole.ensures.fits in (
      record {
        few = rw rules (omega arith);
        boxes = subst (λ l. HaveBoxes l c.put_entry.new.tasks) (sym layout)
            (subst (HaveBoxes c.args.layout) (sym tasks)
            (first_fit c.args.layout c.args.depth c.args.start whole fits));
      },
      layout,
      rules,
      refl,
      tasks,
    )

-- One step, by what it comes to.
use Rattle.std.proofs.Common.{sym, ◌∙◌}
use Rattle.std.proofs.lemmas.Result.{IfOk-weaker}
use Rattle.list_chains.specs.Tasks.{task_of}
use Rattle.chain_conditions.specs.Kinds.{masks_of}
use Rattle.chain_conditions.proofs.Turnings.{turn_ends, turn_passes, turn_steps, turn_writes}
use Rattle.chain_conditions.proofs.turning.one_turn.Goals as goal

pub returns-in_default : goal.returns-in_default
returns-in_default c =
    turn_ends (masks_of c.args.kinds.now) c.args.chains.now c.args.policy c.args.turning.now c.pop.new.self c.requires
    c.in_default.ensures.0
    c.in_default.ensures.1

pub returns-then-is_decided : goal.returns-then-is_decided
returns-then-is_decided c =
    turn_passes (masks_of c.args.kinds.now) c.args.chains.now c.args.policy c.args.turning.now (task_of c.in-Some.task)
    c.pop.new.self c.requires
    c.in-Some.ensures (sym c.is_decided.ensures ∙ c.if-is_decided.true)

pub returns-in-Some-answer_of : goal.returns-in-Some-answer_of
returns-in-Some-answer_of c =
    IfOk-weaker c.write.result _ _ (λ turn it.
    turn_writes (masks_of c.args.kinds.now) c.args.chains.now c.args.policy c.mask_in-mask.result
    c.in-Some-answer_of.userdata c.args.turning.now (task_of c.in-Some.task) c.pop.new.self c.write.new.turning turn
    c.in-Some.ensures (sym c.is_decided.ensures ∙ c.if-is_decided.false) c.in-Some-answer_of.ensures
    c.mask_in-mask.ensures.is it) c.write.ensures

pub returns-in_ok-put_steps-in-None : goal.returns-in_ok-put_steps-in-None
returns-in_ok-put_steps-in-None c =
    turn_steps (masks_of c.args.kinds.now) c.args.chains.now c.args.policy c.args.turning.now (task_of c.in-Some.task)
    c.pop.new.self
    c.put_steps.new.tasks c.requires c.in-Some.ensures (sym c.is_decided.ensures ∙ c.if-is_decided.false)
    c.in-None.ensures c.in_ok-put_steps-in-None.ensures

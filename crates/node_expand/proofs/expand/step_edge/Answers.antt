use Rattle.std.proofs.Common.{sym, ◌∙◌, arith}
use Rattle.node_expand.proofs.EdgeRests.{all_left_step}
use Rattle.node_expand.proofs.EdgeRests.{stepped}
use Rattle.node_expand.proofs.expand.step_edge.Goals as goal

pub returns-then-leaves_all : goal.returns-then-leaves_all
returns-then-leaves_all c = assumption (stepped c.args.value.now c.args.size c.args.place c.args.byte c.args.edge _
    c.requires.place (omega arith) c.requires.edge
    (sym (all_left_step c.args.value.now c.args.size c.args.place c.args.byte c.args.edge
    (sym c.leaves_all.ensures ∙ c.if-leaves_all.true) c.requires.place (omega arith))))

pub returns : goal.returns
returns c = assumption (stepped c.args.value.now c.args.size c.args.place c.args.byte c.args.edge c.edge_at.result
    c.requires.place (omega arith) c.requires.edge
    (c.edge_at.ensures ∙ c.new.ensures.answer c.args.byte (omega arith)))

use Rattle.std.proofs.Common.{◌-◌, ◌||◌, false, get_or, sym, ap, ◌∙◌, arith}
use Rattle.node_expand.specs.Edges.{edge_step, is_cut}
use Rattle.node_expand.specs.Allowed.{answer_of}
use Rattle.node_expand.proofs.Changes.{change_alike}
use Rattle.node_expand.proofs.EdgeRests.{all_left_uncut}
use Rattle.node_expand.proofs.expand.cuts.Goals as goal

pub returns-then-leaves_all : goal.returns-then-leaves_all
returns-then-leaves_all c = λ byte within.
    rw (all_left_uncut c.args.value.now c.args.size c.args.place c.args.edge
    (sym c.leaves_all.ensures ∙ c.if-leaves_all.true) c.requires.place byte within)

pub returns : goal.returns
unfolding is_cut
returns c = λ byte within.
    let alike = change_alike (answer_of c.new.result)
    (edge_step c.args.value.now c.args.size c.args.place c.args.edge) byte
    (c.new.ensures.answer byte within) (c.new.ensures.answer (byte - 1) (omega arith)) in
    c.mark_cuts.ensures byte within ∙ ap (λ cut. cut || get_or c.args.marks.now byte false) alike

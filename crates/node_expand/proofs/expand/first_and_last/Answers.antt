use Rattle.std.proofs.Common.{sym, ◌∙◌, arith}
use Rattle.node_expand.specs.Edges.{edge_step}
use Rattle.node_expand.specs.Allowed.{answer_of}
use Rattle.node_expand.proofs.Changes.{ends_alike, within_alike}
use Rattle.node_expand.proofs.EdgeRests.{all_left_ends, all_left_within}
use Rattle.node_expand.proofs.expand.first_and_last.Goals as goal

pub returns-then-leaves_all : goal.returns-then-leaves_all
returns-then-leaves_all c =
    let all = sym c.leaves_all.ensures ∙ c.if-leaves_all.true in
    record {
      ends = all_left_ends c.args.value.now c.args.size c.args.place c.args.edge all c.requires.place;
      within = λ _. all_left_within c.args.value.now c.args.size c.args.place c.args.edge all c.requires.place;
    }

pub returns : goal.returns
returns c =
    let edges = edge_step c.args.value.now c.args.size c.args.place c.args.edge in
    record {
      ends = ends_alike (answer_of c.new.result) edges _ _ c.new.ensures.answer (omega arith) c.ends.ensures.ends;
      within = λ interval. within_alike (answer_of c.new.result) edges _ _ c.new.ensures.answer (omega arith)
          (c.ends.ensures.within (c.new.ensures.between interval));
    }

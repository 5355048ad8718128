use Rattle.std.proofs.Common.{◌≡◌, ◌∙◌, arith, rules}
use Rattle.trie_merge.proofs.column.Column.ask.Goals as goal

pub returns : goal.returns
returns c =
    let size : c.self.inside.size ≡ c.args.self.now.size = search rules in
    let place : c.self.inside.place ≡ c.args.self.now.place = search rules in
    record {
      number = c.number_in.ensures;
      few = omega (arith, c.number_in.ensures);
      filled = c.new.ensures.filled;
      answers = λ byte small. c.new.ensures.answer byte small ∙ cc (c.value.ensures, c.edge_before-edge.ensures);
    }

use Rattle.std.proofs.Common.{ap, arith}
use Rattle.std.specs.Option.{option_map}
use Rattle.node_expand.specs.Edges.{edge_step, is_cut}
use Rattle.node_expand.proofs.Offered.{stays_alike}
use Rattle.trie_merge.proofs.column.Asked.last_alike.Goals as goal
use Rattle.group_states.specs.Entry.{entry_of, number_in, edge_before, value_in, entry_step, is_entry_cut}

pub returns-clause-alike : goal.returns-clause-alike
unfolding entry_step is_entry_cut is_cut
returns-clause-alike c = λ column entry is.
    let same = stays_alike _ (edge_step (value_in column entry) column.size column.place (edge_before column entry))
    c.args.byte c.last_alike.result is.answers (omega arith) c.last_alike.ensures in
    record {
      ordered = same.ordered;
      alike = λ byte above at_most. ap (option_map (entry_of (number_in entry))) (same.alike byte above at_most);
      cut = same.change;
    }

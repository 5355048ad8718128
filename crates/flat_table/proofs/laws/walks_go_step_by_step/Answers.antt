use Rattle.std.proofs.Common.{refl}
use Rattle.flat_table.proofs.Transitions.{row_is, transitions_are, transitions_bound, word_more, transition_more}
use Rattle.flat_table.proofs.laws.walks_go_step_by_step.Goals as goal

pub returns : goal.returns
returns c = record {
  row = row_is;
  transitions = transitions_are;
  begin = λ table trie key. (refl, refl);
  word_more = word_more;
  transition_more = transition_more;
  bound = transitions_bound;
}

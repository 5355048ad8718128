use Rattle.flat_table.proofs.Safe.{root_leads, node_is_no_match, next_leads_on, none_after}
use Rattle.flat_table.proofs.Shape.{sound_parts}
use Rattle.flat_table.proofs.laws.walks_stay.Goals as goal

pub returns : goal.returns
returns c = record {
  root = root_leads;
  node = node_is_no_match;
  next = λ table trie depth word byte sound lt small leads. next_leads_on table trie sound lt depth word byte small
      leads;
  last = λ table trie depth word le lt sound. none_after table trie (sound_parts table sound).shape lt
      depth word le;
}

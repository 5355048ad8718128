use Rattle.node_expand.specs.Edges.{edge_of}
use Rattle.list_lemmas.proofs.Powers.{bytes_as_bits}
use Rattle.node_expand.proofs.expand.whole_edge.Goals as goal

pub returns : goal.returns
unfolding edge_of
returns c = rw (c.new.ensures, c.ones.ensures, c.from.ensures, ← bytes_as_bits c.args.size)

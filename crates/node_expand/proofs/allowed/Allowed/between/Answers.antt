use Rattle.node_expand.specs.Allowed.{between}
use Rattle.node_expand.proofs.allowed.Allowed.between.Goals as goal
use Rattle.list_lemmas.proofs.Bits.{some_bit_set, some_bit_clear}

pub returns : goal.returns
unfolding between
returns c =
    rw (
      c.byte_at.ensures,
      c.byte_at-2.ensures,
      c.ones-tail.ensures,
      some_bit_set c.low_end-low.result c.args.shift,
      some_bit_clear c.high_end-high.result c.args.shift,
      c.low_end-low.ensures,
      c.high_end-high.ensures,
    )

-- The answer is the same.
use Rattle.pcapng_reader.proofs.blocks.settle_in_parts.Goals as goal

pub returns : goal.returns
returns c before after h = rw c.in_parts.ensures (c.settle.ensures before after h)

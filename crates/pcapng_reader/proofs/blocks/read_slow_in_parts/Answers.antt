-- The answer is the same.
use Rattle.pcapng_reader.proofs.blocks.read_slow_in_parts.Goals as goal

pub returns : goal.returns
returns g c = rw c.in_parts.ensures c.read_slow.ensures

-- The answer is the same.
use Rattle.pcapng_reader.proofs.blocks.read_any_in_parts.Goals as goal

pub returns : goal.returns
returns g c before h = rw c.in_parts.ensures (c.read_any.ensures before h)

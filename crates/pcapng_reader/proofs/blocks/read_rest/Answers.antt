-- What a block comes to is what the call that reads its rest says.
use Rattle.pcapng_reader.proofs.blocks.read_rest.Goals as goal

pub returns-in-Some : goal.returns-in-Some
returns-in-Some g c = c.read_within.ensures

pub returns-in-None : goal.returns-in-None
returns-in-None g c = c.read_any_in_parts.ensures

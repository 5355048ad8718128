use Rattle.std.proofs.Common.{arith}
use Rattle.flow_core.proofs.OnWay.{key_of_flight}
use Rattle.flow_core.proofs.flows.take_word.Goals as goal

pub arrive-requires-clause-key : goal.arrive-requires-clause-key
arrive-requires-clause-key c = omega (arith, key_of_flight c.requires.on_way.1, c.requires.fits.room)

use Rattle.std.proofs.Common.{length}
use Rattle.pcapng_reader.proofs.packets.BlockCapture.has_next_in.Given as goal

-- each block that is passed over has twelve bytes at least
abbrev pub decreases-loop-front : goal.decreases-loop-front
decreases-loop-front l = length l.left

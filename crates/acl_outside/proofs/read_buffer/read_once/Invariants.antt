use Rattle.std.specs.Io.KnownBytes.{Keeps}
use Rattle.acl_outside.proofs.read_buffer.read_once.Given as goal

-- the reads so far were interrupted, and lost nothing
abbrev pub invariant-loop : goal.invariant-loop
invariant-loop g l = Keeps (g.F.Read.remaining l.initial.file) (g.F.Read.remaining l.file)

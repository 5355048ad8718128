-- The rules so far.
use Rattle.list_lemmas.proofs.Loops.{Joined}
use Rattle.cisco_reader.specs.Packets.{service_rules}
use Rattle.cisco_reader.proofs.boxes.put_paired.Given as goal

-- there are those of each service so far
abbrev pub invariant-loop-service : goal.invariant-loop-service
invariant-loop-service l =
    Joined (service_rules l.pairs) l.services l.service-index l.fn.rules.items l.rules.items

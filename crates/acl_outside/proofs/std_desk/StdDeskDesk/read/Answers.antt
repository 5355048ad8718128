-- The bytes that are held are the next of the opened file.
use Rattle.acl_outside.proofs.HeldLaws.{Consumes-held-of}
use Rattle.acl_outside.proofs.std_desk.StdDeskDesk.read.Goals as goal

pub returns-then-into-len-clause-next : goal.returns-then-into-len-clause-next
returns-then-into-len-clause-next g c =
    rw (← c.self.view_is) (rw (c.give-count.ensures.given, c.give-count.ensures.left)
    (Consumes-held-of c.give-count.result c.self.inside.buffer _ c.self.inside.opened))

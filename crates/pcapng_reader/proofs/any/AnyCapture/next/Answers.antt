-- The reader of the format goes on, and so does the capture.
use Rattle.std.proofs.Common.{refl}
use Rattle.pcapng_reader.proofs.any.AnyCapture.next.Goals as goal

pub returns-in-Blocks : goal.returns-in-Blocks
returns-in-Blocks g c = (
  (refl, λ x. tt, rw (← c.self.view_is, c.in-Blocks.is) (rw c.in-Blocks.is at c.next.follows.holds-at-none)),
  record { next = tt },
)

pub returns-in-Savefile : goal.returns-in-Savefile
returns-in-Savefile g c = (
  (
    refl,
    λ x. tt,
    rw (← c.self.view_is, c.in-Savefile.is) (rw c.in-Savefile.is at c.next_of_savefile.follows.holds-at-none),
  ),
  record { next = tt },
)

-- The next record of a savefile was taken.
use Rattle.std.proofs.Common.{None, Ok, Err, refl}
use Rattle.pcapng_reader.proofs.TellLaws.{TakesNext-savefile}
use Rattle.pcapng_reader.proofs.any.next_of_savefile.Goals as goal

pub returns-in-Err : goal.returns-in-Err
returns-in-Err g c = (
  (
    refl,
    λ x. tt,
    TakesNext-savefile c.args.capture.now c.next.follows.lender-at-none (g.D.Desk.view c.args.desk.now)
        (g.D.Desk.view c.next.new.desk) (Err c.in-Err.fault) c.in-Err.ensures.record (rw c.in-Err.is at
        c.next.follows.holds-at-none),
  ),
  record { next = tt },
)

pub returns-in-Ok-Some : goal.returns-in-Ok-Some
returns-in-Ok-Some g c = (
  (
    refl,
    λ x. tt,
    rw c.link-link.ensures
        (TakesNext-savefile c.args.capture.now c.next.follows.lender-at-none (g.D.Desk.view c.args.desk.now)
        (g.D.Desk.view c.next.new.desk) _ (rw c.in-Ok-Some.field-0-is at c.in-Ok-Some.ensures.record)
        (rw (c.in-Ok-Some.is, c.in-Ok-Some.field-0-is) at c.next.follows.holds-at-none)),
  ),
  record { next = tt },
)

pub returns-in-Ok-None : goal.returns-in-Ok-None
returns-in-Ok-None g c = (
  (
    refl,
    λ x. tt,
    TakesNext-savefile c.args.capture.now c.next.follows.lender-at-none (g.D.Desk.view c.args.desk.now)
        (g.D.Desk.view c.next.new.desk) (Ok None) (rw c.in-Ok-None.field-0-is at c.in-Ok-None.ensures.record)
        (rw (c.in-Ok-None.is, c.in-Ok-None.field-0-is) at c.next.follows.holds-at-none),
  ),
  record { next = tt },
)

-- The slice is full, or the end of the file was met, or a read failed.
use Rattle.std.proofs.Common.{◌≡◌, ◌<◌, length, take, refl, ◌∙◌, arith, length-take}
use Rattle.acl_outside.specs.declared.desk.Failed.{Failed}
use Rattle.pcapng_reader.proofs.ReadLaws.{HasRead-full, HasRead-short, HasBroken-from}
use Rattle.pcapng_reader.proofs.long.fill_part.Goals as goal

pub returns-in-Ok-clause-more : goal.returns-in-Ok-clause-more
returns-in-Ok-clause-more g c state part before h =
    let all : c.in-Ok.len ≡ length c.args.into.now = c.if-len-into.true ∙ c.fill.auto.into in (
      c.fill.new.into,
      refl,
      HasRead-full {E = Failed} state part c.args.into.now c.fill.new.into before (g.D.Desk.view c.args.desk.now)
          (g.D.Desk.view c.fill.new.desk) h c.fill.auto.into (rw all at c.in-Ok.ensures),
    )

pub returns-in-Ok-2-clause-more : goal.returns-in-Ok-2-clause-more
returns-in-Ok-2-clause-more g c state part before h =
    let less : c.in-Ok.len < length c.args.into.now =
    omega (arith, c.in-Ok.ensures.within, c.if-len-into.false, c.fill.auto.into) in (
      refl,
      (
        take c.in-Ok.len c.fill.new.into,
        omega (arith, less, length-take c.in-Ok.len c.fill.new.into),
        HasRead-short state part c.args.into.now c.fill.new.into c.in-Ok.len before (g.D.Desk.view c.args.desk.now)
            (g.D.Desk.view c.fill.new.desk) h less c.in-Ok.ensures,
      ),
    )

pub returns-in-Err-clause-more : goal.returns-in-Err-clause-more
returns-in-Err-clause-more g c state part before h =
    HasBroken-from state part c.args.into.now c.fill.new.into c.in-Err.field-0 before (g.D.Desk.view c.args.desk.now)
    (g.D.Desk.view c.fill.new.desk) h c.in-Err.ensures

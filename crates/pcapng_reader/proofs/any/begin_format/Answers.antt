-- The first four bytes tell the format.
use Rattle.std.proofs.Common.{◌<◌, ◌∙◌, ℕ, List, [], ◌∷◌, Ok, Err, refl, sym, subst, arith}
use Rattle.std.proofs.lemmas.Bool.{false≢true}
use Rattle.std.proofs.lemmas.Slice.Eq.{bytes_eq-Decides}
use Rattle.acl_outside.specs.declared.desk.Failed.{Failed}
use Rattle.pcapng_reader.specs.Capture.{Savefile, Blocks, section_bytes}
use Rattle.pcapng_reader.specs.Reader.{ReadsStart}
use Rattle.pcapng_reader.proofs.StartLaws.{ReadsStart-short, ReadsStart-failed, ReadsStart-blocks, ReadsStart-savefile}
use Rattle.pcapng_reader.proofs.any.begin_format.Goals as goal

-- room for four bytes
abbrev zeros : List ℕ
zeros = 0 ∷ 0 ∷ 0 ∷ 0 ∷ []

pub returns-in-Ok : goal.returns-in-Ok
returns-in-Ok g c =
    let less : c.in-Ok.field-0 < 4 = omega (arith, c.in-Ok.ensures.within, c.in-Ok.field-0-test) in
    ReadsStart-short zeros c.fill.new.into c.in-Ok.field-0 (g.D.Desk.view c.args.desk.now)
    (g.D.Desk.view c.fill.new.desk) refl less c.in-Ok.ensures

pub returns-in-Err : goal.returns-in-Err
returns-in-Err g c =
    ReadsStart-failed c.in-Err.field-0 zeros c.fill.new.into (g.D.Desk.view c.args.desk.now)
    (g.D.Desk.view c.fill.new.desk) refl c.in-Err.ensures

pub returns-then-eq : goal.returns-then-eq
returns-then-eq g c =
    subst (λ s. ReadsStart (g.D.Desk.view c.args.desk.now) (g.D.Desk.view c.fill.new.desk) (Ok (Blocks s)))
    (sym (c.new.ensures ∙ c.requires.reader))
    (ReadsStart-blocks {E = Failed} zeros c.fill.new.into (g.D.Desk.view c.args.desk.now) (g.D.Desk.view
    c.fill.new.desk)
    refl c.fill.auto.into (rw c.in-Ok-eq4.field-0-test at c.in-Ok-eq4.ensures)
    ((bytes_eq-Decides c.fill.new.into section_bytes).0 (sym c.if-eq.ensures)))

pub returns-in-Ok-begin_in : goal.returns-in-Ok-begin_in
returns-in-Ok-begin_in g c =
    let old = g.D.Desk.view c.args.desk.now in
    let new = g.D.Desk.view c.begin_in.new.desk in
    let start = c.in-Ok-begin_in.capture.start in
    subst (λ s. ReadsStart old new (Ok (Savefile s))) (sym c.in-Ok-begin_in.ensures.0)
    (ReadsStart-savefile {E = Failed} zeros c.fill.new.into (Ok start) old (g.D.Desk.view c.fill.new.desk) new refl
    c.fill.auto.into (rw c.in-Ok-eq4.field-0-test at c.in-Ok-eq4.ensures)
    (λ e. false≢true (c.if-eq.ensures ∙ (bytes_eq-Decides c.fill.new.into section_bytes).1 e))
    c.in-Ok-begin_in.ensures.1)

pub returns : goal.returns
returns g c =
    ReadsStart-savefile {E = Failed} zeros c.fill.new.into (Err c.in-Err-begin_in.fault) (g.D.Desk.view c.args.desk.now)
    (g.D.Desk.view c.fill.new.desk) (g.D.Desk.view c.begin_in.new.desk) refl c.fill.auto.into
    (rw c.in-Ok-eq4.field-0-test at c.in-Ok-eq4.ensures)
    (λ e. false≢true (c.if-eq.ensures ∙ (bytes_eq-Decides c.fill.new.into section_bytes).1 e))
    c.in-Err-begin_in.ensures

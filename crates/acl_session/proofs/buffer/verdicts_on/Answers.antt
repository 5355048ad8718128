use Rattle.std.proofs.Common.{◌≡◌, ℕ, Some, List, drop, length, refl, sym, ap, ◌∙◌, arith}
use Rattle.std.proofs.Math.Seq.{take-append_seam}
use Rattle.field_defs.specs.Layout.{key_of}
use Rattle.acl_session.proofs.Verdicts.{none_held, verdicts_held}
use Rattle.acl_session.proofs.buffer.verdicts_on.Goals as goal

pub returns-then-write_verdicts-clause-said : goal.returns-then-write_verdicts-clause-said
returns-then-write_verdicts-clause-said c = λ held holds.
    let new : List ℕ = c.write_verdicts.new.verdicts in
    let rest : List ℕ = drop (length new) c.in_ok-verdicts.verdicts.items in
    let len : c.in_ok-verdicts.verdicts.len ≡ length new =
    omega (arith, c.in_ok-verdicts.ensures.len, c.write_verdicts.ensures.len) in
    ap Some (rw len (take-append_seam new rest))
    ∙ verdicts_held held c.args.context.now c.args.cats.count c.args.buffer.now
    (key_of c.args.context.now.set.layout c.args.buffer.now) new holds
    (sym c.write_verdicts.ensures.built ∙ c.if-write_verdicts.true) refl c.write_verdicts.ensures.served

pub returns-clause-said : goal.returns-clause-said
returns-clause-said c = λ held holds.
    none_held held c.args.context.now c.args.cats.count c.args.buffer.now holds
    (sym c.write_verdicts.ensures.built ∙ c.if-write_verdicts.false)

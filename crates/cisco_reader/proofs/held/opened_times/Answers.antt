-- What lines make, by how many times are left.
use Rattle.std.proofs.Common.{◌≡◌, ◌<◌, Some, None, sym, ap, ◌∙◌, subst, arith}
use Rattle.cisco_reader.specs.Held.{all_opened, first_naming, max_depth, number_at, opened_times}
use Rattle.cisco_reader.specs.Read.{Fails}
use Rattle.cisco_reader.proofs.Opening.{loop_at, not_opened, opened_loop, opened_none, opened_once}
use Rattle.cisco_reader.proofs.held.opened_times.Goals as goal

pub returns-then-times-eq0 : goal.returns-then-times-eq0
returns-then-times-eq0 c =
    let groups = c.args.groups.now in
    let kind = c.args.kind.now in
    let made = c.loop-place.made.items in
    let named : first_naming made ≡ Some c.in-Some.place =
    sym (c.in-Some.ensures.place ∙ ap first_naming c.deref.ensures.value) in
    let there = c.number_at.ensures
    ∙ ap (λ lines. number_at lines c.in-Some.place) c.deref-then-times-eq0.ensures.value in
    subst (Fails (opened_times max_depth groups kind c.args.number c.args.lines.items)) (sym c.line_fault.ensures)
    (c.loop-place.invariant
    ∙ ap (λ times. opened_times times groups kind c.args.number made) c.if-times-eq0.true
    ∙ opened_loop groups kind c.args.number made c.in-Some.place named
    ∙ ap loop_at (sym there))

pub returns-in-Err : goal.returns-in-Err
returns-in-Err c =
    let groups = c.args.groups.now in
    let kind = c.args.kind.now in
    let made = c.loop-place.made.items in
    let named : first_naming made ≡ Some c.in-Some.place =
    sym (c.in-Some.ensures.place ∙ ap first_naming c.deref.ensures.value) in
    let some : 0 < c.loop-place.times = omega (arith, c.if-times-eq0.false) in
    let said = subst (λ lines. Fails (all_opened groups kind c.args.number lines) c.in-Err.fault)
    c.deref-in-Some.ensures.value c.in-Err.ensures in
    subst (λ made_of. Fails made_of c.in-Err.fault) (sym c.loop-place.invariant)
    (not_opened c.loop-place.times groups kind c.args.number made c.in-Some.place some named c.in-Err.fault said)

pub loop-place-preserved : goal.loop-place-preserved
loop-place-preserved c =
    let groups = c.args.groups.now in
    let kind = c.args.kind.now in
    let made = c.loop-place.made.items in
    let named : first_naming made ≡ Some c.in-Some.place =
    sym (c.in-Some.ensures.place ∙ ap first_naming c.deref.ensures.value) in
    let some : 0 < c.loop-place.times = omega (arith, c.if-times-eq0.false) in
    let said = ap (all_opened groups kind c.args.number) (sym c.deref-in-Some.ensures.value) ∙ c.in-Ok.ensures in
    c.loop-place.invariant
    ∙ opened_once c.loop-place.times groups kind c.args.number made c.in-Ok.more.items c.in-Some.place some named said

pub returns : goal.returns
returns c =
    let made = c.loop-place.made.items in
    let none : first_naming made ≡ None =
    sym (c.in_default.ensures.place ∙ ap first_naming c.deref.ensures.value) in
    c.loop-place.invariant ∙ opened_none c.loop-place.times c.args.groups.now c.args.kind.now c.args.number made none

use Rattle.std.proofs.Common.{◌≡◌, false, nat_eq, codes, drop, ap, ◌∙◌, sym, add-one, arith}
use Rattle.std.proofs.lemmas.List.{take_rest}
use Rattle.std.specs.List.{starts_with}
use Rattle.text_scan.specs.Ip6.{gap_place}
use Rattle.text_scan.proofs.Addresses.{gap_place-past}
use Rattle.text_scan.proofs.ip6.find_gap.Goals as goal

pub loop-place-preserved : goal.loop-place-preserved
loop-place-preserved c =
    let text = c.args.text.now in
    let place = c.loop-place.place in
    let other : starts_with nat_eq (drop place text) (codes "::") ≡ false =
    ap (λ rest. starts_with nat_eq rest (codes "::")) (sym (take_rest text place))
    ∙ sym c.if-starts_with.ensures.value in
    let past = gap_place-past text place (omega arith) other in
    let named = ap (λ n. gap_place (drop n text)) (add-one place) in
    omega (arith, past, named, c.loop-place.invariant)

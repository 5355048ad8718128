use Rattle.std.proofs.Common.{◌∷◌, length, refl, sym, ap, ◌∙◌, arith}
use Rattle.std.proofs.lemmas.Bool.{ne_eqb}
use Rattle.text_scan.specs.Parts.{dot, parts_of}
use Rattle.text_scan.proofs.Addresses.{ip4_of-four, ip4_of-other}
use Rattle.text_scan.proofs.ip4.ip4_text.Goals as goal

pub returns-in_err-first : goal.returns-in_err-first
returns-in_err-first c =
    c.from_residual.ensures ∙ sym (ip4_of-other c.args.bytes.now _ c.in_err-first.ensures.parts refl)

pub returns-in_err-second : goal.returns-in_err-second
returns-in_err-second c =
    let first = c.in_ok-first.first.now in
    let parts = c.in_ok-first.ensures.parts ∙ ap (λ rest. first ∷ rest) c.in_err-second.ensures.parts in
    c.from_residual-in_err-second.ensures ∙ sym (ip4_of-other c.args.bytes.now _ parts refl)

pub returns-in_err-third : goal.returns-in_err-third
returns-in_err-third c =
    let first = c.in_ok-first.first.now in
    let second = c.in_ok-second.second.now in
    let parts = c.in_ok-first.ensures.parts ∙ ap (λ rest. first ∷ rest) c.in_ok-second.ensures.parts in
    let count = ne_eqb (length (first ∷ second ∷ parts_of dot c.in_ok-second.rest.now)) 4
    (λ four. c.in_err-third.ensures.parts (omega (arith, four))) in
    c.from_residual-in_err-third.ensures ∙ sym (ip4_of-other c.args.bytes.now _ parts count)

pub returns : goal.returns
returns c =
    let first = c.in_ok-first.first.now in
    let second = c.in_ok-second.second.now in
    let rest = c.in_ok-second.ensures.parts ∙ ap (λ last. second ∷ last) c.in_ok-third.ensures.parts in
    let parts = c.in_ok-first.ensures.parts ∙ ap (λ more. first ∷ more) rest in
    c.address_of.ensures
    ∙ sym (ip4_of-four c.args.bytes.now first second c.in_ok-third.third.now c.in_ok-third.fourth.now parts)

use Rattle.std.proofs.Common.{◌≡◌, [], ◌∷◌, length, refl, rules, arith}
use Rattle.text_scan.specs.Ip4Text.{ip4_spelling}
use Rattle.list_lemmas.proofs.Texts.{four_fit}
use Rattle.text_scan.proofs.Addresses.{length-ip4_spelling-le}
use Rattle.text_scan.specs.Parts.{dot}
use Rattle.text_scan.proofs.ip4.put_ip4.Goals as goal

pub put_groups-requires-clause-room : goal.put_groups-requires-clause-room
put_groups-requires-clause-room c =
    four_fit dot (c.from.result ∷ c.from-2.result ∷ c.from-3.result ∷ c.from-4.result ∷ [])
    (c.from.type_inv, (c.from-2.type_inv, (c.from-3.type_inv, (c.from-4.type_inv, tt))))
    refl

pub returns-clause-fits : goal.returns-clause-fits
returns-clause-fits c =
    let len : c.put_groups.result ≡ length (ip4_spelling c.args.value) = search rules in
    omega (arith, len, length-ip4_spelling-le c.args.value)

use Rattle.std.proofs.Common.{◌≡◌, [], ◌∷◌, length, refl, rules, arith}
use Rattle.text_scan.specs.Ip6Text.{ip6_spelling}
use Rattle.list_lemmas.proofs.Texts.{eight_fit}
use Rattle.text_scan.proofs.Addresses.{length-ip6_spelling-le}
use Rattle.text_scan.specs.Parts.{colon}
use Rattle.text_scan.proofs.ip6.put_ip6.Goals as goal

pub put_groups-requires-clause-room : goal.put_groups-requires-clause-room
put_groups-requires-clause-room c =
    let fits = eight_fit colon
    (c.piece_at.result ∷ c.piece_at-2.result ∷ c.piece_at-3.result ∷ c.piece_at-4.result
    ∷ c.piece_at-5.result ∷ c.piece_at-6.result ∷ c.piece_at-7.result ∷ c.piece_at-8.result ∷ []) (search rules) refl in
    omega arith

pub returns-clause-fits : goal.returns-clause-fits
returns-clause-fits c =
    let len : c.put_groups.result ≡ length (ip6_spelling c.args.value) = search rules in
    omega (arith, len, length-ip6_spelling-le c.args.value)

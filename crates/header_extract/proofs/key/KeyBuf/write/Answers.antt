use Rattle.std.proofs.Common.{◌≡◌, ◌+◌, ◌-◌, length, refl, arith}
use Rattle.list_lemmas.proofs.Parts.{put_mid-in_turn}
use Rattle.header_extract.proofs.key.KeyBuf.write.Goals as goal

pub returns : goal.returns
returns c =
    let n = length c.args.addresses.now in
    let one : 1 + n - 1 ≡ n = omega arith in
    let four : 1 + n + 4 - (1 + n) ≡ 4 = omega arith in
    let whole : 1 + n + 4 ≡ 5 + n = omega arith in
    rw (c.copy_from_slice.ensures.after, c.copy_from_slice-2.ensures.after, one, four, ← whole)
    (put_mid-in_turn n 4 c.args.self.now.bytes c.args.addresses.now c.args.ports c.args.protocol (omega arith) refl)

use Rattle.std.proofs.Common.{◌≡◌, ◌-◌, arith}
use Rattle.std.proofs.lemmas.Nat.Bits.{ones_shr}
use Rattle.node_expand.proofs.allowed.ones.Goals as goal

pub returns-else-count-eq0 : goal.returns-else-count-eq0
returns-else-count-eq0 c =
    let back : 64 - (64 - c.args.count) ≡ c.args.count = omega arith in
    rw (ones_shr 64 (64 - c.args.count) (omega arith), back)

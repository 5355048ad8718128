-- A number of 8 bits is below 256.
use Rattle.std.proofs.Common.{◌≡◌, ℕ, zero, suc, ◌<◌, List, [], ◌∷◌, length, refl, arith, get_or}
use Rattle.capture_report.proofs.packet.are_bytes.Goals as goal

get_or_any : (xs : List ℕ) (k d e : ℕ) → k < length xs → get_or xs k d ≡ get_or xs k e
get_or_any [] k d e h = absurd (omega arith)
get_or_any (x ∷ xs) zero d e h = refl
get_or_any (x ∷ xs) (suc k) d e h = get_or_any xs k d e (omega arith)

pub returns : goal.returns
returns c = λ k d below. omega (arith, get_or_any c.args.bytes.now k d 0 below, c.type_inv.bytes k)

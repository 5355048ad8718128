-- The numbers of a prefix are in 64 bits.
use Rattle.std.proofs.Common.{◌≡◌, ℕ, ◌+◌, ◌-◌, ◌*◌, ◌/◌, ◌^◌, ◌<◌, ◌≤◌, ap, ◌∙◌, subst, arith}
use Rattle.std.proofs.Math.Nat.{div-lt_iff_lt-mul, add-mul, mul-le-mul_right}
use Rattle.std.proofs.lemmas.Nat.{pow-add, pow_pos}

-- the greatest of them too
pub prefix_within : (number free : ℕ) → free ≤ 64 → number < 2 ^ 64
    → number / 2 ^ free * 2 ^ free + 2 ^ free ≤ 2 ^ 64
prefix_within number free few within =
    let size = 2 ^ free in
    let parts : 64 ≡ 64 - free + free = omega (arith, few) in
    let whole : 2 ^ 64 ≡ 2 ^ (64 - free) * size = ap (λ n. 2 ^ n) parts ∙ pow-add 2 (64 - free) free in
    let below = div-lt_iff_lt-mul {k = size} {x = number} {y = 2 ^ (64 - free)} (pow_pos free) in
    let place : number / size < 2 ^ (64 - free) = below.1 (subst (λ n. number < n) whole within) in
    let next : number / size + 1 ≤ 2 ^ (64 - free) = omega (arith, place) in
    let above = mul-le-mul_right {m = number / size + 1} {n = 2 ^ (64 - free)} size next in
    omega (arith, above, add-mul (number / size) 1 size, whole)

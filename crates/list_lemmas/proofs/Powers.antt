-- Powers of 2, of 256 and of 65,536: of bits, of bytes, and of numbers of 16 bits.
use Rattle.std.proofs.Common.{◌≡◌, ℕ, zero, suc, ◌*◌, ◌^◌, refl, ap, sym, ◌∙◌, arith, ◌+◌, ◌<◌, ◌≤◌, ◌-◌, ◌%◌, Bool}
use Rattle.std.proofs.Common.{false, true, if◌then◌else◌, nat_lt, inl, inr, ◌/◌, ◌==◌, List, [], ◌∷◌, map}
use Rattle.std.proofs.Math.Nat.{mul-suc, pow-suc, mul-le-mul_right, one-le-pow, mul_assoc, mod-eq_of_lt, zero-mod}
use Rattle.std.proofs.Math.Nat.{pow-le-pow_right, div-eq_of_lt, div-div-eq-div-mul, pow-zero, div-one}
use Rattle.std.proofs.lemmas.Nat.{pow-add, pow_pos, mod-mul-add, le-div, div-add-mod'}
use Rattle.std.proofs.Math.Pow.{ones_split}
use Rattle.std.proofs.lemmas.Bool.{lt-ltb, ne_eqb, cases_lt, le-ltb, eq-eqb}
use Rattle.std.specs.List.{fold}

-- the numbers of a size are those of eight bits for each byte
pub bytes_as_bits : (size : ℕ) → 2 ^ (8 * size) ≡ 256 ^ size
bytes_as_bits zero = refl
bytes_as_bits (suc n) = rw (mul-suc 8 n, pow-add 2 (8 * n) 8, pow-suc 256 n, bytes_as_bits n)

-- a power of 65536 is one of 2
pub power_of_two : (k : ℕ) → 2 ^ (16 * k) ≡ 65536 ^ k
power_of_two zero = refl
power_of_two (suc k) =
    ap (λ n. 2 ^ n) (mul-suc 16 k) ∙ pow-add 2 (16 * k) 16 ∙ ap (λ n. n * 65536) (power_of_two k)
    ∙ sym (pow-suc 65536 k)

-- a value of so many numbers stays below the power of more, when it moves up
pub moved_below : (value count k total : ℕ) → value < 65536 ^ count → count + k ≡ total
    → value * 65536 ^ k + 65536 ^ k ≤ 65536 ^ total
moved_below value count k total below sum =
    omega (arith, mul-le-mul_right (65536 ^ k) below, pow-add 65536 count k, ap (λ n. 65536 ^ n) sum)

-- a value of so many numbers, moved to the top of 128 bits by two shifts
pub moved_to_top : (value count : ℕ) → count ≤ 7 → value < 65536 ^ count
    → value * 2 ^ (16 * (7 - count)) % 2 ^ 128 * 65536 % 2 ^ 128 ≡ value * 65536 ^ (8 - count)
moved_to_top value count few below =
    let first : value * 2 ^ (16 * (7 - count)) ≡ value * 65536 ^ (7 - count) =
    ap (λ n. value * n) (power_of_two (7 - count)) in
    let positive = one-le-pow (7 - count) 65536 (omega arith) in
    let bound = moved_below value count (7 - count) 7 below (omega arith) in
    let small : value * 2 ^ (16 * (7 - count)) < 2 ^ 112 = omega (arith, first, positive, bound) in
    let product : value * 65536 ^ (7 - count) * 65536 ≡ value * 65536 ^ (8 - count) =
    mul_assoc value (65536 ^ (7 - count)) 65536
    ∙ ap (λ n. value * n) (sym (pow-suc 65536 (7 - count)) ∙ ap (λ n. 65536 ^ n) (omega arith)) in
    ap (λ n. n * 65536 % 2 ^ 128) (mod-eq_of_lt {n = value * 2 ^ (16 * (7 - count))} {m = 2 ^ 128} (omega arith))
    ∙ mod-eq_of_lt {n = value * 2 ^ (16 * (7 - count)) * 65536} {m = 2 ^ 128} (omega arith)
    ∙ ap (λ n. n * 65536) first ∙ product

-- and the sum with the numbers below it
pub top_and_bottom : (value count lower others : ℕ) → count + others ≤ 7 → value < 65536 ^ count
    → lower < 65536 ^ others → value * 65536 ^ (8 - count) + lower < 2 ^ 128
top_and_bottom value count lower others few below small =
    omega (
      arith,
      moved_below value count (8 - count) 8 below (omega arith),
      pow-le-pow_right {n = 65536}
          (omega arith) {i = others} {j = 8 - count} (omega arith),
    )

-- fewer than eight numbers of 16 bits spell one of 112 bits
pub seven_pieces : (value count : ℕ) → value < 65536 ^ count → count < 8 → value < 2 ^ 112
seven_pieces value count before few =
    omega (arith, pow-le-pow_right {n = 65536} (omega arith) {i = count} {j = 7} (omega arith))

-- some bytes can spell some number
pub bytes_above_0 : (bytes : ℕ) → 0 < 256 ^ bytes
bytes_above_0 bytes = one-le-pow bytes 256 (omega arith)

-- how many bits lie after a place, and how many numbers they can spell
pub shift_count : (size place : ℕ) → 2 ^ (8 * (size - 1 - place)) ≡ 256 ^ (size - (place + 1))
shift_count size place =
    let after : size - 1 - place ≡ size - (place + 1) = omega arith in
    rw after (bytes_as_bits (size - (place + 1)))

-- the end of the greatest number of eight bytes is the greatest of fewer
pub greatest_end : (bytes : ℕ) → bytes ≤ 8 → (2 ^ 64 - 1) % 256 ^ bytes ≡ 256 ^ bytes - 1
greatest_end bytes within =
    let bits : 64 - 8 * bytes + 8 * bytes ≡ 64 = omega arith in
    let parts : 2 ^ 64 - 1 ≡ (2 ^ (64 - 8 * bytes) - 1) * 2 ^ (8 * bytes) + (2 ^ (8 * bytes) - 1) =
    rw bits at (ones_split (64 - 8 * bytes) (8 * bytes)) in
    rw (parts, ← bytes_as_bits bytes) (mod-mul-add (2 ^ (64 - 8 * bytes) - 1) (2 ^ (8 * bytes)) (2 ^ (8 * bytes) - 1)
    (omega (arith, pow_pos (8 * bytes))))

-- an end that is inner keeps its last bytes, and another one is outermost in these
pub inner_low : (inner : Bool) (low count : ℕ) → (if inner then low else 0) % count ≡ (if inner then low % count else 0)
inner_low true low count = refl
inner_low false low count = zero-mod count

-- the upper end likewise
pub inner_high : (inner : Bool) (high bytes : ℕ) → bytes ≤ 8 →
    (if inner then high else 2 ^ 64 - 1) % 256 ^ bytes ≡ (if inner then high % 256 ^ bytes else 256 ^ bytes - 1)
inner_high true high bytes within = refl
inner_high false high bytes within = greatest_end bytes within

-- a number of 64 bits is a number of eight bytes and of more
pub number_of_eight_bytes : (number size : ℕ) → number < 2 ^ 64 → 8 ≤ size → nat_lt number (256 ^ size) ≡ true
number_of_eight_bytes number size fits wide =
    let eight : 256 ^ 8 ≤ 256 ^ size = pow-le-pow_right {n = 256} (omega arith) wide in
    lt-ltb number (256 ^ size) (omega (arith, eight))

-- nothing is left of a number of the size above the bits of the size
pub nothing_above_the_bits : (number size : ℕ) → (number / 2 ^ (8 * size) == 0) ≡ nat_lt number (256 ^ size)
nothing_above_the_bits number size = rw (← bytes_as_bits size)
    (elim (cases_lt number (2 ^ (8 * size))) [
      | inl below ↦ eq-eqb _ _ (div-eq_of_lt below) ∙ sym (lt-ltb _ _ below)
      | inr above ↦
          let some : 1 ≤ number / 2 ^ (8 * size) =
          le-div 1 number (2 ^ (8 * size)) (pow_pos (8 * size)) (omega arith) in
          ne_eqb _ _ (λ none. omega arith) ∙ sym (le-ltb _ _ above)
    ])

-- numbers of a size have the same leading bits where none are asked for
pub same_leading_no_bits : (value size x : ℕ) → value < 256 ^ size → x < 256 ^ size →
    x / 2 ^ (8 * size) ≡ value / 2 ^ (8 * size)
same_leading_no_bits value size x value_fits x_fits =
    let value_small : value < 2 ^ (8 * size) = rw (bytes_as_bits size) value_fits in
    let x_small : x < 2 ^ (8 * size) = rw (bytes_as_bits size) x_fits in
    div-eq_of_lt x_small ∙ sym (div-eq_of_lt value_small)

-- the places below a number, the greatest first
abbrev pub descending : ℕ → List ℕ
descending zero = []
descending (suc k) = k ∷ descending k

-- the digits of a number down to a place, and one place more
pub next_place : (base value k : ℕ) → 0 < base →
    value / base ^ suc k * base + value / base ^ k % base ≡ value / base ^ k
next_place base value k positive =
    ap (λ n. n * base + value / base ^ k % base)
    (ap (λ n. value / n) (pow-suc base k) ∙ sym (div-div-eq-div-mul value (base ^ k) base))
    ∙ div-add-mod' (value / base ^ k) base

-- the numbers at all places spell the number
pub spell_down : (base value k : ℕ) → 0 < base
    → fold (λ n x. n * base + x) (value / base ^ k) (map (λ place. value / base ^ place % base) (descending k)) ≡ value
spell_down base value zero positive = rw (pow-zero base) (div-one value)
spell_down base value (suc k) positive =
    ap (λ n. fold (λ m x. m * base + x) n (map (λ place. value / base ^ place % base) (descending k)))
    (next_place base value k positive) ∙ spell_down base value k positive

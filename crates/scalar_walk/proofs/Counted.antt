-- The words that lanes with keys of their own take together.
use Rattle.std.proofs.Common.{◌≡◌, ℕ, ◌+◌, ◌-◌, ◌<◌, ◌≤◌, List, ltb, cond, refl, ap, ◌∙◌, arith}
use Rattle.std.specs.Prelude.{slice_index, nat_lt, ◌&&◌, if◌then◌else◌}
use Rattle.std.proofs.lemmas.Bool.Decides.{nat_tests}
use Rattle.scalar_walk.specs.Lanes.{counted, counts, ended, sum_below}
use Rattle.scalar_walk.proofs.Below.{sum_agree, sum_both, sum_more, sum_none, sum_split, sum_zero}

-- the sum over four lanes
pub four_of : (f : ℕ → ℕ) → sum_below f 4 ≡ f 0 + f 1 + f 2 + f 3
four_of f = omega (arith, sum_more f 3, sum_more f 2, sum_more f 1, sum_more f 0, sum_none f)

-- what one lane took is more by what it is counted
one_goes : (lane own low taken new : ℕ) → new ≡ taken + cond (ltb low 2147483648) 1 0 →
    (if nat_lt lane own then new else 0)
    ≡ (if nat_lt lane own then taken else 0) + (if nat_lt lane own && nat_lt low ended then 1 else 0)
one_goes lane own low taken new is = grind (arith, nat_tests, is)

-- so what four lanes took is more by what they are counted
pub counted_goes : (lows taken new : List ℕ) (own steps new_steps : ℕ) →
    ((i : ℕ) → i < 4 → slice_index new i ≡ slice_index taken i + cond (ltb (slice_index lows i) 2147483648) 1 0) →
    new_steps ≡ steps + (counts lows own 0 + counts lows own 1 + counts lows own 2 + counts lows own 3) →
    new_steps + counted taken own ≡ steps + counted new own
unfolding counted
counted_goes lows taken new own steps new_steps each is =
    let was = λ (i : ℕ). if nat_lt i own then slice_index taken i else 0 in
    let now = λ (i : ℕ). if nat_lt i own then slice_index new i else 0 in
    omega (
      arith,
      is,
      sum_agree now (λ i. was i + counts lows own i) 4
          (λ i h. one_goes i own (slice_index lows i) (slice_index taken i) (slice_index new i) (each i h)),
      sum_both was (counts lows own) 4,
      four_of (counts lows own),
    )

-- lanes that took nothing took 0 together
pub counted_none : (taken : List ℕ) (own : ℕ) → ((i : ℕ) → i < 4 → slice_index taken i ≡ 0) → counted taken own ≡ 0
unfolding counted
counted_none taken own none =
    let f = λ (i : ℕ). if nat_lt i own then slice_index taken i else 0 in
    sum_agree f (λ i. 0) 4 (λ i h. no_more i own (slice_index taken i) (none i h))
    ∙ sum_zero (λ (i : ℕ). 0) 4 (λ i. refl)
  where
    no_more : (lane own count : ℕ) → count ≡ 0 → (if nat_lt lane own then count else 0) ≡ 0
    no_more lane own count is = grind (arith, nat_tests, is)

-- what they took together is the sum over them
pub counted_is : (taken : List ℕ) (own : ℕ) → own ≤ 4 → counted taken own ≡ sum_below (λ i. slice_index taken i) own
unfolding counted
counted_is taken own few =
    let f = λ (i : ℕ). if nat_lt i own then slice_index taken i else 0 in
    let rest : ℕ = 4 - own in
    let whole : own + rest ≡ 4 = omega (arith, few) in
    let first : sum_below f own ≡ sum_below (λ i. slice_index taken i) own =
    sum_agree f (λ i. slice_index taken i) own (λ i h. with_key i own (slice_index taken i) h) in
    let last : sum_below (λ i. f (own + i)) rest ≡ 0 =
    sum_zero (λ i. f (own + i)) rest (λ i. without_key i own (slice_index taken (own + i))) in
    omega (arith, ap (λ (n : ℕ). sum_below f n) whole, sum_split f own rest, first, last)
  where
    with_key : (lane own count : ℕ) → lane < own → (if nat_lt lane own then count else 0) ≡ count
    with_key lane own count h = grind (arith, nat_tests, h)

    without_key : (lane own count : ℕ) → (if nat_lt (own + lane) own then count else 0) ≡ 0
    without_key lane own count = grind (arith, nat_tests)

-- Which keys lanes walk, and which lanes have a key of their own.
use Rattle.std.proofs.Common.{◌≡◌, ℕ, ◌+◌, ◌-◌, ◌*◌, ◌<◌, ◌≤◌, sym, ap, ◌∙◌, arith, inl, inr}
use Rattle.std.proofs.lemmas.Bool.Decides.{nat_tests}
use Rattle.scalar_walk.specs.Lanes.{HasRoom, lane_key, own_lanes, sum_below}
use Rattle.scalar_walk.proofs.Below.{sum_agree, sum_none, sum_split}

-- a lane walks a key that is there
pub lane_within : (count lane : ℕ) → 0 < count → lane_key count lane + 1 ≤ count
lane_within count lane some = grind (arith, nat_tests)

-- its own if there is one
pub lane_own : (count lane : ℕ) → lane < count → lane_key count lane ≡ lane
lane_own count lane own = grind (arith, nat_tests)

-- at most four of four lanes have one
pub own_few : (count first : ℕ) → own_lanes count first ≤ 4
own_few count first = grind (arith, nat_tests)

-- none of those after the last key
pub own_none : (count first : ℕ) → count ≤ first → own_lanes count first ≡ 0
own_none count first past = grind (arith, nat_tests, past)

-- a lane among those that have one has one
pub own_below : (count first i : ℕ) → i < own_lanes count first → first + i < count
own_below count first i own = grind (arith, nat_tests, own)

-- those of four lanes and of the later ones are all
own_rest : (count first : ℕ) → own_lanes count first + (count - (first + 4)) ≡ count - first
own_rest count first = grind (arith, nat_tests)

-- where a later lane has one, all four have
own_all : (count first : ℕ) → 0 < count - (first + 4) → own_lanes count first ≡ 4
own_all count first some = grind (arith, nat_tests, some)

-- the sum over the lanes from one on is that over four of them and that over the later ones
pub sum_of_four : (f : ℕ → ℕ) (count first : ℕ) → sum_below (λ i. f (first + i)) (count - first)
    ≡ sum_below (λ i. f (first + i)) (own_lanes count first)
    + sum_below (λ i. f (first + 4 + i)) (count - (first + 4))
sum_of_four f count first =
    let own : ℕ = own_lanes count first in
    let rest : ℕ = count - (first + 4) in
    let g = λ (i : ℕ). f (first + i) in
    let whole : own + rest ≡ count - first = own_rest count first in
    let later : sum_below (λ i. g (own + i)) rest ≡ sum_below (λ i. f (first + 4 + i)) rest =
    sum_agree (λ i. g (own + i)) (λ i. f (first + 4 + i)) rest
    (λ i h. ap f (let all : own ≡ 4 = own_all count first (omega (arith, h)) in omega (arith, all))) in
    ap (λ (n : ℕ). sum_below g n) (sym whole) ∙ sum_split g own rest
    ∙ ap (λ (n : ℕ). sum_below g own + n) later

-- the sum over the lanes of at most sixteen keys goes by fours
pub sum_of_fours : (f : ℕ → ℕ) (count : ℕ) → count ≤ 16 → sum_below f count
    ≡ sum_below (λ i. f (0 + i)) (own_lanes count 0) + sum_below (λ i. f (4 + i)) (own_lanes count 4)
    + sum_below (λ i. f (8 + i)) (own_lanes count 8) + sum_below (λ i. f (12 + i)) (own_lanes count 12)
sum_of_fours f count few =
    let none : count - 16 ≡ 0 = omega (arith, few) in
    let last : sum_below (λ i. f (16 + i)) (count - 16) ≡ 0 =
    ap (λ (n : ℕ). sum_below (λ i. f (16 + i)) n) none ∙ sum_none (λ i. f (16 + i)) in
    let all : sum_below f count ≡ sum_below (λ i. f (0 + i)) (count - 0) =
    sum_agree f (λ i. f (0 + i)) count (λ i h. ap f (omega arith))
    ∙ ap (λ (n : ℕ). sum_below (λ i. f (0 + i)) n) (omega arith) in
    omega (
      arith,
      all,
      last,
      sum_of_four f count 0,
      sum_of_four f count 4,
      sum_of_four f count 8,
      sum_of_four f count 12,
    )

-- own lanes of the four fours are all keys
pub own_of_fours : (count : ℕ) → count ≤ 16 →
    own_lanes count 0 + own_lanes count 4 + own_lanes count 8 + own_lanes count 12 ≡ count
own_of_fours count few =
    omega (arith, few, own_rest count 0, own_rest count 4, own_rest count 8, own_rest count 12)

-- numbers for so many keys that are walked together have a lawful size
pub room_fits : {room count : ℕ} → HasRoom room count →
    (room * 32 < 9223372036854775808) × (room * 4 < 9223372036854775808)
room_fits r = elim r.of [
  | inl sixteen ↦ (omega (arith, sixteen), omega (arith, sixteen))
  | inr wide ↦ (omega (arith, wide), omega (arith, wide))
]

-- at most sixty-four keys are walked together
pub room_few : {room count : ℕ} → HasRoom room count → count ≤ 64
room_few {room = room} {count = count} r = elim r.of [
  | inl sixteen ↦ omega (arith, r.few, sixteen)
  | inr wide ↦ omega (arith, r.few, wide)
]

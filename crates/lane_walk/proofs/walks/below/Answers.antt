use Rattle.std.proofs.Common.{◌≡◌, ℕ, ◌<◌, ◌≤◌, List, w32, ltb, cond, false, arith, length, get_or, ap, ◌∙◌, sym}
use Rattle.std.specs.Prelude.{replicate, slice_index}
use Rattle.std.specs.Simd.Lanes.{zip2, sel_l}
use Rattle.std.proofs.lemmas.Bool.Decides.{nat_tests}
use Rattle.std.proofs.lemmas.List.{get_or-replicate, length-replicate}
use Rattle.std.proofs.lemmas.Simd.{tops_compared, get_or-sel_l, get_or-zip2, length-zip2}
use Rattle.lane_walk.proofs.walks.below.Goals as goal

-- the lesser of two is none above the second
lesser : (p last : ℕ) → cond (ltb p last) p last ≤ last
lesser p last = grind (arith, nat_tests)

-- and the first, if that isn't above it
itself : (p last : ℕ) → p ≤ last → cond (ltb p last) p last ≡ p
itself p last few = grind (arith, nat_tests)

-- what lane i has of the lesser ones of a vector and one number
lane_is : (xs : List ℕ) (last i : ℕ) → length xs ≡ 4 → i < 4 →
    get_or (sel_l (zip2 ltb xs (replicate 4 last)) xs (replicate 4 last)) i 0
    ≡ cond (ltb (get_or xs i 0) last) (get_or xs i 0) last
lane_is xs last i len within =
    let ys : List ℕ = replicate 4 last in
    let long : length ys ≡ 4 = length-replicate 4 last in
    let count : length (zip2 ltb xs ys) ≡ 4 = length-zip2 ltb xs ys (len ∙ sym long) ∙ len in
    let number : get_or ys i 0 ≡ last = get_or-replicate 4 i last 0 within in
    get_or-sel_l (zip2 ltb xs ys) xs ys i 0 (omega (arith, within, count)) (omega (arith, within, len))
    (omega (arith, within, long))
    ∙ (λ j. cond (get_or-zip2 ltb xs ys i 0 0 false (omega (arith, within, len)) (omega (arith, within, long)) j)
    (get_or xs i 0) (get_or ys i 0))
    ∙ (λ j. cond (ltb (get_or xs i 0) (number j)) (get_or xs i 0) (number j))

pub returns-clause-below : goal.returns-clause-below
returns-clause-below c k within =
    let xs : List ℕ = c.args.places in
    let same = tops_compared w32 ltb xs (replicate 4 c.args.last) in
    let is = ap (λ ms. get_or (sel_l ms xs (replicate 4 c.args.last)) k 0) same
    ∙ lane_is xs c.args.last k c.fits-places.0 within in
    omega (arith, is, lesser (slice_index xs k) c.args.last)

pub returns-clause-same : goal.returns-clause-same
returns-clause-same c k within few =
    let xs : List ℕ = c.args.places in
    let same = tops_compared w32 ltb xs (replicate 4 c.args.last) in
    ap (λ ms. get_or (sel_l ms xs (replicate 4 c.args.last)) k 0) same ∙ lane_is xs c.args.last k c.fits-places.0 within
    ∙ itself (slice_index xs k) c.args.last few

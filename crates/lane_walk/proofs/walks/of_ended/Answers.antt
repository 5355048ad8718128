use Rattle.std.proofs.Common.{◌≡◌, ℕ, ◌<◌, ◌^◌, List, Fits, w32, ltb, cond, false, arith, length, get_or, ap, ◌∙◌, sym}
use Rattle.std.specs.Prelude.{replicate}
use Rattle.std.specs.Simd.Lanes.{zip2, sel_l}
use Rattle.std.proofs.lemmas.List.{get_or-replicate, length-replicate}
use Rattle.std.proofs.lemmas.Simd.{Each1-get_or, tops_compared, get_or-sel_l, length-sel_l, get_or-zip2, length-zip2}
use Rattle.lane_walk.proofs.walks.of_ended.Goals as goal

-- how many lanes a comparison with a number has
compared : (xs : List ℕ) (n : ℕ) → length xs ≡ 4 → length (zip2 ltb xs (replicate 4 n)) ≡ 4
compared xs n len = length-zip2 ltb xs (replicate 4 n) (len ∙ sym (length-replicate 4 n)) ∙ len

-- what lane k has of the numbers that the comparison chooses
lane_is : (xs ys zs : List ℕ) (n k : ℕ) → length xs ≡ 4 → length ys ≡ 4 → length zs ≡ 4 → k < 4 →
    get_or (sel_l (zip2 ltb xs (replicate 4 n)) ys zs) k 0
    ≡ cond (ltb (get_or xs k 0) n) (get_or ys k 0) (get_or zs k 0)
lane_is xs ys zs n k len of_ys of_zs within =
    let count = compared xs n len in
    let long : length (replicate 4 n) ≡ 4 = length-replicate 4 n in
    get_or-sel_l (zip2 ltb xs (replicate 4 n)) ys zs k 0 (omega (arith, within, count)) (omega (arith, within, of_ys))
    (omega (arith, within, of_zs))
    ∙ ap (λ b. cond b (get_or ys k 0) (get_or zs k 0))
    (get_or-zip2 ltb xs (replicate 4 n) k 0 0 false (omega (arith, within, len)) (omega (arith, within, long))
    ∙ ap (λ (m : ℕ). ltb (get_or xs k 0) m) (get_or-replicate 4 k n 0 within))

pub returns-clause-len : goal.returns-clause-len
returns-clause-len c =
    let same = tops_compared w32 ltb c.args.lows (replicate 4 (2 ^ 31)) in
    ap (λ ms. length (sel_l ms c.args.second c.args.first)) same
    ∙ length-sel_l (zip2 ltb c.args.lows (replicate 4 (2 ^ 31))) c.args.second c.args.first
    (compared c.args.lows (2 ^ 31) c.fits-lows.0 ∙ sym c.fits-second.0)
    (compared c.args.lows (2 ^ 31) c.fits-lows.0 ∙ sym c.fits-first.0)
    ∙ compared c.args.lows (2 ^ 31) c.fits-lows.0

pub returns-clause-lanes : goal.returns-clause-lanes
returns-clause-lanes c k within =
    let same = tops_compared w32 ltb c.args.lows (replicate 4 (2 ^ 31)) in
    ap (λ ms. get_or (sel_l ms c.args.second c.args.first) k 0) same
    ∙ lane_is c.args.lows c.args.second c.args.first (2 ^ 31) k c.fits-lows.0 c.fits-second.0 c.fits-first.0 within

pub returns-clause-small : goal.returns-clause-small
returns-clause-small c k within =
    (Each1-get_or (Fits w32) c.args.lows k 0 (omega (arith, within, c.fits-lows.0)) c.fits-lows.1).fits

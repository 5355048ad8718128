use Rattle.std.proofs.Common.{◌≡◌, w8, w32, lit<, arith, ap, ◌∙◌, ◌+◌, ◌-◌, ◌*◌, ◌/◌, ◌%◌, ◌^◌, ◌<◌, ℕ}
use Rattle.std.specs.Prelude.{slice_index, min}
use Rattle.scalar_walk.proofs.Halves.{counts, place_is}
use Rattle.scalar_walk.proofs.OneLane.{lane_of, lane_fits, splat, zipped}
use Rattle.scalar_walk.proofs.vectors.next_places.Goals as goal

pub returns-clause-places : goal.returns-clause-places
returns-clause-places c i within node =
    let low : ℕ = slice_index c.args.lows i in
    let high : ℕ = slice_index c.args.highs i in
    let byte : ℕ = slice_index c.args.bytes (4 * i) in
    let part : (k : ℕ) → k < 4 → slice_index c.excess-above.result (4 * i + k) ≡ counts (low / 2 ^ 29) high byte k =
    λ k h. c.excess-above.ensures (4 * i + k) (omega (arith, within, h))
    ∙ (λ j. min (c.requires i k within h j - c.bytes_of.ensures i k within h j)
    ((c.bytes_of-2.ensures i k within h ∙ ap (λ (m : ℕ). m / 256 ^ k % 256) (c.most_of.ensures i within)) j)) in
    let first : 4 * i ≡ 4 * i + 0 = omega arith in
    let index = zipped within _ (lane_of c.fits-lows.0 i) (splat within 536870911) in
    (zipped within _ index (lane_of c.sums.ensures.len i)).at
    ∙ place_is low high byte (slice_index c.sums.result i) (lane_fits w32 c.args.lows c.fits-lows within)
    (lane_fits w8 {n = 16} {i = 4 * i} c.args.bytes c.fits-bytes (omega (arith, within))) node
    (omega (
      arith,
      c.sums.ensures.sums i within,
      ap (λ (k : ℕ). slice_index c.excess-above.result k) first,
      part 0 (omega arith),
      part 1 (omega arith),
      part 2 (omega arith),
      part 3 (omega arith),
    ))

pub returns-clause-len : goal.returns-clause-len
returns-clause-len c =
    let within : 0 < 4 = lit< tt in
    let index = zipped within _ (lane_of c.fits-lows.0 0) (splat within 536870911) in
    (zipped within _ index (lane_of c.sums.ensures.len 0)).len

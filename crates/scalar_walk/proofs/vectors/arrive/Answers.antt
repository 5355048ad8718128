use Rattle.std.proofs.Common.{w32, ltb}
use Rattle.std.specs.Prelude.{slice_index}
use Rattle.scalar_walk.proofs.OneLane.{lane_of, lane_fits, splat, zipped, chosen}
use Rattle.scalar_walk.proofs.Counted.{counted_goes}
use Rattle.scalar_walk.proofs.Stepping.{takes, no_wrap}
use Rattle.scalar_walk.proofs.vectors.arrive.Goals as goal

pub returns-clause-walks : goal.returns-clause-walks
returns-clause-walks g c i within =
    let low = lane_of c.fits-lows.0 i in
    let great = splat within 2147483648 in
    let next_low = chosen within w32 ltb low great (lane_of c.fetch.ensures.lows i) low in
    let next_high = chosen within w32 ltb low great (lane_of c.fetch.ensures.highs i) (lane_of c.fits-highs.0 i) in
    let more = chosen within w32 ltb low great (splat within 1) (splat within 0) in
    takes (slice_index c.args.lows i) (slice_index c.args.highs i) (lane_fits w32 c.args.lows c.fits-lows within)
    (c.requires i within) (slice_index c.fetch.result.0 i) (slice_index c.fetch.result.1 i)
    (c.fetch.ensures.words i within) next_low.at next_high.at (zipped within _ (lane_of c.fits-taken.0 i) more).at

pub returns-clause-steps : goal.returns-clause-steps
returns-clause-steps g c =
    counted_goes c.args.lows c.args.taken _ c.args.own c.args.steps.now _
    (λ i within.
    let low = lane_of c.fits-lows.0 i in
    let more = chosen within w32 ltb low (splat within 2147483648) (splat within 1) (splat within 0) in
    no_wrap (slice_index c.args.taken i) (ltb (slice_index c.args.lows i) 2147483648) (c.requires i within).few
    (zipped within _ (lane_of c.fits-taken.0 i) more).at)
    c.fetch.ensures.steps

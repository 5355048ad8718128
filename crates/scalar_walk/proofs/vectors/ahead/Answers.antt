use Rattle.std.proofs.Common.{w32, ltb}
use Rattle.std.specs.Prelude.{slice_index}
use Rattle.scalar_walk.proofs.OneLane.{lane_of, lane_fits, splat, chosen}
use Rattle.scalar_walk.proofs.Stepping.{reads}
use Rattle.scalar_walk.proofs.vectors.ahead.Goals as goal

pub returns : goal.returns
returns c i within =
    let low = lane_of c.fits-lows.0 i in
    let read = chosen within w32 ltb low (splat within 2147483648) (lane_of c.next_places.ensures.len i)
    (splat within 0) in
    reads (slice_index c.args.lows i) (slice_index c.args.highs i) (lane_fits w32 c.args.lows c.fits-lows within)
    (c.next_places.ensures.places i within) read.at

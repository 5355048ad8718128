use Rattle.std.proofs.Common.{w8, ltb, ◌∙◌}
use Rattle.std.specs.Prelude.{slice_index}
use Rattle.scalar_walk.proofs.Halves.{excess_is}
use Rattle.scalar_walk.proofs.OneLane.{lane_of, zipped, chosen, lane_fits}
use Rattle.scalar_walk.proofs.vectors.excess.Goals as goal

pub returns : goal.returns
returns c i within =
    let b = lane_of c.fits-bytes.0 i in
    let d = lane_of c.fits-below.0 i in
    let m = lane_of c.fits-most.0 i in
    let over = zipped within _ (chosen within w8 ltb b d d b) d in
    (chosen within w8 ltb over m over m).at
    ∙ excess_is (slice_index c.args.bytes i) (slice_index c.args.below i) (slice_index c.args.most i)
    (lane_fits w8 c.args.bytes c.fits-bytes within) (lane_fits w8 c.args.below c.fits-below within)
    (lane_fits w8 c.args.most c.fits-most within)

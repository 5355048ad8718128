use Rattle.std.proofs.Common.{w32, eqb, ◌∙◌, ◌/◌, ◌^◌}
use Rattle.std.specs.Prelude.{slice_index}
use Rattle.scalar_walk.proofs.Halves.{most_joined}
use Rattle.scalar_walk.proofs.OneLane.{lane_of, splat, zipped, chosen}
use Rattle.scalar_walk.proofs.vectors.most_of.Goals as goal

pub returns : goal.returns
returns c i within =
    let kind = zipped within _ (lane_of c.fits-lows.0 i) (splat within 29) in
    let of_quad = chosen within w32 eqb kind (splat within 3) (splat within 16843009) (splat within 0) in
    let of_full = chosen within w32 eqb kind (splat within 0) (splat within 255) (splat within 0) in
    (zipped within _ of_quad of_full).at ∙ most_joined (slice_index c.args.lows i / 2 ^ 29)

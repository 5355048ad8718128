use Rattle.std.proofs.Common.{◌≡◌, ℕ, List, ◌+◌, ◌*◌, ◌/◌, ◌<◌, w8, refl, arith, ap, ◌∙◌}
use Rattle.std.specs.Prelude.{slice_index}
use Rattle.std.proofs.lemmas.Simd.{SwzOk-from_below, Each1-from_get_or, get_or-swz_l_below}
use Rattle.scalar_walk.proofs.OneLane.{byte_places, byte_places_len, byte_place}
use Rattle.scalar_walk.proofs.vectors.bytes_in.Goals as goal

pub swizzle : goal.swizzle
swizzle c =
    let firsts = c.first_places.ensures in
    let at : List ℕ = byte_places c.first_places.result c.args.place in
    let len = byte_places_len c.first_places.result c.args.place firsts.len firsts.places c.requires in
    SwzOk-from_below w8 16 1 16 0 at refl (omega (arith, len)) (Each1-from_get_or (λ j. j < 16) at 0 (λ m h.
    omega (
      arith,
      h,
      len,
      c.requires,
      byte_place c.first_places.result c.args.place firsts.len firsts.places c.requires m (omega (arith, h, len)),
    )))

pub returns : goal.returns
returns c i k few part =
    let firsts = c.first_places.ensures in
    let at : List ℕ = byte_places c.first_places.result c.args.place in
    let m : ℕ = 4 * i + k in
    let within : m < 16 = omega (arith, few, part) in
    let is = byte_place c.first_places.result c.args.place firsts.len firsts.places c.requires m within in
    let len = byte_places_len c.first_places.result c.args.place firsts.len firsts.places c.requires in
    let small : slice_index at m < 16 = omega (arith, is, within, c.requires) in
    let there : 16 * ((0 + m) / 16) + slice_index at m ≡ 4 * i + c.args.place = omega (arith, is, within, part) in
    get_or-swz_l_below w8 16 c.args.groups 0 at m (omega (arith, within, len)) small
    ∙ ap (λ (n : ℕ). slice_index c.args.groups n) there

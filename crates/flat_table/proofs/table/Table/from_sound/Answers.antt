use Rattle.std.proofs.Common.{length, arith, ap}
use Rattle.flat_table.specs.Table.{view_of}
use Rattle.flat_table.proofs.Shape.{sound_parts}
use Rattle.flat_table.proofs.table.Table.from_sound.Goals as goal

pub roots_of-roots-requires : goal.roots_of-roots-requires
roots_of-roots-requires c =
    let s = sound_parts (view_of c.args.parts) c.requires in
    omega (arith, s.shape.few, ap length c.deref.ensures.value)

pub places_of-places-requires-clause-key : goal.places_of-places-requires-clause-key
places_of-places-requires-clause-key c =
    let s = sound_parts (view_of c.args.parts) c.requires in
    omega (arith, s.shape.key_bound)

pub places_of-places-requires-clause-few : goal.places_of-places-requires-clause-few
places_of-places-requires-clause-few c =
    let s = sound_parts (view_of c.args.parts) c.requires in
    omega (arith, s.shape.same, s.shape.few)

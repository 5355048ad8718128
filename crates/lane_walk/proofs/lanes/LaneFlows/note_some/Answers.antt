use Rattle.std.proofs.Common.{◌+◌, arith, sym, subst}
use Rattle.std.specs.Prelude.{Option, slice_index}
use Rattle.flow_core.specs.declared.flight.Flight.{Flight}
use Rattle.lane_walk.specs.Turn.{IsPlaceOf}
use Rattle.lane_walk.proofs.NoteSteps.{and_noted, holds_still}
use Rattle.lane_walk.proofs.lanes.LaneFlows.note_some.Goals as goal

pub note_or_take-busy-requires : goal.note_or_take-busy-requires
note_or_take-busy-requires g c =
    let k = c.loop-k.k in
    let place = subst (λ (held : Option Flight). IsPlaceOf c.args.table.now c.args.keys.now held
    (slice_index c.places_from-places.result k))
    (sym (holds_still c.loop-k.invariant (c.args.first + k) (omega arith)))
    (c.places_from-places.ensures k c.loop-k-test.true) in (
      omega (arith, c.requires.width),
      (
        c.requires.width,
        (omega (arith, c.requires.first, c.loop-k-test.true), (c.loop-k.invariant.stands, place)),
      ),
    )

pub loop-k-preserved : goal.loop-k-preserved
loop-k-preserved g c = and_noted c.loop-k.invariant c.note_or_take-busy.ensures

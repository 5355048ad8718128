use Rattle.std.proofs.Common.{◌*◌, ◌/◌, sym, subst, arith, length, refl}
use Rattle.std.specs.Prelude.{Option, IfSome, None, replicate}
use Rattle.std.proofs.lemmas.List.{get_or-replicate, length-replicate}
use Rattle.std.proofs.lemmas.List.Elements.{All-from_get_or}
use Rattle.flow_core.specs.declared.flight.Flight.{Flight}
use Rattle.flow_core.specs.Machine.{Machine}
use Rattle.flow_core.specs.Standing.{IsOnWay, StandsOver}
use Rattle.lane_walk.proofs.Held.{no_flights}
use Rattle.lane_walk.proofs.lanes.LaneFlows.begin_noting.Goals as goal

pub returns-clause-machine : goal.returns-clause-machine
returns-clause-machine g c =
    λ i. record {
      jobs = length c.args.keys.now / c.key_len.ensures.value i * c.tries.ensures.value i;
      given = 0;
      slots = no_flights c.no_flight.result c.no_flight.ensures.held g.row.W i;
    }

pub returns-clause-stands : goal.returns-clause-stands
returns-clause-stands g c = λ rows room.
    let table = c.args.table.now in
    let keys = c.args.keys.now in
    let P = λ (held : Option Flight). IfSome held (IsOnWay table keys 0) in
    subst (λ (machine : Machine). StandsOver table keys machine rows)
    (λ i. record {
      jobs = length keys / sym c.key_len.ensures.value i * sym c.tries.ensures.value i;
      given = 0;
      slots = sym (no_flights c.no_flight.result c.no_flight.ensures.held g.row.W) i;
    })
    record {
      jobs = refl;
      fits = record { whole = c.requires.fits.whole; few = c.requires.fits.few; room = room };
      flights = All-from_get_or P (replicate g.row.W None) None
          (λ i below. subst P (sym (get_or-replicate g.row.W i None None
          (omega (arith, below, length-replicate {A = Option Flight} g.row.W None)))) tt);
    }

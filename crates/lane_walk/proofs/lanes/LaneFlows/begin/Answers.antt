use Rattle.std.proofs.Common.{ℕ, ◌*◌, ◌/◌, List, ap, sym, subst, ◌∙◌, length}
use Rattle.std.specs.Prelude.{Option}
use Rattle.flow_core.specs.declared.flight.Flight.{Flight}
use Rattle.flow_core.specs.Machine.{state_of}
use Rattle.flow_core.specs.Standing.{StandsOver}
use Rattle.flow_core.proofs.Offered.{begun_state, begun_rows, begun_stands}
use Rattle.lane_walk.proofs.Held.{no_flights}
use Rattle.lane_walk.proofs.lanes.LaneFlows.begin.Goals as goal

pub returns-clause-state : goal.returns-clause-state
returns-clause-state g c =
    ap (λ (slots : List (Option Flight)). state_of c.args.table.now c.args.keys.now record {
      jobs = length c.args.keys.now / c.key_len.result * c.tries.result;
      given = 0;
      slots = slots;
    } c.clear.new.self) (no_flights c.no_flight.result c.no_flight.ensures.held g.row.W)
    ∙ begun_state c.args.table.now c.args.keys.now record {
      keys_are = ap (λ (k : ℕ). length c.args.keys.now / k) c.key_len.ensures.value;
      tries_are = c.tries.ensures.value;
      rows_are = c.clear.ensures;
    } g.row.W

pub returns-clause-rows : goal.returns-clause-rows
returns-clause-rows g c = begun_rows c.args.table.now c.args.keys.now record {
  keys_are = ap (λ (k : ℕ). length c.args.keys.now / k) c.key_len.ensures.value;
  tries_are = c.tries.ensures.value;
  rows_are = c.clear.ensures;
}

pub returns-clause-stands : goal.returns-clause-stands
returns-clause-stands g c =
    subst (λ (slots : List (Option Flight)). StandsOver c.args.table.now c.args.keys.now record {
      jobs = length c.args.keys.now / c.key_len.result * c.tries.result;
      given = 0;
      slots = slots;
    } (length c.clear.new.self)) (sym (no_flights c.no_flight.result c.no_flight.ensures.held g.row.W))
    (begun_stands c.args.table.now c.args.keys.now record {
      keys_are = ap (λ (k : ℕ). length c.args.keys.now / k) c.key_len.ensures.value;
      tries_are = c.tries.ensures.value;
      rows_are = c.clear.ensures;
    } g.row.W c.requires.fits)

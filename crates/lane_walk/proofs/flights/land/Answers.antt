use Rattle.std.proofs.Common.{ap, ◌∙◌}
use Rattle.flow_core.specs.declared.flight.Flight.{Flight}
use Rattle.flow_core.specs.Standing.{rows_after}
use Rattle.lane_walk.proofs.Fours.{come}
use Rattle.lane_walk.proofs.flights.land.Goals as goal

pub join_ended-requires : goal.join_ended-requires
join_ended-requires c = come c.args.flight.now c.requires.onward c.requires.key c.go_on.ensures

pub returns-clause-rows : goal.returns-clause-rows
returns-clause-rows c =
    c.join_ended.ensures.rows
    ∙ ap (λ (flight : Flight). rows_after c.args.table.now flight flight.word c.args.scratch.now) c.go_on.ensures

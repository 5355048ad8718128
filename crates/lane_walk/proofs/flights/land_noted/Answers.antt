use Rattle.lane_walk.proofs.Fours.{noted_as, room_for}
use Rattle.lane_walk.proofs.flights.land_noted.Goals as goal

pub note_word-requires : goal.note_word-requires
note_word-requires c = room_for c.args.flight.now c.requires.room c.go_on.ensures

pub returns-clause-notes : goal.returns-clause-notes
returns-clause-notes c = noted_as c.go_on.ensures c.note_word.ensures.notes

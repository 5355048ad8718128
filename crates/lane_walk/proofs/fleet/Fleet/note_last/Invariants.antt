-- the first lanes noted their words
use Rattle.lane_walk.specs.Fleet.{NotesLast, words_in}
use Rattle.lane_walk.proofs.fleet.Fleet.note_last.Given as goal

abbrev pub invariant-loop-lane : goal.invariant-loop-lane
invariant-loop-lane g l =
    NotesLast l.lane l.self.course.jobs (words_in l.walks) l.self.keys l.fn.scratch l.scratch

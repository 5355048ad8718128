use Rattle.std.proofs.Common.{◌≡◌, ℕ, List, arith, min, subst}
use Rattle.std.specs.Prelude.{slice_index}
use Rattle.lane_walk.specs.Fleet.{NotesLast, words_in}
use Rattle.lane_walk.proofs.FleetNotes.{NotesOne, last_none, last_more, one_noted}
use Rattle.lane_walk.proofs.fleet.Fleet.note_last.Goals as goal

pub loop-lane-init : goal.loop-lane-init
loop-lane-init g c = last_none

pub note-requires-clause-key : goal.note-requires-clause-key
note-requires-clause-key g c = omega (
  arith,
  c.requires.small c.loop-lane.lane (omega (arith, c.loop-lane-test.true, c.min-lane-end.ensures)),
  c.requires.room,
  c.loop-lane.invariant.len,
)

pub loop-lane-preserved : goal.loop-lane-preserved
loop-lane-preserved g c = last_more c.loop-lane.invariant
    (subst (λ (words : List ℕ). NotesOne (slice_index c.args.self.now.keys c.loop-lane.lane)
    (slice_index words c.loop-lane.lane) c.args.self.now.course.jobs c.loop-lane.scratch c.note.new.self)
    c.words-words.ensures (one_noted c.note.ensures.rows c.note.ensures.number
    (c.requires.small c.loop-lane.lane (omega (arith, c.loop-lane-test.true, c.min-lane-end.ensures)))))

pub returns : goal.returns
returns g c =
    let all : c.loop-lane.lane ≡ min g.row.W c.args.self.now.course.jobs =
    omega (arith, c.loop-lane.auto.lane-end, c.loop-lane-test.false, c.min-lane-end.ensures) in
    subst (λ (n : ℕ). NotesLast n c.args.self.now.course.jobs (words_in c.args.walks.now) c.args.self.now.keys
    c.args.scratch.now c.loop-lane.scratch) all c.loop-lane.invariant

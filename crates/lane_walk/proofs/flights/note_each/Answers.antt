use Rattle.std.proofs.Common.{◌≡◌, ℕ, ◌+◌, arith, lit<, length, subst}
use Rattle.std.specs.Prelude.{slice_index_or}
use Rattle.lane_walk.specs.Turn.{HasRoom, no_one}
use Rattle.lane_walk.proofs.Fours.{still}
use Rattle.lane_walk.proofs.flights.note_each.Goals as goal

pub note_word-requires : goal.note_word-requires
note_word-requires c =
    let here : c.args.first + 0 ≡ c.args.first = omega arith in
    subst (λ (lane : ℕ). HasRoom (slice_index_or c.args.flights.now lane no_one)
    (length c.args.scratch.now)) here (c.requires.come 0 (lit< tt))

pub note_word-requires-2 : goal.note_word-requires-2
note_word-requires-2 c = still (c.requires.come 1 (lit< tt)) c.note_word.ensures.len

pub note_word-requires-3 : goal.note_word-requires-3
note_word-requires-3 c =
    still (still (c.requires.come 2 (lit< tt)) c.note_word.ensures.len) c.note_word-2.ensures.len

pub note_word-requires-4 : goal.note_word-requires-4
note_word-requires-4 c = still
    (still (still (c.requires.come 3 (lit< tt)) c.note_word.ensures.len) c.note_word-2.ensures.len)
    c.note_word-3.ensures.len

pub returns : goal.returns
returns c = record {
  one = c.note_word.new.scratch;
  two = c.note_word-2.new.scratch;
  three = c.note_word-3.new.scratch;
  first_is = c.note_word.ensures.notes;
  second_is = c.note_word-2.ensures.notes;
  third_is = c.note_word-3.ensures.notes;
  fourth_is = c.note_word-4.ensures.notes;
}

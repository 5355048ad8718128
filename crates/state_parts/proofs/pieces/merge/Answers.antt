use Rattle.std.proofs.Common.{get_or, arith}
use Rattle.state_parts.specs.Pieces.{no_piece}
use Rattle.state_parts.proofs.Covering.{HasJoined}
use Rattle.state_parts.proofs.Covering.{left_from, right_from, left_within, right_within, one_merged, all_merged}
use Rattle.state_parts.proofs.pieces.merge.Goals as goal

pub join-requires-clause-left : goal.join-requires-clause-left
join-requires-clause-left c = left_within c.loop-first-test.true c.loop-first.invariant c.requires.left

pub join-requires-clause-right : goal.join-requires-clause-right
join-requires-clause-right c = right_within c.loop-first-test.true c.loop-first.invariant c.requires.right

pub loop-first-preserved : goal.loop-first-preserved
loop-first-preserved c =
    let from_mine = left_from c.loop-first-test.true c.loop-first.invariant in
    let from_its = right_from c.loop-first-test.true c.loop-first.invariant in
    let joined : HasJoined c.loop-first.target c.join.new.self (get_or c.args.one.now c.loop-first.i no_piece).to
    (get_or c.args.other.now c.loop-first.j no_piece).to c.in_ok-to.to =
    record {
      grows = c.in_ok-to.ensures.grows;
      entries = c.in_ok-to.ensures.entries;
      joins = c.in_ok-to.ensures.joins;
      within = c.in_ok-to.ensures.within;
    } in
    rw (c.place_after-i.ensures, c.place_after-j.ensures, c.from-first.ensures)
    (one_merged c.loop-first-test.true c.loop-first.invariant (omega (arith, c.min-last.ensures, from_mine, from_its))
    (omega (arith, c.min-last.ensures)) (omega (arith, c.min-last.ensures)) joined c.in_ok-push_piece.ensures)

pub returns : goal.returns
returns c = all_merged c.loop-first-test.false c.loop-first.invariant

use Rattle.std.proofs.Common.{sym, arith}
use Rattle.state_parts.proofs.Bucketed.{sought_first, sought_next}
use Rattle.state_parts.proofs.pair_set.find_in.Goals as goal

pub loop-number-init : goal.loop-number-init
loop-number-init c =
    let is = c.bucket_of.ensures.bucket in
    rw is (sought_first c.args.all.now c.args.heads.now c.args.pair c.requires (rw is at c.bucket_of.ensures.within))

pub loop-number-preserved : goal.loop-number-preserved
loop-number-preserved c =
    sought_next c.args.all.now c.args.heads.now c.args.pair c.loop-number.number c.requires c.loop-number.invariant
    c.loop-number-test.true (sym c.if-is_pair.ensures)

pub bounds-all-number : goal.bounds-all-number
bounds-all-number c = omega (arith, c.loop-number.invariant.within, c.loop-number-test.true)

pub returns-then-is_pair-clause-within : goal.returns-then-is_pair-clause-within
returns-then-is_pair-clause-within c = c.loop-number.invariant.within

pub returns-clause-none : goal.returns-clause-none
returns-clause-none c = λ zero k from below.
    c.loop-number.invariant.none k (omega (arith, c.loop-number-test.false)) below

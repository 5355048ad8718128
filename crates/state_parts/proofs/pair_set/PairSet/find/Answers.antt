use Rattle.std.proofs.Common.{◌≡◌, subst, true, false, arith}
use Rattle.std.specs.Prelude.{◌-◌}
use Rattle.std.specs.List.{list_any}
use Rattle.state_parts.specs.Keys.{same_pair}
use Rattle.state_parts.proofs.Bucketed.{none_among, some_among}
use Rattle.state_parts.proofs.pair_set.PairSet.find.Goals as goal

pub returns-clause-there : goal.returns-clause-there
returns-clause-there c = λ some.
    let all = c.self.inside.all.items in
    let its = rw c.as_slice.ensures.value at c.find_in.ensures in
    subst (λ set. list_any (same_pair c.args.pair) set.keys ≡ true) c.self.view_is
    (some_among all c.args.pair (c.find_in.result - 1) (omega (arith, some, its.within)) (its.there some))

pub returns-clause-none : goal.returns-clause-none
returns-clause-none c = λ zero.
    let its = rw c.as_slice.ensures.value at c.find_in.ensures in
    subst (λ set. list_any (same_pair c.args.pair) set.keys ≡ false) c.self.view_is
    (none_among c.self.inside.all.items c.args.pair (its.none zero))

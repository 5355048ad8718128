use Rattle.std.proofs.Common.{arith}
use Rattle.node_expand.proofs.Changes.{agreeing_ends}
use Rattle.node_expand.proofs.Changes.{between_ends, between_within}
use Rattle.node_expand.proofs.allowed.Allowed.ends.Goals as goal

pub returns-in-Between : goal.returns-in-Between
returns-in-Between c = record {
  ends = rw c.in-Between.is (between_ends _ _ _ _ (rw c.in-Between.is at c.requires));
  within = λ _. rw c.in-Between.is (between_within _ _ _ _);
}

pub returns-in-Agreeing-clause-ends : goal.returns-in-Agreeing-clause-ends
returns-in-Agreeing-clause-ends c =
    rw c.in-Agreeing.is (agreeing_ends c.in-Agreeing.value c.in-Agreeing.mask (omega arith) (omega arith)
    (rw c.in-Agreeing.is at c.requires))

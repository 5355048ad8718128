use Rattle.std.proofs.Common.{◌++◌, get_or, arith}
use Rattle.trie_merge.proofs.cuts.unite.Goals as goal
use Rattle.trie_merge.proofs.Leads.{known_as, cut_before, cut_after, kept_cut}

pub returns-then-other-gt4-clause-knows : goal.returns-then-other-gt4-clause-knows
returns-then-other-gt4-clause-knows c = λ column left right one other. known_as other (cut_after column left right)

pub loop-k-init : goal.loop-k-init
loop-k-init c = (c.requires.one, λ column left right one other. known_as one (cut_before column left right))

pub loop-k-preserved : goal.loop-k-preserved
loop-k-preserved c = (
  c.add-all.ensures.count,
  λ column left right one other.
      c.add-all.ensures.knows column (left ++ right) (c.loop-k.invariant.1 column left right one other)
      (cut_after column left right (get_or c.args.other.bytes c.loop-k.k 0)
      (kept_cut c.loop-k.k other (omega (arith, c.if-other-gt4.false))
      (omega (arith, c.loop-k-test.true, c.from-k-end.ensures)))),
)

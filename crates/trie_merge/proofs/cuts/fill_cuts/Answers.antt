use Rattle.std.proofs.Common.{[], ◌∷◌, arith, length-append}
use Rattle.trie_merge.proofs.cuts.fill_cuts.Goals as goal
use Rattle.trie_merge.proofs.Leads.{built_push}

pub loop-index-preserved : goal.loop-index-preserved
loop-index-preserved c =
    let l = c.loop-index in
    rw c.in_ok-push.ensures.items (
      built_push (omega (arith, l.invariant.1, c.loop-index-test.true, c.requires.within)) l.invariant.0
          (rw l.invariant.1 (rw c.as_slice.ensures.value at c.cuts_of_part-its.ensures)),
      omega (arith, length-append l.cuts.items (c.cuts_of_part-its.result ∷ []), l.invariant.1),
    )

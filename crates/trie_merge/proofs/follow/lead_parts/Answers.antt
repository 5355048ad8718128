use Rattle.std.proofs.Common.{[], ◌∷◌, arith, length-append}
use Rattle.trie_merge.proofs.follow.lead_parts.Goals as goal
use Rattle.trie_merge.proofs.Leads.{one_more_led}

pub loop-index-preserved : goal.loop-index-preserved
loop-index-preserved c =
    let l = c.loop-index in
    rw (c.in_ok-push.ensures, c.as_slice.ensures.value) (
      one_more_led l.invariant.0 (omega (arith, l.invariant.1, c.loop-index-test.true, c.requires.within))
          (rw l.invariant.1 c.in_ok-lead_part.ensures),
      omega (arith, length-append l.steps (c.lead_part.new.pieces.items ∷ []), l.invariant.1),
    )

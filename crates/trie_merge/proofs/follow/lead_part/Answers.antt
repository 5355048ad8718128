use Rattle.std.proofs.Common.{◌<◌, arith}
use Rattle.std.proofs.lemmas.Result.{on_ok_weaker}
use Rattle.trie_merge.proofs.follow.lead_part.Goals as goal
use Rattle.trie_merge.proofs.Leads.{entry_part, pair_part}

pub returns-then-left-eq0 : goal.returns-then-left-eq0
returns-then-left-eq0 c =
    on_ok_weaker c.lead_entry.result (λ led. entry_part (rw c.if-left-eq0.true at c.pair-left.ensures.part) led)
    c.lead_entry.ensures

pub returns : goal.returns
returns c =
    let some : 0 < c.pair-left.result.0 = omega (arith, c.if-left-eq0.false) in
    let lower = c.pair-left.ensures.lower some in
    on_ok_weaker c.merge.result
    (λ merged. pair_part c.requires.steps c.pair-left.ensures.part some lower.1
    (omega (arith, lower.0, c.requires.next)) (omega (arith, lower.2, c.requires.next))
    (rw (← c.pieces-one.ensures, ← c.pieces-other.ensures) merged))
    c.merge.ensures

use Rattle.std.proofs.Common.{◌+◌, refl, sym, ◌∙◌, arith}
use Rattle.trie_merge.proofs.cuts.add.Goals as goal
use Rattle.trie_merge.proofs.Leads.{one_more_known}

pub returns-then-cuts-eq4-clause-knows : goal.returns-then-cuts-eq4-clause-knows
returns-then-cuts-eq4-clause-knows c = λ column entries knows is.
    one_more_known knows is (omega (arith, c.if-cuts-gt4.false)) (sym c.is_among.ensures ∙ c.if-is_among.false) 5
    c.args.cuts.bytes (omega (arith, c.if-cuts-eq4.true)) (λ low. absurd (omega (arith, low)))

pub returns-clause-knows : goal.returns-clause-knows
returns-clause-knows c = λ column entries knows is.
    one_more_known knows is (omega (arith, c.if-cuts-gt4.false)) (sym c.is_among.ensures ∙ c.if-is_among.false)
    (c.args.cuts.count + 1) c.put-bytes.result refl
    (λ low. rw (← c.from.ensures) c.put-bytes.ensures)

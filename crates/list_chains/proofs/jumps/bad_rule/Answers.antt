-- The first rule that doesn't lead well.
use Rattle.std.proofs.Common.{◌≡◌, [], not, sym, ap, ◌∙◌, arith, false, List}
use Rattle.std.proofs.lemmas.List.Sums.{position_or_len_is}
use Rattle.list_chains.specs.declared.chain.Target.TheVariants.{Decide}
use Rattle.list_chains.specs.declared.span.Span.{Span}
use Rattle.list_chains.specs.Chains.{ListRule}
use Rattle.list_chains.specs.Jumps.{leads_well}
use Rattle.list_chains.proofs.jumps.bad_rule.Goals as goal

-- a rule that stands past the end
abbrev no_rule : ListRule (List Span)
no_rule = record { userdata = 0; inside = []; but = []; target = Decide }

pub returns-then-not-leads_well : goal.returns-then-not-leads_well
returns-then-not-leads_well c =
    let marks = c.args.marks.now in
    let rule = c.index-rules-place.result in
    let bad : leads_well marks rule ≡ false = sym c.leads_well.ensures ∙ c.if-not-leads_well.true in
    sym (position_or_len_is (λ rule. not (leads_well marks rule)) c.args.rules.now c.loop-place.place rule
    (omega (arith, c.loop-place-test.true)) (λ k below. c.loop-place.invariant k rule below)
    (λ below. ap (λ r. not (leads_well marks r)) (sym c.index-rules-place.is) ∙ ap not bad))

pub returns : goal.returns
returns c =
    sym (position_or_len_is (λ rule. not (leads_well c.args.marks.now rule)) c.args.rules.now _ no_rule (omega arith)
    (λ k below. c.loop-place.invariant k no_rule (omega (arith, below, c.loop-place-test.false)))
    (λ below. absurd (omega (arith, below))))

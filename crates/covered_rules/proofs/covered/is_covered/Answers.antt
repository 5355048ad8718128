use Rattle.std.proofs.Common.{ℕ, Bool, refl, sym, ap, ◌∙◌}
use Rattle.std.specs.List.{list_any}
use Rattle.std.proofs.lemmas.List.{take_all}
use Rattle.std.proofs.lemmas.List.Folds.{list_any_more}
use Rattle.covered_rules.specs.Covered.{covers}
use Rattle.covered_rules.proofs.Asking.{any_at}
use Rattle.covered_rules.proofs.covered.is_covered.Goals as goal

pub covers-requires-clause-order : goal.covers-requires-clause-order
covers-requires-clause-order c = c.requires.wide c.loop-other.other-index 0 c.loop-other-test.true

pub returns-then-covers : goal.returns-then-covers
returns-then-covers c =
    let set = c.args.rules.now in
    sym (any_at (λ other. covers set.layout set.rules other c.args.place) c.args.wide.now c.loop-other.other-index 0
    c.loop-other-test.true (sym c.covers.ensures ∙ c.if-covers.true))

pub loop-other-preserved : goal.loop-other-preserved
loop-other-preserved c =
    let set = c.args.rules.now in
    let test : ℕ → Bool = λ other. covers set.layout set.rules other c.args.place in
    list_any_more test c.args.wide.now c.loop-other.other-index 0 c.loop-other-test.true
    ∙ rw (c.loop-other.invariant, sym c.covers.ensures ∙ c.if-covers.false) refl

pub returns : goal.returns
returns c =
    let set = c.args.rules.now in
    let test : ℕ → Bool = λ other. covers set.layout set.rules other c.args.place in
    sym (ap (list_any test) (sym (take_all c.loop-other.other-index c.args.wide.now c.loop-other-test.false))
    ∙ c.loop-other.invariant)

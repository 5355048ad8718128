use Rattle.std.proofs.Common.{ℕ, ◌++◌, ◌∷◌, [], cond, get_or, sym, ◌∙◌, List, ap}
use Rattle.std.proofs.lemmas.List.{take_all}
use Rattle.rule_split.specs.Divide.{wild_rules, bound_rules}
use Rattle.rule_split.proofs.Sides.{bound_more, wild_more}
use Rattle.rule_split.proofs.divide.sides.Goals as goal

pub loop-number-init : goal.loop-number-init
unfolding wild_rules bound_rules
loop-number-init c = (c.new.ensures.items, c.new-2.ensures.items)

pub loop-number-preserved : goal.loop-number-preserved
loop-number-preserved c =
    let set = c.args.rules.now in
    let group = c.args.group.now in
    let count = c.loop-number.number-index in
    let number : ℕ = get_or group count 0 in
    let is = c.is_wild_in.ensures in (
      c.in_ok-push.ensures.first
          ∙ (λ i. cond (is i) (c.loop-number.invariant.0 i) (c.loop-number.invariant.0 i ++ number ∷ []))
          ∙ sym (bound_more set group c.args.field count c.loop-number-test.true),
      c.in_ok-push.ensures.second
          ∙ (λ i. cond (is i) (c.loop-number.invariant.1 i ++ number ∷ []) (c.loop-number.invariant.1 i))
          ∙ sym (wild_more set group c.args.field count c.loop-number-test.true),
    )

pub is_wild_in-requires-clause-number : goal.is_wild_in-requires-clause-number
is_wild_in-requires-clause-number c =
    c.requires.numbers c.loop-number.number-index 0 c.loop-number-test.true

pub returns-clause-first : goal.returns-clause-first
returns-clause-first c =
    c.loop-number.invariant.0 ∙ ap (λ (rules : List ℕ). bound_rules c.args.rules.now rules c.args.field)
    (take_all c.loop-number.number-index c.args.group.now c.loop-number-test.false)

pub returns-clause-second : goal.returns-clause-second
returns-clause-second c =
    c.loop-number.invariant.1 ∙ ap (λ (rules : List ℕ). wild_rules c.args.rules.now rules c.args.field)
    (take_all c.loop-number.number-index c.args.group.now c.loop-number-test.false)

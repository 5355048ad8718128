use Rattle.std.proofs.Common.{List, ℕ, [], ◌∷◌, ◌++◌, sym, ◌∙◌, ap}
use Rattle.std.proofs.lemmas.List.{map-append}
use Rattle.list_lemmas.proofs.Ranges.{range_more}
use Rattle.rule_order.specs.Order.{numbers_in}
use Rattle.rule_order.specs.declared.order.Keyed.{Keyed}
use Rattle.rule_order.proofs.order.keyed_rules.Goals as goal

pub loop-number-preserved : goal.loop-number-preserved
loop-number-preserved c =
    let number : ℕ = c.loop-number.number in
    ap numbers_in c.in_ok-push.ensures.items
    ∙ map-append (λ (rule : Keyed). rule.number) c.loop-number.keyed.items _
    ∙ ap (λ (l : List ℕ). l ++ number ∷ []) c.loop-number.invariant
    ∙ sym (range_more number)

use Rattle.std.proofs.Common.{length, List, ℕ, ◌++◌, ◌∷◌, [], sym, ◌∙◌, ap, arith}
use Rattle.std.specs.List.{range_with_len}
use Rattle.list_lemmas.proofs.Ranges.{range_more}
use Rattle.rule_split.proofs.split.all_rules.Goals as goal

pub loop-number-preserved : goal.loop-number-preserved
loop-number-preserved c =
    c.in_ok-push.ensures.items ∙ ap (λ (l : List ℕ). l ++ c.loop-number.number ∷ []) c.loop-number.invariant
    ∙ sym (range_more c.loop-number.number)

pub returns : goal.returns
returns c = c.loop-number.invariant ∙ ap (range_with_len 0) (omega (arith, ap length c.all-count.ensures.rules))

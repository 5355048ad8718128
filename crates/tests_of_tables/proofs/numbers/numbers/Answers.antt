-- the numbers below the place reached, and one more
use Rattle.std.proofs.Common.{List, ℕ, ◌+◌, ◌++◌, ◌∷◌, [], sym, ◌∙◌, ap, arith}
use Rattle.std.specs.List.{range_with_len}
use Rattle.list_lemmas.proofs.Positions.{range-push}
use Rattle.tests_of_tables.proofs.numbers.numbers.Goals as goal

pub loop-place-preserved : goal.loop-place-preserved
loop-place-preserved c =
    c.in_ok-push.ensures.items
    ∙ ap (λ (l : List ℕ). l ++ (c.args.first + c.loop-place.place) ∷ []) c.loop-place.invariant
    ∙ sym (range-push c.args.first c.loop-place.place)

pub returns : goal.returns
returns c = c.loop-place.invariant ∙ ap (range_with_len _) (omega arith)

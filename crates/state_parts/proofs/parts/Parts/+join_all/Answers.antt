use Rattle.std.proofs.Common.{◌≡◌, ℕ, ◌+◌, List, [], ◌∷◌, ◌++◌, length, get_or, sym, ◌∙◌, ap, subst, arith}
use Rattle.std.proofs.lemmas.List.{take-append-drop, drop_all, drop_more}
use Rattle.state_parts.specs.Joined.{IsAll}
use Rattle.state_parts.proofs.All.{all_grow, one_entry, two_joined}
use Rattle.state_parts.proofs.parts.Parts.+join_all.Goals as goal

-- a list of one element
single : (xs : List ℕ) → length xs ≡ 1 → xs ≡ get_or xs 0 0 ∷ []
single xs one = drop_more xs 0 0 (omega (arith, one)) ∙ ap (λ rest. get_or xs 0 0 ∷ rest)
    (drop_all (0 + 1) xs (omega (arith, one)))

pub returns-then-entries-eq1-clause-all : goal.returns-then-entries-eq1-clause-all
returns-then-entries-eq1-clause-all t c =
    let entries : List ℕ = c.args.entries.now in
    subst (λ es. IsAll c.entry.new.self es c.in_ok-number.number) (sym (single entries c.if-entries-eq1.true))
    (one_entry c.entry.new.self (get_or entries 0 0) c.in_ok-number.number c.in_ok-number.ensures.entry)

pub returns-clause-all : goal.returns-clause-all
returns-clause-all t c =
    let halves : c.split_at.result.0.now ++ c.split_at.result.1.now ≡ c.args.entries.now =
    (λ i. c.split_at.ensures.front i ++ c.split_at.ensures.back i) ∙ take-append-drop _ c.args.entries.now in
    subst (λ es. IsAll c.join.new.self es c.in_ok-number-2.number) halves
    (two_joined
    (all_grow c.in_ok-number-2.ensures.grows (all_grow c.in_ok-other.ensures.grows c.in_ok-one.ensures.all))
    (all_grow c.in_ok-number-2.ensures.grows c.in_ok-other.ensures.all) c.in_ok-number-2.ensures.joins)

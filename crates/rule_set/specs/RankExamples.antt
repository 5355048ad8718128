-- Examples of ranks, each checked by evaluation.
use Rattle.std.specs.Prelude.{◌≡◌, ℤ, pos, List, [], ◌∷◌, map, refl}
use Rattle.rule_set.specs.Rule.{RuleView}
use Rattle.rule_set.specs.Rank.{ranks_of}

-- rules of these priorities
abbrev of_priorities : List ℤ → List RuleView
of_priorities priorities =
    map (λ priority. record {
      tag = record { category_mask = 1; priority = priority; userdata = 1 };
      fields = [];
    }) priorities

no_rules : ranks_of [] ≡ []
unfolding ranks_of
no_rules = refl

one_rule : ranks_of (of_priorities (pos 7 ∷ [])) ≡ 1 ∷ []
unfolding ranks_of
one_rule = refl

-- of equal priorities the rule added first ranks highest
all_equal : ranks_of (of_priorities (pos 5 ∷ pos 5 ∷ pos 5 ∷ [])) ≡ 3 ∷ 2 ∷ 1 ∷ []
unfolding ranks_of
all_equal = refl

rising : ranks_of (of_priorities (pos 0 ∷ pos 1 ∷ pos 536870911 ∷ [])) ≡ 1 ∷ 2 ∷ 3 ∷ []
unfolding ranks_of
rising = refl

mixed : ranks_of (of_priorities (pos 2 ∷ pos 9 ∷ pos 2 ∷ pos 0 ∷ pos 9 ∷ []))
    ≡ 3 ∷ 5 ∷ 2 ∷ 1 ∷ 4 ∷ []
unfolding ranks_of
mixed = refl

-- Examples of numbers of categories, each checked by evaluation.
use Rattle.std.specs.Prelude.{◌≡◌, [], ◌∷◌, filter, refl}
use Rattle.std.specs.List.{range_with_len}
use Rattle.rule_set.specs.Categories.{is_count_of_categories}

-- of the numbers up to 40 just these
lawful_counts : filter is_count_of_categories (range_with_len 0 40) ≡ 1 ∷ 4 ∷ 8 ∷ 12 ∷ 16 ∷ []
lawful_counts = refl

-- The first unlike category of a row, and the first unlike row, one after the other.
use Rattle.std.proofs.Common.{◌≡◌, ℕ, suc, ◌+◌, ◌-◌, ◌<◌, ◌≤◌, List, ◌∷◌, length, drop, cond, true, false, Some, None}
use Rattle.std.proofs.Common.{sym, ◌∙◌, ap, arith}
use Rattle.std.specs.List.{find, range_with_len}
use Rattle.std.proofs.lemmas.List.{drop_all}
use Rattle.rule_set.specs.Rule.{RuleView}
use Rattle.acl_audit.specs.Difference.{eight_from}
use Rattle.acl_audit.specs.Unlike.{is_unlike_in, unlike_category, first_unlike}

module _ (rules : List RuleView) (row : List ℕ) where
  -- the categories before that one answer alike
  unfoldable pub NoneBefore : ℕ → Type 0
  NoneBefore category =
      unlike_category rules row ≡ find (is_unlike_in rules row) (range_with_len category (8 - category))

  -- no category is before the first one
  pub none_yet : NoneBefore 0
  unfolding NoneBefore eight_from
  none_yet = λ i. unlike_category rules row

  -- the categories from one on are it and those after it
  left_more : (category : ℕ) → category < 8
      → range_with_len category (8 - category) ≡ category ∷ range_with_len (category + 1) (8 - (category + 1))
  left_more category below =
      let e : 8 - category ≡ suc (8 - (category + 1)) = omega (arith, below) in
      ap (range_with_len category) e

  -- after a category that answers alike those before the next one do
  pub one_alike : (category : ℕ) → category < 8 → is_unlike_in rules row category ≡ false → NoneBefore category
      → NoneBefore (category + 1)
  unfolding NoneBefore
  one_alike category below alike before =
      before ∙ ap (find (is_unlike_in rules row)) (left_more category below)
      ∙ ap (λ b. cond b (Some category) (find (is_unlike_in rules row)
      (range_with_len (category + 1) (8 - (category + 1)))))
      alike

  -- a category that is unlike after those that answer alike is the first
  pub here_unlike : (category : ℕ) → category < 8 → is_unlike_in rules row category ≡ true → NoneBefore category
      → Some category ≡ unlike_category rules row
  unfolding NoneBefore
  here_unlike category below unlike before =
      sym (before ∙ ap (find (is_unlike_in rules row)) (left_more category below)
      ∙ ap (λ b. cond b (Some category) (find (is_unlike_in rules row)
      (range_with_len (category + 1) (8 - (category + 1)))))
      unlike)

  -- if all categories answer alike, none is unlike
  pub all_alike : (category : ℕ) → 8 ≤ category → NoneBefore category → None ≡ unlike_category rules row
  unfolding NoneBefore
  all_alike category end before =
      let e : 8 - category ≡ 0 = omega (arith, end) in
      sym (before ∙ ap (λ n. find (is_unlike_in rules row) (range_with_len category n)) e)

module _ (rules : List RuleView) (rows : List (List ℕ)) where
  -- the rows before that one answer alike
  abbrev pub NoRowBefore : ℕ → Type 0
  NoRowBefore row = first_unlike rules 0 rows ≡ first_unlike rules row (drop row rows)

  -- if all rows answer alike, none is unlike
  pub no_row : (row : ℕ) → length rows ≤ row → NoRowBefore row → None ≡ first_unlike rules 0 rows
  no_row row end before = sym (before ∙ ap (first_unlike rules row) (drop_all row rows end))

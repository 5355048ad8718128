-- Where each rule has the same mask in both halves, these are one list of rules: the second says what the first does.
use Rattle.std.proofs.Common.{◌≡◌, ℕ, ◌*◌, ◌==◌, List, [], ◌∷◌, ◌++◌, map, filter, not, true, false, Option, None}
use Rattle.std.proofs.Common.{Some, refl, sym, ◌∙◌, ap}
use Rattle.std.specs.Option.{option_map}
use Rattle.std.proofs.lemmas.Bool.{eqb-true, and_parts}
use Rattle.field_defs.specs.Layout.{key_len_of}
use Rattle.rule_set.specs.Rule.{RuleView, RuleSetView}
use Rattle.acl_audit.specs.Difference.{Difference, least_passing, difference_from}
use Rattle.acl_audit.specs.Half.{half_len, is_in_half, mask_of, halved, halved_rules, half_of, exceeds}
use Rattle.acl_audit.specs.Half.{has_equal_halves, have_equal_halves, are_halves_equal}
use Rattle.acl_audit.proofs.Comparing.{old_category, unlike_inside, difference_by_half}

module _ (list : ℕ) where
  -- rules of equal halves are the same in both
  halved_same : (rules : List RuleView) → have_equal_halves list rules ≡ true
      → map (halved 0 list) rules ≡ map (halved 1 list) rules
  halved_same [] all = refl
  halved_same (rule ∷ rules) all =
      let both = and_parts (has_equal_halves list rule.tag) (have_equal_halves list rules) all in
      let same = eqb-true (mask_of (is_in_half 0 list rule.tag)) (mask_of (is_in_half 1 list rule.tag)) both.0 in
      λ i. record rule { tag = record rule.tag { category_mask = same i } } ∷ halved_same rules both.1 i

  -- and so the lists of both halves are the same
  rules_same : (rules : List RuleView) → have_equal_halves list rules ≡ true
      → halved_rules 0 list rules ≡ halved_rules 1 list rules
  unfolding halved_rules
  rules_same rules all =
      ap (filter (λ (rule : RuleView). not (rule.tag.category_mask == 0))) (halved_same rules all)

-- both halves are one
pub halves_same : (one two : RuleSetView) → are_halves_equal one two ≡ true → half_of one two 0 ≡ half_of one two 1
unfolding half_of
halves_same one two all =
    let both = and_parts (have_equal_halves 0 one.rules) (have_equal_halves 1 two.rules) all in
    λ i. record {
      layout = one.layout;
      rules = rules_same 0 one.rules both.0 i ++ rules_same 1 two.rules both.1 i;
    }

-- the difference inside a half
abbrev inside : RuleSetView → Option Difference
inside set = least_passing (unlike_inside set) (key_len_of set.layout) 0

-- so where there is no difference below 8, there is none from 8 on
pub second_alike : (one two : RuleSetView) → one.layout ≡ two.layout → are_halves_equal one two ≡ true
    → difference_from one two 0 ≡ None → None ≡ difference_from one two 8
second_alike one two layouts all none =
    sym (difference_by_half one two 1 layouts
    ∙ ap (λ set. option_map (old_category (half_len * 1)) (inside set)) (sym (halves_same one two all))
    ∙ ap (option_map (old_category (half_len * 1)))
    (by (inside (half_of one two 0)) (sym (difference_by_half one two 0 layouts) ∙ none)))
  where
    by : (o : Option Difference) → option_map (old_category (half_len * 0)) o ≡ None → o ≡ None
    by None is = refl
    by (Some at) is = absurd (cc)

-- and where the first half fits a budget the second does
pub second_fits : (one two : RuleSetView) (budget : ℕ) → are_halves_equal one two ≡ true
    → exceeds (half_of one two 0) budget ≡ false → exceeds (half_of one two 1) budget ≡ false
second_fits one two budget all fits = ap (λ set. exceeds set budget) (sym (halves_same one two all)) ∙ fits

-- What is known of groups that were counted.
use Rattle.std.proofs.Common.{◌≡◌, ℕ, ◌+◌, ◌==◌, ◌<◌, ◌≤◌, ◌-◌, ◌&&◌, ◌++◌, List, [], ◌∷◌, length, map, take, drop}
use Rattle.std.proofs.Common.{filter, All, Option, Some, None, not, cond, refl, sym, ap, ◌∙◌, inl, inr, arith}
use Rattle.std.specs.Prelude.{fold, max, nat_le, nat_lt}
use Rattle.std.specs.List.{sum_by, position, position_or_len, filter_map, insert}
use Rattle.std.specs.Option.{option_to_list, option_map_or}
use Rattle.std.proofs.lemmas.Bool.{cases_Bool, cond-true, cond-false, le-leb, lt-leb}
use Rattle.std.proofs.lemmas.List.{length-map, length-take}
use Rattle.std.proofs.lemmas.List.Edits.{insert-append_right}
use Rattle.std.proofs.lemmas.List.Sums.{sum_by-cons}
use Rattle.std.proofs.lemmas.List.Elements.{All-head, All-tail, filter_map-append}
use Rattle.rule_set.specs.Rule.{RuleSetView}
use Rattle.table_sizes.specs.Sizes.{row_len}
use Rattle.group_states.specs.Levels.{LevelsView}
use Rattle.rule_split.specs.declared.counted.Counted.{Counted}
use Rattle.rule_split.specs.declared.counted.Counted.TheVariants.{Fits, TooLarge, Uncounted}
use Rattle.rule_split.specs.Counted.{group_in, levels_in, words_counted, words_to_split, most_counted, is_most}
use Rattle.rule_split.specs.Counted.{IsCounted}
use Rattle.rule_split.specs.Split.{can_split, capped, total, most_words, split_place, split_at, to_split, turn}
use Rattle.rule_split.specs.Split.{words_of_group}

-- a group that was counted rightly has the words of its group, or one more than the budget
pub counted_is : (set : RuleSetView) (budget : ℕ) (group : Counted) → IsCounted set budget group →
    words_counted budget group ≡ capped (words_of_group set) budget (group_in group)
counted_is set budget (Fits levels) is =
    let same = ap (λ (l : LevelsView). l.words) is.0 in
    omega (arith, same, is.1)
counted_is set budget (TooLarge group) is = omega (arith, is)
counted_is set budget (Uncounted group) is = absurd is

module _ (set : RuleSetView) (budget : ℕ) where
  -- the group was counted rightly
  abbrev Right : Counted → Type 0
  Right = IsCounted set budget

  -- the words of a group, or one more than the budget
  abbrev cost : List ℕ → ℕ
  cost = capped (words_of_group set) budget

  -- the sum of their words
  pub sum_is : (groups : List Counted) → All Right groups →
      sum_by (words_counted budget) groups ≡ sum_by cost (map group_in groups)
  sum_is [] right = refl
  sum_is (group ∷ groups) right =
      omega (
        arith,
        sum_by-cons (words_counted budget) group groups,
        sum_by-cons cost (group_in group) (map group_in groups),
        counted_is set budget group (All-head Right group groups right),
        sum_is groups (All-tail Right group groups right),
      )

  -- the most words of a group that can be split
  most_from : (a : ℕ) (groups : List Counted) → All Right groups →
      fold max a (map (words_to_split budget) groups) ≡ fold max a (map cost (filter can_split (map group_in groups)))
  most_from a [] right = refl
  most_from a (group ∷ groups) right =
      let rest = All-tail Right group groups right in
      let here = counted_is set budget group (All-head Right group groups right) in
      elim (cases_Bool (can_split (group_in group))) [
        | inl can ↦ rw (can, here) (most_from (max a (cost (group_in group))) groups rest)
        | inr not ↦ rw not (let same : max a 0 ≡ a = omega arith in rw same (most_from a groups rest))
      ]

  -- the greatest count is that of the group with the most words
  most_is : (groups : List Counted) → All Right groups →
      most_counted budget groups ≡ most_words (words_of_group set) budget (map group_in groups)
  most_is groups right = most_from 0 groups right

  -- the first place where a group can be split and has so many words
  first_is : (most : ℕ) (groups : List Counted) → All Right groups →
      position_or_len (is_most budget most) groups
      ≡ position_or_len (λ group. can_split group && cost group == most) (map group_in groups)
  first_is most [] right = refl
  first_is most (group ∷ groups) right =
      let rest = first_is most groups (All-tail Right group groups right) in
      let here = counted_is set budget group (All-head Right group groups right) in
      let same : is_most budget most group ≡ (can_split (group_in group) && cost (group_in group) == most) =
      ap (λ words. can_split (group_in group) && words == most) here in
      λ i. cond (not (same i)) (1 + rest i) 0

  -- the group that is found by its count is the one that is split
  pub place_is : (groups : List Counted) → All Right groups →
      position (is_most budget (most_counted budget groups)) groups
      ≡ split_place (words_of_group set) budget (map group_in groups)
  unfolding split_place
  place_is groups right =
      let long = length-map groups group_in in
      ap (λ most. position (is_most budget most) groups) (most_is groups right)
      ∙ (λ i. cond
      (nat_lt (first_is (most_words (words_of_group set) budget (map group_in groups)) groups right i) (sym long i))
      (Some (first_is (most_words (words_of_group set) budget (map group_in groups)) groups right i)) None)

  -- the counts add up to the total of the groups
  pub total_is : (groups : List Counted) → All Right groups →
      row_len + sum_by (words_counted budget) groups ≡ total (words_of_group set) budget (map group_in groups)
  total_is groups right = ap (λ words. row_len + words) (sum_is groups right)

  -- where the total is within the budget no group is to be split
  pub fits_is : (groups : List Counted) (words : ℕ) → All Right groups →
      words ≡ row_len + sum_by (words_counted budget) groups → words ≤ budget →
      None ≡ to_split (words_of_group set) budget (map group_in groups)
  unfolding to_split
  fits_is groups words right is within =
      sym (cond-true _ _ _ (le-leb (total (words_of_group set) budget (map group_in groups)) budget
      (omega (arith, is, within, total_is groups right))))

  -- where it is above, that of most words is
  pub most_is_found : (groups : List Counted) (words : ℕ) (found : Option ℕ) → All Right groups →
      words ≡ row_len + sum_by (words_counted budget) groups → budget < words →
      found ≡ position (is_most budget (most_counted budget groups)) groups →
      found ≡ to_split (words_of_group set) budget (map group_in groups)
  unfolding to_split
  most_is_found groups words found right is above at =
      at ∙ place_is groups right
      ∙ sym (cond-false _ _ _ (lt-leb (total (words_of_group set) budget (map group_in groups)) budget
      (omega (arith, is, above, total_is groups right))))

-- a turn makes the group two that is to be split
pub turn_is_split : (set : RuleSetView) (budget : ℕ) (groups : List (List ℕ)) →
    turn (words_of_group set) set budget groups
    ≡ option_map_or (split_at set groups) (to_split (words_of_group set) budget groups) groups
unfolding turn to_split
turn_is_split set budget groups = elim (cases_Bool (nat_le (total (words_of_group set) budget groups) budget)) [
  | inl fits ↦ rw fits refl
  | inr over ↦ rw over refl
]

-- merged states after those that are kept
pub levels_more : (groups : List Counted) (group : Counted) →
    filter_map levels_in (groups ++ group ∷ []) ≡ filter_map levels_in groups ++ option_to_list (levels_in group)
levels_more groups (Fits levels) = filter_map-append levels_in groups (Fits levels ∷ [])
levels_more groups (TooLarge group) = filter_map-append levels_in groups (TooLarge group ∷ [])
levels_more groups (Uncounted group) = filter_map-append levels_in groups (Uncounted group ∷ [])

-- two elements in the place of one
pub two_in : {X : Type 0} (xs : List X) (place : ℕ) (one other : X) → place ≤ length xs →
    insert (insert xs place one) (place + 1) other ≡ take place xs ++ one ∷ other ∷ drop place xs
two_in xs place one other within =
    let before = take place xs in
    let after = drop place xs in
    let long : length before ≡ place = length-take place xs ∙ omega arith in
    let none : place + 1 - place ≡ 1 = omega arith in
    insert-append_right before (one ∷ after) place (place + 1) other long (omega arith)
    ∙ ap (λ k. before ++ insert (one ∷ after) k other) none

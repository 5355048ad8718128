-- The rules that no other covers, and that one of them wins.
use Rattle.std.proofs.Common.{◌≡◌, ℕ, zero, suc, ◌+◌, ◌<◌, ◌≤◌, ◌++◌, List, [], ◌∷◌, length, take, filter, not}
use Rattle.std.proofs.Common.{Bool, true, Option, Some, None, refl, sym, ap, ◌∙◌, inl, inr, arith, subst}
use Rattle.std.specs.List.{Contains, list_any, range_with_len}
use Rattle.std.specs.List.Sorted.{IsStrictlyIncreasing}
use Rattle.std.proofs.lemmas.Bool.{cases_Bool, and_parts, false≢true}
use Rattle.std.proofs.lemmas.List.Elements.{All-weaker, All-contains_itself}
use Rattle.std.proofs.lemmas.List.FromFn.{length-range_with_len}
use Rattle.std.proofs.lemmas.List.Kept.{IsStrictlyIncreasing-filter}
use Rattle.std.proofs.lemmas.List.Sums.{length-filter, count_by-le-length}
use Rattle.field_defs.specs.declared.field.FieldDef.{FieldDef}
use Rattle.rule_set.specs.Rule.{RuleView}
use Rattle.rule_set.specs.Winner.{applies}
use Rattle.rule_set.specs.Among.{best_among}
use Rattle.rule_set.specs.Rank.{comes_below}
use Rattle.rule_set.specs.Laws.{HasGreatestRank, TheBestWinsOverAllOthers, TheWinnerIsAmongAllPlaces}
use Rattle.rule_set.specs.Laws.{RanksOrderRules, TheBestHasTheGreatestRank}
use Rattle.covered_rules.specs.Covered.{covers, is_covered, is_wide_at, wide_ones, uncovered_of, uncovered}
use Rattle.covered_rules.specs.Laws.{UncoveredPlacesRise, TheWinnerIsUncovered}
use Rattle.rule_set.proofs.Offered.{passes_there}
use Rattle.covered_rules.proofs.Covering.{cover_applies}
use Rattle.list_lemmas.proofs.Counts.{increasing_range}
use Rattle.list_lemmas.proofs.Loops.{below_count}
use Rattle.list_lemmas.proofs.Members.{Has, contained, has, has_passing, passing_has, in_range}
use Rattle.list_lemmas.proofs.Ranges.{filter_more_yes, filter_more_no}

-- what the first elements have the list has
has_first : (n : ℕ) (xs : List ℕ) (y : ℕ) → Has (take n xs) y → Has xs y
has_first zero xs y h = absurd h
has_first (suc n) [] y h = absurd h
has_first (suc n) (x ∷ xs) y (inl is) = inl is
has_first (suc n) (x ∷ xs) y (inr more) = inr (has_first n xs y more)

-- a list in which some element passes has one that does
any_has : (p : ℕ → Bool) (xs : List ℕ) → list_any p xs ≡ true → (y : ℕ) × Has xs y × (p y ≡ true)
any_has p [] some = absurd (false≢true some)
any_has p (x ∷ xs) some = elim (cases_Bool (p x)) [
  | inl passes ↦ (x, inl refl, passes)
  | inr fails ↦ let rest = any_has p xs (rw fails at some) in (rest.0, inr rest.1, rest.2)
]

module _ (layout : List FieldDef) (rules : List RuleView) where
  -- no wide rule that stays before the place covers it
  abbrev stays : ℕ → Bool
  stays place = not (is_covered layout rules (wide_ones layout rules (uncovered_of layout rules place)) place)

  -- those that stay of so many rules
  pub staying : (count : ℕ) → uncovered_of layout rules count ≡ filter stays (range_with_len 0 count)
  unfolding uncovered_of
  staying zero = refl
  staying (suc place) =
      let kept : List ℕ = uncovered_of layout rules place in
      let next : place + 1 ≡ suc place = omega arith in
      elim (cases_Bool (is_covered layout rules (wide_ones layout rules kept) place)) [
        | inl covered ↦ rw covered (staying place
            ∙ sym (filter_more_no stays place (ap not covered))
            ∙ ap (λ n. filter stays (range_with_len 0 n)) next)
        | inr free ↦ rw free (ap (λ l. l ++ place ∷ []) (staying place)
            ∙ sym (filter_more_yes stays place (ap not free))
            ∙ ap (λ n. filter stays (range_with_len 0 n)) next)
      ]

  -- those that stay of all rules
  all_staying : uncovered layout rules ≡ filter stays (range_with_len 0 (length rules))
  unfolding uncovered
  all_staying = staying (length rules)

  -- a place that stays is one of them
  pub stays_in : (count place : ℕ) → place < count → stays place ≡ true → Has (uncovered_of layout rules count) place
  stays_in count place below is =
      rw (staying count) (passing_has stays (range_with_len 0 count) place
      (in_range 0 count place (omega arith) (omega arith)) is)

  -- each is below the count, and stays
  pub in_stays : (count place : ℕ) → Has (uncovered_of layout rules count) place →
      (place < count) × (stays place ≡ true)
  in_stays count place among =
      let its = has_passing stays (range_with_len 0 count) place (rw (staying count) at among) in
      (below_count count place (contained (range_with_len 0 count) place its.0), its.1)

  -- the wide ones of so many rules are below the count, and stay
  pub wide_stays : (count place : ℕ) → Has (wide_ones layout rules (uncovered_of layout rules count)) place →
      (place < count) × (stays place ≡ true)
  wide_stays count place among =
      let kept : List ℕ = uncovered_of layout rules count in
      in_stays count place (has_passing (is_wide_at layout rules) kept place
      (has_first 1024 (filter (is_wide_at layout rules) kept) place among)).0

  -- uncovered places rise
  pub uncovered_rise : IsStrictlyIncreasing (uncovered layout rules)
  uncovered_rise =
      subst IsStrictlyIncreasing (sym all_staying)
      (IsStrictlyIncreasing-filter stays (range_with_len 0 (length rules)) (increasing_range (length rules)))

  -- each of them is one of all places
  pub uncovered_in : (place : ℕ) → Contains (uncovered layout rules) place → place < length rules
  unfolding uncovered
  uncovered_in place among = (in_stays (length rules) place (has (uncovered layout rules) place among)).0

  -- the first rule is one of them
  pub uncovered_some : 0 < length rules → 0 < length (uncovered layout rules)
  unfolding uncovered uncovered_of
  uncovered_some some =
      let at = contained (uncovered layout rules) 0 (stays_in (length rules) 0 some refl) in
      omega (arith, at.1)

  -- and there are no more than rules
  pub uncovered_few : length (uncovered layout rules) ≤ length rules
  uncovered_few =
      omega (
        arith,
        ap length all_staying,
        length-filter stays (range_with_len 0 (length rules)),
        count_by-le-length stays (range_with_len 0 (length rules)),
        length-range_with_len 0 (length rules),
      )

module _ (ranks_order : RanksOrderRules) (best_wins : TheBestWinsOverAllOthers)
    (best_has_greatest_rank : TheBestHasTheGreatestRank) (layout : List FieldDef) (rules : List RuleView) where
  -- the rule of greatest rank that applies is one of them
  pub winner_stays : (key : List ℕ) (category place : ℕ) →
      HasGreatestRank (applies layout key category) rules (range_with_len 0 (length rules)) place →
      Contains (uncovered layout rules) place
  unfolding uncovered
  winner_stays key category place wins =
      let test : RuleView → Bool = applies layout key category in
      let here : place < length rules = passes_there test rules place wins.passes in
      let wide : List ℕ = wide_ones layout rules (uncovered_of layout rules place) in
      elim (cases_Bool (is_covered layout rules wide place)) [
        | inr free ↦
            contained (uncovered layout rules) place (stays_in layout rules (length rules) place here (ap not free))
        | inl covered ↦
            let found = any_has (λ other. covers layout rules other place) wide covered in
            let other : ℕ = found.0 in
            let before : other < place = (wide_stays layout rules place other found.1).0 in
            let passes = cover_applies layout rules key category other place found.2 wins.passes in
            let higher = (ranks_order.order rules other place (omega (arith, before, here)) here).1
            (and_parts (comes_below rules other place) _ found.2).0 in
            absurd (omega (
              arith,
              higher,
              wins.below other (contained (range_with_len 0 (length rules)) other
                  (in_range 0 (length rules) other (omega arith) (omega (arith, before, here))))
                  passes (λ same. omega (arith, same, before)),
            ))
      ]

  -- the best of all rules is the best of them, and the other way round for none
  best_stays : (key : List ℕ) (category : ℕ) (best : Option ℕ) →
      best_among (applies layout key category) rules (range_with_len 0 (length rules)) ≡ best →
      best_among (applies layout key category) rules (uncovered layout rules) ≡ best
  best_stays key category None is =
      let test : RuleView → Bool = applies layout key category in
      (best_wins.none test rules (uncovered layout rules)).1 (λ place among.
      (best_wins.none test rules (range_with_len 0 (length rules))).0 is place
      (contained (range_with_len 0 (length rules)) place
      (in_range 0 (length rules) place (omega arith) (omega (arith, uncovered_in layout rules place among)))))
  best_stays key category (Some place) is =
      let test : RuleView → Bool = applies layout key category in
      let all : List ℕ = range_with_len 0 (length rules) in
      let wins = (best_has_greatest_rank test rules all place (increasing_range (length rules))).0 is in
      (best_has_greatest_rank test rules (uncovered layout rules) place (uncovered_rise layout rules)).1 (record {
        among = winner_stays key category place wins;
        passes = wins.passes;
        below = λ other among passes apart.
            wins.below other (contained all other
            (in_range 0 (length rules) other (omega arith) (omega (arith, uncovered_in layout rules other among))))
            passes apart;
      })

-- uncovered places rise, have rules, and there are some if there is a rule
pub places_rise : UncoveredPlacesRise
places_rise = record {
  rise = uncovered_rise;
  within = λ layout rules.
      All-weaker (Contains (uncovered layout rules)) (λ place. place < length rules) (uncovered_in layout rules)
      (uncovered layout rules) (All-contains_itself (uncovered layout rules));
  some = uncovered_some;
}

-- the winner of all rules is the winner among the uncovered ones
pub winner_is_uncovered : RanksOrderRules → TheBestWinsOverAllOthers → TheBestHasTheGreatestRank →
    TheWinnerIsAmongAllPlaces → TheWinnerIsUncovered
winner_is_uncovered ranks best greatest among_all layout rules key category =
    among_all layout rules key category
    ∙ sym (best_stays ranks best greatest layout rules key category
    (best_among (applies layout key category) rules (range_with_len 0 (length rules))) refl)

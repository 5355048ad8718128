-- The winners of the groups of a partition decide which rule wins.
use Rattle.std.proofs.Common.{◌≡◌, ℕ, zero, suc, ◌<◌, ◌≤◌, ◌↔◌, List, [], ◌∷◌, length, map, All, get_or, Option, Some}
use Rattle.std.proofs.Common.{None, refl, sym, ap, ◌∙◌, inl, inr, arith, Bool, true}
use Rattle.std.specs.List.{Contains, flat_map, range_with_len}
use Rattle.std.specs.List.Sorted.{IsStrictlyIncreasing}
use Rattle.std.proofs.lemmas.Bool.{cases_eq}
use Rattle.std.proofs.lemmas.List.Concat.{flat_map-cons}
use Rattle.std.proofs.lemmas.List.Elements.{Contains-append_left, Contains-append_right, Contains-append_cases}
use Rattle.std.proofs.lemmas.List.Elements.{All-contains, All-contains_itself, All-map, All-weaker}
use Rattle.std.proofs.lemmas.List.Sorted.{IsPermutation-sym, Contains-permutation}
use Rattle.rule_set.specs.Rule.{RuleView}
use Rattle.rule_set.specs.Winner.{applies, winner}
use Rattle.rule_set.specs.Among.{passes_at, best_among}
use Rattle.rule_set.specs.Rank.{rank_of}
use Rattle.rule_set.specs.Laws.{HasGreatestRank}
use Rattle.rule_set.proofs.Among.{best_wins, winner_is_among_all, passes_there}
use Rattle.rule_set.proofs.RankOrder.{ranks_order, best_has_greatest_rank}
use Rattle.rule_set.specs.Groups.{IsPartition, rank_or_none, greatest}
use Rattle.rule_set.specs.GroupLaws.{TheGroupsWinnersDecide}
use Rattle.list_lemmas.proofs.Counts.{increasing_range}
use Rattle.list_lemmas.proofs.Maxima.{fold_le, fold_reaches}

-- all places of groups
abbrev pub places_in : List (List ℕ) → List ℕ
places_in groups = flat_map (λ group. group) groups

-- a place of the groups is a place of some group
pub group_of_place : (groups : List (List ℕ)) (place : ℕ) → Contains (places_in groups) place →
    (group : List ℕ) × Contains groups group × Contains group place
group_of_place [] place h = absurd (omega (arith, h.1))
group_of_place (first ∷ groups) place h =
    let h = rw (flat_map-cons (λ (group : List ℕ). group) first groups) at h in
    elim (Contains-append_cases first (places_in groups) place h) [
      | inl here ↦ (first, (zero, omega arith, refl), here)
      | inr later ↦
          let found = group_of_place groups place later in
          let at = found.1 in
          (found.0, (suc at.0, omega (arith, at.1), at.2), found.2)
    ]

-- and the other way round
place_of_numbered : (groups : List (List ℕ)) (group : List ℕ) (k place : ℕ) → k < length groups →
    get_or groups k group ≡ group → Contains group place → Contains (places_in groups) place
place_of_numbered [] group k place within is has = absurd (omega arith)
place_of_numbered (first ∷ groups) group zero place within is has =
    rw (flat_map-cons (λ (group : List ℕ). group) first groups)
    (Contains-append_left first (places_in groups) place (rw is has))
place_of_numbered (first ∷ groups) group (suc k) place within is has =
    rw (flat_map-cons (λ (group : List ℕ). group) first groups)
    (Contains-append_right first (places_in groups) place
    (place_of_numbered groups group k place (omega arith) is has))

-- a place of a group is one of the places of all groups
pub place_of_group : (groups : List (List ℕ)) (group : List ℕ) (place : ℕ) → Contains groups group →
    Contains group place → Contains (places_in groups) place
place_of_group groups group place at has = place_of_numbered groups group at.0 place at.1 at.2 has

-- a group's number that no other group exceeds is the greatest
greatest_is : (f : List ℕ → ℕ) (groups : List (List ℕ)) (group : List ℕ) (bound : ℕ) → Contains groups group →
    f group ≡ bound → All (λ other. f other ≤ bound) groups → greatest (map f groups) ≡ bound
greatest_is f groups group bound at is all =
    omega (
      arith,
      is,
      fold_reaches f 0 groups group at.0 at.1 at.2,
      fold_le 0 bound (map f groups) (omega arith) (All-map (λ x. x ≤ bound) f groups all),
    )

-- the best of all rules
abbrev best_of_all : (RuleView → Bool) → List RuleView → Option ℕ
best_of_all test rules = best_among test rules (range_with_len 0 (length rules))

-- it has the greatest rank
best_ranks : (test : RuleView → Bool) (rules : List RuleView) (place : ℕ) → best_of_all test rules ≡ Some place →
    HasGreatestRank test rules (range_with_len 0 (length rules)) place
best_ranks test rules place best =
    (best_has_greatest_rank test rules (range_with_len 0 (length rules)) place (increasing_range (length rules))).0
    best

-- a place of a group is a place of the set, and the other way round
pub place_of_set : (n : ℕ) (groups : List (List ℕ)) (group : List ℕ) (place : ℕ) → IsPartition n groups →
    Contains groups group → Contains group place → Contains (range_with_len 0 n) place
place_of_set n groups group place parts at has =
    Contains-permutation (places_in groups) (range_with_len 0 n) place parts.once
    (place_of_group groups group place at has)

-- each place of a set lies in one of the groups of its partition
group_in_set : (n : ℕ) (groups : List (List ℕ)) (place : ℕ) → IsPartition n groups →
    Contains (range_with_len 0 n) place → (group : List ℕ) × Contains groups group × Contains group place
group_in_set n groups place parts among =
    let all : List ℕ = range_with_len 0 n in
    group_of_place groups place
    (Contains-permutation all (places_in groups) place (IsPermutation-sym (places_in groups) all parts.once) among)

-- the best of a group has the greatest rank there
group_ranks : (test : RuleView → Bool) (rules : List RuleView) (groups : List (List ℕ)) (group : List ℕ) (place : ℕ) →
    IsPartition (length rules) groups → Contains groups group →
    (best_among test rules group ≡ Some place ↔ HasGreatestRank test rules group place)
group_ranks test rules groups group place parts at =
    best_has_greatest_rank test rules group place (All-contains IsStrictlyIncreasing groups group parts.ascending at)

-- the best of all rules is the best of its group
best_in_group : (test : RuleView → Bool) (rules : List RuleView) (groups : List (List ℕ)) (group : List ℕ)
    (place : ℕ) →
    IsPartition (length rules) groups → Contains groups group → Contains group place →
    best_of_all test rules ≡ Some place → best_among test rules group ≡ Some place
best_in_group test rules groups group place parts at has best =
    let whole = best_ranks test rules place best in
    (group_ranks test rules groups group place parts at).1 (record {
      among = has;
      passes = whole.passes;
      below = λ other among passes apart.
          whole.below other (place_of_set (length rules) groups group other parts at among) passes apart;
    })

-- no group's best has a greater rank
ranks_no_higher : (test : RuleView → Bool) (rules : List RuleView) (groups : List (List ℕ)) (group : List ℕ)
    (place : ℕ)
    (found : Option ℕ) → IsPartition (length rules) groups → Contains groups group →
    best_of_all test rules ≡ Some place → best_among test rules group ≡ found →
    rank_or_none rules found ≤ rank_of rules place
ranks_no_higher test rules groups group place None parts at best is = omega arith
ranks_no_higher test rules groups group place (Some other) parts at best is =
    let its = (group_ranks test rules groups group other parts at).0 is in
    elim (cases_eq other place) [
      | inl same ↦ omega (arith, ap (rank_of rules) same)
      | inr apart ↦
          let among = place_of_set (length rules) groups group other parts at its.among in
          omega (arith, (best_ranks test rules place best).below other among its.passes apart)
    ]

-- none is best of all exactly where none is best of a group
none_in_groups : (test : RuleView → Bool) (rules : List RuleView) (groups : List (List ℕ)) →
    IsPartition (length rules) groups →
    (best_of_all test rules ≡ None ↔ All (λ group. best_among test rules group ≡ None) groups)
none_in_groups test rules groups parts =
    let n : ℕ = length rules in (
      λ none. All-weaker (Contains groups) (λ group. best_among test rules group ≡ None)
          (λ group at. (best_wins.none test rules group).1
          (λ place among. (best_wins.none test rules (range_with_len 0 n)).0 none place
          (place_of_set n groups group place parts at among)))
          groups (All-contains_itself groups),
      λ each. (best_wins.none test rules (range_with_len 0 n)).1 (λ place among.
          (let found = group_in_set n groups place parts among in
          (best_wins.none test rules found.0).0
          (All-contains (λ group. best_among test rules group ≡ None) groups found.0 each found.1) place found.2)),
    )

-- the greatest rank of the groups' best is the rank of the best of all
greatest_of_all : (test : RuleView → Bool) (rules : List RuleView) (groups : List (List ℕ)) (best : Option ℕ) →
    IsPartition (length rules) groups → best_of_all test rules ≡ best →
    greatest (map (λ group. rank_or_none rules (best_among test rules group)) groups) ≡ rank_or_none rules best
greatest_of_all test rules groups None parts is =
    let none = (none_in_groups test rules groups parts).0 is in
    let f : List ℕ → ℕ = λ group. rank_or_none rules (best_among test rules group) in
    omega (
      arith,
      fold_le 0 0 (map f groups) (omega arith) (All-map (λ x. x ≤ 0) f groups
          (All-weaker (λ group. best_among test rules group ≡ None) (λ group. f group ≤ 0)
          (λ group no. rw no (omega arith)) groups none)),
    )
greatest_of_all test rules groups (Some place) parts is =
    let f : List ℕ → ℕ = λ group. rank_or_none rules (best_among test rules group) in
    let found = group_in_set (length rules) groups place parts (best_ranks test rules place is).among in
    greatest_is f groups found.0 (rank_of rules place) found.1
    (ap (rank_or_none rules) (best_in_group test rules groups found.0 place parts found.1 found.2 is))
    (All-weaker (Contains groups) (λ group. f group ≤ rank_of rules place)
    (λ group at. ranks_no_higher test rules groups group place (best_among test rules group) parts at is refl) groups
    (All-contains_itself groups))

-- a rule is the one of its rank
same_rank : (test : RuleView → Bool) (rules : List RuleView) (place : ℕ) (best : Option ℕ) →
    passes_at test rules place ≡ true → best_of_all test rules ≡ best → rank_of rules place
    ≡ rank_or_none rules best →
    best ≡ Some place
same_rank test rules place None passes is same = absurd (omega (arith, same))
same_rank test rules place (Some other) passes is same = elim (cases_eq place other) [
  | inl e ↦ ap Some (sym e)
  | inr apart ↦
      let whole = best_ranks test rules other is in
      absurd (ranks_order.distinct rules place other (passes_there test rules place passes)
      (passes_there test rules other whole.passes) apart same)
]

-- the winner of all rules is the winner of a group that has the greatest rank
pub groups_decide : TheGroupsWinnersDecide
groups_decide = record {
  rank = λ layout rules groups key category parts.
      greatest_of_all (applies layout key category) rules groups (winner layout rules key category) parts
      (sym (winner_is_among_all layout rules key category));
  wins = λ layout rules groups key category place group parts at is same.
      (let test : RuleView → Bool = applies layout key category in
      let all = sym (winner_is_among_all layout rules key category) in
      let its = (group_ranks test rules groups group place parts at).0 is in
      same_rank test rules place (winner layout rules key category) its.passes all
      (same ∙ greatest_of_all test rules groups (winner layout rules key category) parts all));
  none = λ layout rules groups key category parts.
      rw (winner_is_among_all layout rules key category)
      (none_in_groups (applies layout key category) rules groups parts);
}

-- Ranks order the rules of a set as they win.
use Rattle.std.proofs.Common.{◌≡◌, ◌≢◌, ℕ, ℤ, ◌<◌, ◌≤◌, ◌&&◌, ◌||◌, ◌⊎◌, ◌↔◌, List, length, Bool, true, false, not}
use Rattle.std.proofs.Common.{nat_lt, refl, ap, inl, inr, arith}
use Rattle.std.specs.List.{range_with_len}
use Rattle.std.specs.Int.Signed.{le_z}
use Rattle.std.proofs.lemmas.Bool.{cases_Bool, cases_order, cases_eq, and_parts, lt-ltb, le-ltb, ltb-true, both_ways}
use Rattle.std.proofs.lemmas.List.FromFn.{length-range_with_len}
use Rattle.rule_set.specs.Rule.{RuleView}
use Rattle.rule_set.specs.Among.{priority_at}
use Rattle.rule_set.specs.Rank.{comes_below, rank_of}
use Rattle.rule_set.specs.Laws.{WinsOver, RanksOrderRules, TheBestHasTheGreatestRank}
use Rattle.rule_set.proofs.Among.{best_wins, passes_there}
use Rattle.list_lemmas.proofs.Counts.{count_all, count_lt}
use Rattle.list_lemmas.proofs.Members.{in_range}
use Rattle.list_lemmas.proofs.Integers.{le_z_refl, le_z_trans, le_z_total, le_z_both}

-- of two priorities and places the second comes below the first
abbrev below : ℤ → ℤ → ℕ → ℕ → Bool
below a b p q = le_z b a && (not (le_z a b) || nat_lt p q)

-- a lower priority comes below
below_less : (a b : ℤ) (p q : ℕ) → le_z a b ≡ false → below a b p q ≡ true
below_less a b p q less = rw (less, le_z_total a b less) refl

-- and so does a later place of the same priority
below_later : (a b : ℤ) (p q : ℕ) → le_z a b ≡ true → le_z b a ≡ true → p < q → below a b p q ≡ true
below_later a b p q up down later = rw (up, down, lt-ltb p q later) refl

-- there is no other way
below_cases : (a b : ℤ) (p q : ℕ) → below a b p q ≡ true → (le_z b a ≡ true) × ((le_z a b ≡ false) ⊎ (p < q))
below_cases a b p q h =
    let parts = and_parts (le_z b a) (not (le_z a b) || nat_lt p q) h in (
      parts.0,
      elim (cases_Bool (le_z a b)) [
        | inr less ↦ inl less
        | inl level ↦ inr (ltb-true p q (rw level at parts.1))
      ],
    )

-- nothing comes below itself
below_itself : (a : ℤ) (p : ℕ) → below a a p p ≡ false
below_itself a p = rw (le_z_refl a, le-ltb p p (omega arith)) refl

-- what comes below what comes below a rule comes below that rule too
below_trans : (a b c : ℤ) (p q r : ℕ) → below a b p q ≡ true → below b c q r ≡ true → below a c p r ≡ true
below_trans a b c p q r h k =
    let one = below_cases a b p q h in
    let two = below_cases b c q r k in
    let down : le_z c a ≡ true = le_z_trans c b a two.0 one.0 in
    elim (cases_Bool (le_z a c)) [
      | inr less ↦ below_less a c p r less
      | inl level ↦
          let earlier : p < q = elim one.1 [
            | inl less ↦ absurd (both_ways _ less (le_z_trans a c b level two.0))
            | inr is ↦ is
          ] in
          let later : q < r = elim two.1 [
            | inl less ↦ absurd (both_ways _ less (le_z_trans b a c one.0 level))
            | inr is ↦ is
          ] in
          below_later a c p r level down (omega arith)
    ]

-- of two places one comes below the other
below_total : (a b : ℤ) (p q : ℕ) → p ≢ q → (below a b p q ≡ true) ⊎ (below b a q p ≡ true)
below_total a b p q apart = elim (cases_Bool (le_z a b)) [
  | inr less ↦ inl (below_less a b p q less)
  | inl up ↦ elim (cases_Bool (le_z b a)) [
    | inr less ↦ inr (below_less b a q p less)
    | inl down ↦ elim (cases_order p q) [
      | inl same ↦ absurd (apart same)
      | inr other ↦ elim other [
        | inl earlier ↦ inl (below_later a b p q up down earlier)
        | inr later ↦ inr (below_later b a q p down up later)
      ]
    ]
  ]
]

-- a rule that comes below another has a lower rank
lower_rank : (rules : List RuleView) (place other : ℕ) → other < length rules → comes_below rules place other ≡ true →
    rank_of rules other < rank_of rules place
lower_rank rules place other there comes =
    let a : ℤ = priority_at rules place in
    let b : ℤ = priority_at rules other in
    omega (
      arith,
      count_lt (comes_below rules other) (comes_below rules place) (range_with_len 0 (length rules)) other
          (λ x h. below_trans a b (priority_at rules x) place other x comes h)
          (in_range 0 (length rules) other (omega arith) (omega arith))
          (below_itself b other) comes,
    )

-- ranks go from 1 to the number of rules
rank_bounds : (rules : List RuleView) (place : ℕ) → place < length rules →
    (1 ≤ rank_of rules place) × (rank_of rules place ≤ length rules)
rank_bounds rules place here =
    let all : List ℕ = range_with_len 0 (length rules) in
    let fewer = count_lt (comes_below rules place) (λ x. true) all place (λ x h. refl)
    (in_range 0 (length rules) place (omega arith) (omega arith)) (below_itself (priority_at rules place) place) refl in
    (omega arith, omega (arith, fewer, count_all all, length-range_with_len 0 (length rules)))

-- a rank is lower than another exactly if its rule comes below the other rule
rank_order : (rules : List RuleView) (place other : ℕ) → place < length rules → other < length rules →
    (rank_of rules other < rank_of rules place ↔ comes_below rules place other ≡ true)
rank_order rules place other here there = (
  λ lower. elim (cases_eq place other) [
    | inl same ↦ absurd (omega (arith, ap (rank_of rules) same))
    | inr apart ↦ elim (below_total (priority_at rules place) (priority_at rules other) place other apart) [
      | inl comes ↦ comes
      | inr comes ↦ absurd (omega (arith, lower_rank rules other place here comes))
    ]
  ],
  lower_rank rules place other there,
)

-- two places have two ranks
rank_distinct : (rules : List RuleView) (place other : ℕ) → place < length rules → other < length rules →
    place ≢ other → rank_of rules place ≢ rank_of rules other
rank_distinct rules place other here there apart same =
    elim (below_total (priority_at rules place) (priority_at rules other) place other apart) [
      | inl comes ↦ omega (arith, lower_rank rules place other there comes)
      | inr comes ↦ omega (arith, lower_rank rules other place here comes)
    ]

-- the ranks order the rules of a set as they win
pub ranks_order : RanksOrderRules
ranks_order = record { bounds = rank_bounds; order = rank_order; distinct = rank_distinct }

-- to win over another is to have it below
wins_is_below : (rules : List RuleView) (place other : ℕ) → WinsOver rules place other →
    comes_below rules place other ≡ true
wins_is_below rules place other (inl above) =
    below_less (priority_at rules place) (priority_at rules other) place other above
wins_is_below rules place other (inr level) =
    let same = level.0 in
    below_later (priority_at rules place) (priority_at rules other) place other
    (rw same (le_z_refl (priority_at rules other))) (rw same (le_z_refl (priority_at rules other))) level.1

-- a rule wins over what comes below it
below_is_won : (rules : List RuleView) (place other : ℕ) → comes_below rules place other ≡ true →
    WinsOver rules place other
below_is_won rules place other comes =
    let a : ℤ = priority_at rules place in
    let b : ℤ = priority_at rules other in
    let parts = below_cases a b place other comes in
    elim (cases_Bool (le_z a b)) [
      | inr above ↦ inl above
      | inl level ↦ elim parts.1 [
        | inl above ↦ inl above
        | inr later ↦ inr (le_z_both a b level parts.0, later)
      ]
    ]

-- the best of some places is the one of greatest rank among those that pass
pub best_has_greatest_rank : TheBestHasTheGreatestRank
best_has_greatest_rank test rules places place increases =
    let best = best_wins.best test rules places place increases in (
      λ is. (let wins = best.0 is in record {
        among = wins.among;
        passes = wins.passes;
        below = λ other among passes apart.
            lower_rank rules place other (passes_there test rules other passes)
            (wins_is_below rules place other (wins.wins other among passes apart));
      }),
      λ ranks. best.1 (record {
        among = ranks.among;
        passes = ranks.passes;
        wins = λ other among passes apart.
            below_is_won rules place other
            ((rank_order rules place other (passes_there test rules place ranks.passes)
            (passes_there test rules other passes)).0 (ranks.below other among passes apart));
      }),
    )

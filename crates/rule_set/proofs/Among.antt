-- The best of some rules wins over all others.
use Rattle.std.proofs.Common.{◌≡◌, ℕ, suc, ◌+◌, ◌<◌, ◌↔◌, List, [], ◌∷◌, length, filter, cond, Bool, true, false, ◌&&◌}
use Rattle.std.proofs.Common.{Option, Some, None, refl, sym, ap, ◌∙◌, inl, inr, arith, pos, zero-add}
use Rattle.std.specs.List.{find, list_all, Contains, position_from, range_with_len, slice_get}
use Rattle.std.specs.Option.{option_map_or}
use Rattle.std.specs.Int.Signed.{le_z}
use Rattle.std.proofs.lemmas.Bool.{cases_Bool, cases_eq, cases_lt, and_from, both_ways}
use Rattle.std.proofs.lemmas.List.Kept.{AllPairs-from_increasing}
use Rattle.std.proofs.lemmas.Option.{slice_get_past}
use Rattle.rule_set.specs.Rule.{RuleView}
use Rattle.rule_set.specs.Winner.{applies, is_greatest}
use Rattle.rule_set.specs.Among.{passes_at, priority_at, is_greatest_at, best_among}
use Rattle.rule_set.specs.Laws.{WinsOver, IsBest, TheBestWinsOverAllOthers, TheWinnerIsAmongAllPlaces}
use Rattle.rule_set.specs.Laws.{TestsMayBeMadeInTurn}
use Rattle.list_lemmas.proofs.First.{find_passes}
use Rattle.list_lemmas.proofs.Integers.{le_z_refl, le_z_trans, le_z_total, le_z_both}
use Rattle.list_lemmas.proofs.Elements.{filter_twice}
use Rattle.list_lemmas.proofs.Members.{Has, contained, has, has_passing, passing_has, all_has, all_from_each, found_has}
use Rattle.list_lemmas.proofs.Members.{not_found, Rising, rising, found_first, rising_filter, filter-none}

-- some place has the greatest priority
some_greatest : (rules : List RuleView) (x : ℕ) (xs : List ℕ) →
    (w : ℕ) × Has (x ∷ xs) w × (is_greatest_at rules (x ∷ xs) w ≡ true)
some_greatest rules x [] = (x, inl refl, and_from _ _ (le_z_refl (priority_at rules x)) refl)
some_greatest rules x (y ∷ ys) =
    let rest = some_greatest rules y ys in
    let best : ℕ = rest.0 in
    elim (cases_Bool (le_z (priority_at rules x) (priority_at rules best))) [
      | inl below ↦ (best, inr rest.1, and_from _ _ below rest.2)
      | inr above ↦ (
        x,
        inl refl,
        and_from _ _ (le_z_refl (priority_at rules x))
            (all_from_each (λ other. le_z (priority_at rules other) (priority_at rules x)) (y ∷ ys)
            (λ other among. le_z_trans (priority_at rules other) (priority_at rules best) (priority_at rules x)
            (all_has (λ other. le_z (priority_at rules other) (priority_at rules best)) (y ∷ ys) other rest.2 among)
            (le_z_total (priority_at rules x) (priority_at rules best) above))),
      )
    ]

-- a list of which none is greatest is empty
none_greatest : (rules : List RuleView) (xs : List ℕ) → find (is_greatest_at rules xs) xs ≡ None → xs ≡ []
none_greatest rules [] none = refl
none_greatest rules (x ∷ xs) none =
    let best = some_greatest rules x xs in
    absurd (both_ways _ (not_found (is_greatest_at rules (x ∷ xs)) (x ∷ xs) best.0 none best.1) best.2)

-- of two places not both win over the other
wins_once : (rules : List RuleView) (one other : ℕ) → WinsOver rules one other → WinsOver rules other one → ⊥
wins_once rules one other (inl above) (inl below) =
    both_ways _ below (le_z_total (priority_at rules one) (priority_at rules other) above)
wins_once rules one other (inl above) (inr below) =
    both_ways _ (rw below.0 at above) (le_z_refl (priority_at rules one))
wins_once rules one other (inr above) (inl below) =
    both_ways _ (rw above.0 at below) (le_z_refl (priority_at rules other))
wins_once rules one other (inr above) (inr below) = omega (arith, above.1, below.1)

-- what wins is not below
wins_not_below : (rules : List RuleView) (one other : ℕ) → WinsOver rules one other →
    le_z (priority_at rules other) (priority_at rules one) ≡ true
wins_not_below rules one other (inl above) = le_z_total (priority_at rules one) (priority_at rules other) above
wins_not_below rules one other (inr level) = rw level.0 (le_z_refl (priority_at rules other))

-- what is found wins over all others
best_is : (test : RuleView → Bool) (rules : List RuleView) (places : List ℕ) (w : ℕ) → Rising places →
    best_among test rules places ≡ Some w → IsBest test rules places w
unfolding best_among
best_is test rules places w rises h =
    let p : ℕ → Bool = passes_at test rules in
    let passing : List ℕ = filter p places in
    let g : ℕ → Bool = is_greatest_at rules passing in
    let here = has_passing p places w (found_has g passing w h) in
    let greatest : g w ≡ true = find_passes g passing w h in
    record {
      among = contained places w here.0;
      passes = here.1;
      wins = λ other among passes differs.
          let has_other = passing_has p places other (has places other among) passes in
          let below : le_z (priority_at rules other) (priority_at rules w) ≡ true =
          all_has (λ x. le_z (priority_at rules x) (priority_at rules w)) passing other greatest has_other in
          elim (cases_Bool (le_z (priority_at rules w) (priority_at rules other))) [
            | inr above ↦ inl above
            | inl level ↦
                let greatest_too : g other ≡ true =
                all_from_each (λ x. le_z (priority_at rules x) (priority_at rules other)) passing
                (λ x has_x. le_z_trans (priority_at rules x) (priority_at rules w) (priority_at rules other)
                (all_has (λ x. le_z (priority_at rules x) (priority_at rules w)) passing x greatest has_x) level) in
                let before = found_first g passing w other (rising_filter p places rises) h has_other greatest_too in
                elim (cases_eq other w) [
                  | inl is ↦ absurd (differs is)
                  | inr apart ↦ inr (le_z_both _ _ level below, omega arith)
                ]
          ];
    }

-- what wins over all others is found
is_best : (test : RuleView → Bool) (rules : List RuleView) (places : List ℕ) (w : ℕ) (found : Option ℕ) →
    Rising places → best_among test rules places ≡ found → IsBest test rules places w →
    best_among test rules places ≡ Some w
is_best test rules places w (Some v) rises is best = elim (cases_eq v w) [
  | inl same ↦ is ∙ ap Some same
  | inr apart ↦
      let found = best_is test rules places v rises is in
      absurd (wins_once rules v w (found.wins w best.among best.passes (λ e. apart (sym e)))
      (best.wins v found.among found.passes apart))
]
is_best test rules places w None rises is best = absurd (
    let p : ℕ → Bool = passes_at test rules in
    let passing : List ℕ = filter p places in
    let none : find (is_greatest_at rules passing) passing ≡ None = unfold best_among in is in
    let greatest : is_greatest_at rules passing w ≡ true =
    all_from_each (λ x. le_z (priority_at rules x) (priority_at rules w)) passing
    (λ x has_x. elim (cases_eq x w) [
      | inl same ↦ rw same (le_z_refl (priority_at rules w))
      | inr apart ↦
          let here = has_passing p places x has_x in
          wins_not_below rules w x (best.wins x (contained places x here.0) here.1 apart)
    ]) in
    both_ways _ (not_found (is_greatest_at rules passing) passing w none
    (passing_has p places w (has places w best.among) best.passes)) greatest
    )

-- none is found exactly where none passes
none_passes : (test : RuleView → Bool) (rules : List RuleView) (places : List ℕ) →
    (best_among test rules places ≡ None ↔ ((place : ℕ) → Contains places place → passes_at test rules place ≡ false))
unfolding best_among
none_passes test rules places =
    let p : ℕ → Bool = passes_at test rules in (
      λ none place among. elim (cases_Bool (p place)) [
        | inl passes ↦ absurd (
            let empty : filter p places ≡ [] = none_greatest rules (filter p places) none in
            rw empty at (passing_has p places place (has places place among) passes)
            )
        | inr fails ↦ fails
      ],
      λ fails. rw (filter-none p places (λ y h. fails y (contained places y h))) refl,
    )

-- the best of some places wins over all others that pass, and there is none if none passes
pub best_wins : TheBestWinsOverAllOthers
best_wins = record {
  best = λ test rules places place increases.
      let rises = rising places (AllPairs-from_increasing places increases) in (
        best_is test rules places place rises,
        is_best test rules places place
            (best_among test rules places) rises refl,
      );
  none = none_passes;
}

-- what is found passes two tests together exactly if it passes each
passes_both : (first second : RuleView → Bool) (found : Option RuleView) →
    option_map_or (λ rule. first rule && second rule) found false
    ≡ (option_map_or first found false && option_map_or second found false)
passes_both first second None = refl
passes_both first second (Some rule) = refl

-- the best of those that pass two tests is the best by the second of those that pass the first
pub tests_in_turn : TestsMayBeMadeInTurn
unfolding best_among
tests_in_turn first second rules places =
    ap (λ passing. find (is_greatest_at rules passing) passing)
    (filter_twice (passes_at first rules) (passes_at second rules)
    (passes_at (λ rule. first rule && second rule) rules) places
    (λ place. passes_both first second (slice_get rules place)))

-- a list lies in another from a place on
abbrev LiesAt : List RuleView → ℕ → List RuleView → Type 0
LiesAt rules n xs = (k : ℕ) → k < length xs → slice_get rules (n + k) ≡ slice_get xs k

-- the rules after the first of a part lie one place later
lies_after : (rules : List RuleView) (n : ℕ) (x : RuleView) (xs : List RuleView) → LiesAt rules n (x ∷ xs) →
    LiesAt rules (n + 1) xs
lies_after rules n x xs lies k h = (let next : n + 1 + k ≡ n + suc k = omega arith in ap (slice_get rules) next)
    ∙ lies (suc k) (omega arith)

-- the first rule of a part stands at the part's place
lies_here : (rules : List RuleView) (n : ℕ) (x : RuleView) (xs : List RuleView) → LiesAt rules n (x ∷ xs) →
    slice_get rules n ≡ Some x
lies_here rules n x xs lies = (let here : n ≡ n + 0 = omega arith in ap (slice_get rules) here) ∙ lies 0 (omega arith)

-- a test of places that says what a test of rules says
abbrev SaysSame : List RuleView → (RuleView → Bool) → (ℕ → Bool) → Type 0
SaysSame rules test at = (place : ℕ) (rule : RuleView) → slice_get rules place ≡ Some rule → at place ≡ test rule

-- whether the rule at a place passes is what the test says of it
passes_says : (test : RuleView → Bool) (rules : List RuleView) → SaysSame rules test (passes_at test rules)
passes_says test rules place rule is = ap (λ found. option_map_or test found false) is

-- a rule that passes is there
pub passes_there : (test : RuleView → Bool) (rules : List RuleView) (place : ℕ) → passes_at test rules place ≡ true →
    place < length rules
passes_there test rules place passes = elim (cases_lt place (length rules)) [
  | inl here ↦ here
  | inr past ↦ absurd (let none = rw (slice_get_past rules place past) at passes in cc)
]

-- a test of all rules that pass is one of all places that pass
all_at : (test holds : RuleView → Bool) (at : ℕ → Bool) (rules : List RuleView) (n : ℕ) (xs : List RuleView) →
    LiesAt rules n xs → SaysSame rules holds at →
    list_all holds (filter test xs) ≡ list_all at (filter (passes_at test rules) (range_with_len n (length xs)))
all_at test holds at rules n [] lies same = refl
all_at test holds at rules n (x ∷ xs) lies same =
    let here = lies_here rules n x xs lies in
    let rest = all_at test holds at rules (n + 1) xs (lies_after rules n x xs lies) same in
    rw (passes_says test rules n x here) (elim (cases_Bool (test x)) [
      | inl e ↦ rw (e, same n x here) (ap (λ others. holds x && others) rest)
      | inr e ↦ rw e rest
    ])

-- the first rule that passes and holds stands at the first place that passes and holds
first_at : (test holds : RuleView → Bool) (at : ℕ → Bool) (rules : List RuleView) (n : ℕ) (xs : List RuleView) →
    LiesAt rules n xs → SaysSame rules holds at →
    position_from (λ rule. test rule && holds rule) n xs
    ≡ find at (filter (passes_at test rules) (range_with_len n (length xs)))
first_at test holds at rules n [] lies same = refl
first_at test holds at rules n (x ∷ xs) lies same =
    let here = lies_here rules n x xs lies in
    let rest = first_at test holds at rules (n + 1) xs (lies_after rules n x xs lies) same in
    rw (passes_says test rules n x here) (elim (cases_Bool (test x)) [
      | inl e ↦ rw (e, same n x here) (ap (λ others. cond (holds x) (Some n) others) rest)
      | inr e ↦ rw e rest
    ])

-- the winner of a rule set is the winner among all its places
pub winner_is_among_all : TheWinnerIsAmongAllPlaces
unfolding best_among
winner_is_among_all layout rules key category =
    let test : RuleView → Bool = applies layout key category in
    let passing : List ℕ = filter (passes_at test rules) (range_with_len 0 (length rules)) in
    let whole : LiesAt rules 0 rules = λ k h. ap (slice_get rules) (zero-add k) in
    first_at test (is_greatest (filter test rules)) (is_greatest_at rules passing) rules 0 rules whole
    (λ place rule is. sym (
    all_at test (λ other. le_z other.tag.priority rule.tag.priority)
    (λ other. le_z (priority_at rules other) (priority_at rules place)) rules 0 rules whole
    (λ other there found.
    let one : priority_at rules other ≡ there.tag.priority =
    ap (λ r. option_map_or (λ (r : RuleView). r.tag.priority) r (pos 0)) found in
    let two : priority_at rules place ≡ rule.tag.priority =
    ap (λ r. option_map_or (λ (r : RuleView). r.tag.priority) r (pos 0)) is in
    rw (one, two) refl)
    ))

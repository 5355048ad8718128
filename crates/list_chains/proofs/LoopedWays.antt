-- A way that goes on for as many turns as there are chains ends on a loop.
use Rattle.std.proofs.Common.{◌≡◌, ℕ, zero, suc, ◌+◌, ◌-◌, ◌<◌, ◌≤◌, List, [], ◌∷◌, length, Bool, true, false}
use Rattle.std.proofs.Common.{Some, None, refl, sym, ap, subst, ◌∙◌, arith, inl, inr}
use Rattle.std.specs.Prelude.{unwrap_or, slice_get, MatchOption}
use Rattle.std.specs.Option.{option_map_or}
use Rattle.std.specs.List.{list_all}
use Rattle.std.proofs.lemmas.Bool.{cases_Bool, cases_lt, false≢true}
use Rattle.list_lemmas.proofs.Tests.{second_failed}
use Rattle.list_chains.specs.declared.chain.Target.{Target}
use Rattle.list_chains.specs.declared.chain.Target.TheVariants.{Decide, Return, Jump, Go}
use Rattle.list_chains.specs.declared.span.Span.{Span}
use Rattle.list_chains.specs.declared.fault.RulePlace.{RulePlace}
use Rattle.list_chains.specs.declared.fault.ChainsFault.TheVariants.{NoChain, Loop}
use Rattle.list_chains.specs.Chains.{ListRule, at_or}
use Rattle.list_chains.specs.Jumps.{bad_chain, bad_place, bad_rule, ending, led_to, leads_well, way}
use Rattle.list_chains.specs.Loops.{LeadAlong, IsOnLoop}
use Rattle.list_chains.specs.Tasks.{Chains}
use Rattle.list_chains.proofs.Marks.{bad_chains}
use Rattle.list_chains.proofs.Returns.{steps, steps_more, twice}
use Rattle.list_chains.proofs.Ways.{way_goes_on, way_leaves}

-- a target that leads to no marked chain leads to one without a mark
bad_target : (marks : List Bool) (target : Target)
    → option_map_or (λ place. at_or marks place false) (led_to target) true ≡ false
    → (next : ℕ) × (led_to target ≡ Some next) × (at_or marks next false ≡ false)
bad_target marks Decide e = absurd (false≢true (sym e))
bad_target marks Return e = absurd (false≢true (sym e))
bad_target marks (Jump place) e = (place, refl, e)
bad_target marks (Go place) e = (place, refl, e)

-- the rule after the first
rule_after : (rule : ListRule (List Span)) (rules : List (ListRule (List Span))) (n : ℕ)
    → slice_get (rule ∷ rules) (1 + n) ≡ slice_get rules n
rule_after rule rules n = let on : 1 + n ≡ suc n = omega arith in ap (slice_get (rule ∷ rules)) on

-- a rule that leads well stands before the first that doesn't
bad_later : (marks : List Bool) (rule : ListRule (List Span)) (rules : List (ListRule (List Span))) (next : ℕ)
    → leads_well marks rule ≡ true → bad_chain marks rules ≡ Some next → bad_chain marks (rule ∷ rules) ≡ Some next
bad_later marks rule rules next well is =
    rw well (ap (λ found. option_map_or (λ (r : ListRule (List Span)). led_to r.target) found None)
    (rule_after rule rules (bad_rule marks rules)) ∙ is)

-- and another is that one
bad_here : (marks : List Bool) (rule : ListRule (List Span)) (rules : List (ListRule (List Span))) (next : ℕ)
    → leads_well marks rule ≡ false → led_to rule.target ≡ Some next → bad_chain marks (rule ∷ rules) ≡ Some next
bad_here marks rule rules next bad leads = rw bad leads

-- rules of which not all lead to marked chains have a first that leads to one without a mark
first_bad : (marks : List Bool) (rules : List (ListRule (List Span))) → list_all (leads_well marks) rules ≡ false
    → (next : ℕ) × (bad_chain marks rules ≡ Some next) × (at_or marks next false ≡ false)
first_bad marks [] e = absurd (false≢true (sym e))
first_bad marks (rule ∷ rules) e = elim (cases_Bool (leads_well marks rule)) [
  | inl well ↦
      let (next, is, unmarked) = first_bad marks rules
      (second_failed (leads_well marks rule) (list_all (leads_well marks) rules) e well) in
      (next, bad_later marks rule rules next well is, unmarked)
  | inr bad ↦
      let (next, leads, unmarked) = bad_target marks rule.target bad in
      (next, bad_here marks rule rules next bad leads, unmarked)
]

-- the chain that the way goes on to
abbrev onward : Chains → ℕ → ℕ
onward chains place = unwrap_or (bad_chain (ending chains) (at_or chains place [])) 0

-- a chain that is there, and has no mark
record IsBad (chains : Chains) (place : ℕ) : Type 0 where
  there : place < length chains
  unmarked : at_or (ending chains) place false ≡ false

-- from a chain the way goes on to one without a mark
record GoesOn (chains : Chains) (place : ℕ) : Type 0 where
  is : bad_chain (ending chains) (at_or chains place []) ≡ Some (onward chains place)
  unmarked : at_or (ending chains) (onward chains place) false ≡ false

-- so it does from one without a mark
goes_on : (chains : Chains) (place : ℕ) → IsBad chains place → GoesOn chains place
goes_on chains place bad =
    let (next, is, unmarked) = first_bad (ending chains) (at_or chains place [])
    (bad_chains chains place bad.there bad.unmarked) in
    let same : onward chains place ≡ next = ap (λ found. unwrap_or found 0) is in
    record {
      is = is ∙ ap Some (sym same);
      unmarked = ap (λ n. at_or (ending chains) n false) same ∙ unmarked;
    }

-- the rule by which it goes on
abbrev rule_on : Chains → ℕ → RulePlace
rule_on chains place = bad_place (ending chains) place (at_or chains place [])

-- a way of so many turns that is said to be a loop
record IsRound (chains : Chains) (turns place : ℕ) (at : RulePlace) : Type 0 where
  is : at ≡ rule_on chains (steps (onward chains) turns place)
  bad : (k : ℕ) → k ≤ turns → IsBad chains (steps (onward chains) k place)

-- of no turn
none_bad : (chains : Chains) (place : ℕ) → IsBad chains place → (k : ℕ) → k ≤ 0
    → IsBad chains (steps (onward chains) k place)
none_bad chains place bad zero within = bad
none_bad chains place bad (suc k) within = absurd (omega (arith, within))

-- of one turn more
more_bad : (chains : Chains) (turns place : ℕ) → IsBad chains place
    → ((k : ℕ) → k ≤ turns → IsBad chains (steps (onward chains) k (onward chains place)))
    → (k : ℕ) → k ≤ suc turns → IsBad chains (steps (onward chains) k place)
more_bad chains turns place bad more zero within = bad
more_bad chains turns place bad more (suc k) within = more k (omega (arith, within))

-- the rule of a loop is one
loop_is : (one other : RulePlace) → Loop one ≡ Loop other → other ≡ one
loop_is one other same = cc

-- what isn't there is no loop
no_loop : (one other : RulePlace) → NoChain one ≡ Loop other → ⊥
no_loop one other same = cc

-- each such way
rounds : (chains : Chains) (turns place : ℕ) (at : RulePlace) → IsBad chains place
    → way turns chains (ending chains) place ≡ Loop at → IsRound chains turns place at
rounds chains zero place at bad is =
    record { is = loop_is (rule_on chains place) at is; bad = none_bad chains place bad }
rounds chains (suc turns) place at bad is =
    let marks = ending chains in
    let next = onward chains place in
    let on = goes_on chains place bad in
    elim (cases_lt next (length chains)) [
      | inl there ↦
          let less : suc turns - 1 ≡ turns = omega arith in
          let goes = way_goes_on (suc turns) chains marks place next (omega arith) on.is there
          ∙ ap (λ t. way t chains marks next) less in
          let rest = rounds chains turns next at (record { there = there; unmarked = on.unmarked }) (sym goes ∙ is) in
          record { is = rest.is; bad = more_bad chains turns place bad rest.bad }
      | inr past ↦
          absurd (no_loop (rule_on chains place) at
          (sym (way_leaves (suc turns) chains marks place next (omega arith) on.is past) ∙ is))
    ]

-- the rules of so many steps
abbrev rules_on : Chains → ℕ → ℕ → List RulePlace
rules_on chains zero place = []
rules_on chains (suc turns) place = rule_on chains place ∷ rules_on chains turns (onward chains place)

-- they lead along these steps
lead_along : (chains : Chains) (turns place : ℕ)
    → ((k : ℕ) → k < turns → IsBad chains (steps (onward chains) k place))
    → LeadAlong chains place (rules_on chains turns place) (steps (onward chains) turns place)
lead_along chains zero place bad = refl
lead_along chains (suc turns) place bad =
    let next = onward chains place in (
      refl,
      subst (λ found. MatchOption found ⊥
          (λ to. LeadAlong chains to (rules_on chains turns next) (steps (onward chains) turns next)))
          (sym (goes_on chains place (bad 0 (omega arith))).is)
          (lead_along chains turns next (λ k within. bad (suc k) (omega (arith, within)))),
    )

-- the rule of a way that goes on for as many turns as there are chains
on_loop : (chains : Chains) (start : ℕ) (at : RulePlace) → IsBad chains start
    → way (length chains) chains (ending chains) start ≡ Loop at → IsOnLoop chains at
on_loop chains start at bad is =
    let count = length chains in
    let f = onward chains in
    let round = rounds chains count start at bad is in
    let came = twice count (λ k. steps f k start) (λ k within. (round.bad k within).there) in
    let first = came.first in
    let second = came.second in
    let turns = second - first - 1 in
    let last = steps f count start in
    let again : (k : ℕ) → steps f (second + k) start ≡ steps f (first + k) start = λ k.
    steps_more f second k start ∙ ap (steps f k) (sym came.same) ∙ sym (steps_more f first k start) in
    let apart = came.apart in
    let within = came.within in
    let all : count + suc turns ≡ second + (count - first) = omega (arith, apart, within) in
    let whole : first + (count - first) ≡ count = omega (arith, apart, within) in
    let back : steps f (suc turns) last ≡ last =
    sym (steps_more f count (suc turns) start) ∙ ap (λ k. steps f k start) all ∙ again (count - first)
    ∙ ap (λ k. steps f k start) whole in
    let bad_on : (k : ℕ) → k < suc turns → IsBad chains (steps f k last) = λ k below.
    let later : count + k ≡ second + (count + k - second) = omega (arith, apart, within) in
    let same = sym (steps_more f count k start) ∙ ap (λ n. steps f n start) later ∙ again (count + k - second) in
    subst (IsBad chains) (sym same) (round.bad (first + (count + k - second)) (omega (arith, apart, within, below))) in
    subst (IsOnLoop chains) (sym round.is) (record {
      others = rules_on chains turns (f last);
      round =
          subst (LeadAlong chains last (rules_on chains (suc turns) last)) back
          (lead_along chains (suc turns) last bad_on);
    })

-- so a rule that the way from a chain without a mark comes to as one of a loop lies on a loop
pub way_on_loop : (chains : Chains) (start : ℕ) (at : RulePlace) → start < length chains
    → at_or (ending chains) start false ≡ false → way (length chains) chains (ending chains) start ≡ Loop at
    → IsOnLoop chains at
way_on_loop chains start at there unmarked is =
    on_loop chains start at (record { there = there; unmarked = unmarked }) is

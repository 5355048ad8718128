-- A flow machine is done where each slot was stepped often enough.
use Rattle.std.proofs.Common.{◌≡◌, ℕ, zero, suc, ◌+◌, ◌-◌, ◌*◌, ◌<◌, ◌≤◌, ◌==◌, List, [], ◌∷◌, ◌++◌, sym, ap, ◌∙◌}
use Rattle.std.proofs.Common.{refl, arith, cond, length, get_or, true, false, not, Bool, inl, inr, subst}
use Rattle.std.proofs.Common.{add-one, append-nil, ◌⊎◌}
use Rattle.std.specs.Prelude.{None, count_by, replicate, nat_lt, nat_le, flat_map}
use Rattle.std.specs.List.{list_all, sum_by, range_with_len}
use Rattle.std.proofs.lemmas.Bool.{cases_Bool, cases_lt, cases_eq, eqb-true, eq-eqb, and_from, or_parts, not-false}
use Rattle.std.proofs.lemmas.Bool.Decides.{nat_tests}
use Rattle.std.proofs.lemmas.Grind.{flat_map-append}
use Rattle.std.proofs.lemmas.List.{length-replicate}
use Rattle.std.proofs.lemmas.List.Sums.{sum_by-cons}
use Rattle.std.proofs.lemmas.List.Elements.{All-head, All-tail, All-append, recursion_from_All, All-from_get_or}
use Rattle.std.proofs.lemmas.List.Elements.{All-nil}
use Rattle.std.proofs.lemmas.List.FromFn.{get_or-range_with_len, length-range_with_len}
use Rattle.list_lemmas.proofs.Counts.{count_by-cons}
use Rattle.list_lemmas.proofs.Elements.{list_all_from}
use Rattle.list_lemmas.proofs.Positions.{range-push}
use Rattle.flat_table.specs.Table.{TableView}
use Rattle.flat_table.specs.Sound.{sound_fault}
use Rattle.flat_table.specs.Laws.{WalksStay}
use Rattle.flow_core.specs.Jobs.{job_count}
use Rattle.flow_core.specs.Machine.{FlowState, is_empty, is_done, flow_step, flow_run, flow_from_first}
use Rattle.flow_core.specs.Machine.{first_state, most_steps, turns, IsRounds}
use Rattle.flow_core.specs.Invariant.{IsFlown}
use Rattle.flow_core.specs.Laws.{AreBytes, AreSlots, AreEnough}
use Rattle.flow_core.proofs.Load.{slot_load, load, is_awake, step_lessens, some_load}
use Rattle.flow_core.proofs.Runs.{flown_step, first_flown, same_width, from_first}

-- how often the slot stands in the list
abbrev times : ℕ → List ℕ → ℕ
times slot slots = count_by (λ entry. entry == slot) slots

-- the slot at the front of a list stands there once more
times-more : (slot i : ℕ) (slots : List ℕ) → (i == slot) ≡ true → times slot (i ∷ slots) ≡ 1 + times slot slots
times-more slot i slots same =
    count_by-cons (λ entry. entry == slot) i slots ∙ ap (λ (b : Bool). cond b 1 0 + times slot slots) same

-- another slot at the front changes nothing
times-same : (slot i : ℕ) (slots : List ℕ) → (i == slot) ≡ false → times slot (i ∷ slots) ≡ times slot slots
times-same slot i slots other =
    count_by-cons (λ entry. entry == slot) i slots ∙ ap (λ (b : Bool). cond b 1 0 + times slot slots) other
    ∙ omega arith

module _ (table : TableView) (keys : List ℕ) (stay : WalksStay) (sound : sound_fault table ≡ None)
    (bytes : AreBytes keys) where
  -- a slot that is awake after a run made the load less each time that it was stepped
  pub run_lessens : (slot : ℕ) (slots : List ℕ) (state : FlowState) → AreSlots (length state.machine.slots) slots →
      IsFlown table keys state → is_awake table keys slot (flow_run table keys state slots) ≡ true →
      (load table keys (flow_run table keys state slots) + times slot slots ≤ load table keys state)
      × (is_awake table keys slot state ≡ true)
  run_lessens slot [] state below flown awake = (omega arith, awake)
  run_lessens slot (i ∷ slots) state below flown awake =
      let P = λ (s : ℕ). s < length state.machine.slots in
      let within = All-head P i slots below in
      let next : FlowState = flow_step table keys state i in
      let rest = run_lessens slot slots next
      (subst (λ (n : ℕ). AreSlots n slots) (sym (same_width table keys state i)) (All-tail P i slots below))
      (flown_step table keys stay sound bytes state i within flown) awake in
      let less = step_lessens table keys state i within flown (get_or state.machine.slots i None) refl in (
        elim (cases_Bool (i == slot)) [
          | inl same ↦ (
              let own = less.own (ap (λ (s : ℕ). is_awake table keys s next) (eqb-true i slot same) ∙ rest.1) in
              omega (arith, own, rest.0, times-more slot i slots same)
              )
          | inr other ↦ omega (arith, less.most, rest.0, times-same slot i slots other)
        ],
        less.awake slot rest.1,
      )

  -- the load of empty slots
  no_load : (width : ℕ) → sum_by (slot_load table) (replicate width None) ≡ 0
  no_load zero = refl
  no_load (suc width) =
      omega (arith, sum_by-cons (slot_load table) None (replicate width None), no_load width)

  -- the load of the first state is the number of steps that are enough
  first_load : (width : ℕ) → load table keys (first_state table keys width) ≡ most_steps table keys
  first_load width =
      let none : job_count table keys - 0 ≡ job_count table keys = omega arith in
      omega (arith, no_load width, ap (λ (n : ℕ). n * (table.key_len + 1)) none)

  -- where each slot stands in the list as often as is enough, none is awake in the end
  none_awake : (width slot : ℕ) (slots : List ℕ) → AreSlots width slots →
      most_steps table keys ≤ times slot slots →
      is_awake table keys slot (flow_from_first table keys width slots) ≡ false
  none_awake width slot slots below enough =
      let first : FlowState = first_state table keys width in
      let last : FlowState = flow_from_first table keys width slots in
      elim (cases_Bool (is_awake table keys slot last)) [
        | inl awake ↦ (
            let ran = run_lessens slot slots first
            (subst (λ (n : ℕ). AreSlots n slots) (sym (length-replicate width None)) below)
            (first_flown table keys width) awake in
            absurd (omega (
              arith,
              ran.0,
              first_load width,
              enough,
              some_load table keys last slot (from_first table keys stay sound bytes width slots below) awake,
            ))
            )
        | inr asleep ↦ asleep
      ]

-- a machine without a slot that is awake is done
module _ (table : TableView) (keys : List ℕ) (state : FlowState) (flown : IsFlown table keys state) where
  -- if a slot isn't awake, no job is left
  none_left : (slot : ℕ) → is_awake table keys slot state ≡ false →
      nat_le state.machine.jobs state.machine.given ≡ true
  none_left slot asleep =
      let none : nat_lt state.machine.given (job_count table keys) ≡ false =
      (or_parts (nat_lt state.machine.given (job_count table keys))
      (not (is_empty (get_or state.machine.slots slot None))) asleep).0 in
      let over : nat_le (job_count table keys) state.machine.given ≡ true = grind (arith, nat_tests) in
      ap (λ (n : ℕ). nat_le n state.machine.given) flown.jobs ∙ over

  -- if no slot is awake, each slot is empty
  each_empty : ((slot : ℕ) → slot < length state.machine.slots → is_awake table keys slot state ≡ false) →
      list_all is_empty state.machine.slots ≡ true
  each_empty asleep =
      list_all_from (λ held. is_empty held ≡ true) is_empty (λ held empty. empty) state.machine.slots
      (recursion_from_All (λ held. is_empty held ≡ true) state.machine.slots
      (All-from_get_or (λ held. is_empty held ≡ true) state.machine.slots None (λ slot within.
      not-false (is_empty (get_or state.machine.slots slot None))
      (or_parts (nat_lt state.machine.given (job_count table keys))
      (not (is_empty (get_or state.machine.slots slot None))) (asleep slot within)).1)))

  -- if no slot is awake, the machine is done
  pub done_asleep : 0 < length state.machine.slots →
      ((slot : ℕ) → slot < length state.machine.slots → is_awake table keys slot state ≡ false) →
      is_done state.machine ≡ true
  done_asleep some asleep = and_from (nat_le state.machine.jobs state.machine.given)
      (list_all is_empty state.machine.slots) (none_left 0 (asleep 0 some)) (each_empty asleep)

-- a run leaves as many slots as there were
pub run_width : (table : TableView) (keys : List ℕ) (state : FlowState) (slots : List ℕ) →
    length (flow_run table keys state slots).machine.slots ≡ length state.machine.slots
run_width table keys state [] = refl
run_width table keys state (slot ∷ slots) =
    run_width table keys (flow_step table keys state slot) slots ∙ same_width table keys state slot

-- ---- turns of all slots

-- a slot stands in two lists together as often as in both
times-append : (slot : ℕ) (xs ys : List ℕ) → times slot (xs ++ ys) ≡ times slot xs + times slot ys
times-append slot [] ys = omega arith
times-append slot (x ∷ xs) ys = elim (cases_Bool (x == slot)) [
  | inl same ↦ omega (arith, times-more slot x xs same, times-more slot x (xs ++ ys) same, times-append slot xs ys)
  | inr other ↦
      omega (arith, times-same slot x xs other, times-same slot x (xs ++ ys) other, times-append slot xs ys)
]

-- each slot stands in one turn
in_turn : (slot first n : ℕ) → first ≤ slot → slot < first + n → 1 ≤ times slot (range_with_len first n)
in_turn slot first zero from below = absurd (omega arith)
in_turn slot first (suc n) from below = elim (cases_eq first slot) [
  | inl same ↦ omega (arith, times-more slot first (range_with_len (first + 1) n) (eq-eqb first slot same))
  | inr other ↦ omega (
    arith,
    in_turn slot (first + 1) n (let after : first + 1 ≤ slot = omega arith in after) (omega arith),
    times-same slot first (range_with_len (first + 1) n) (let off : (first == slot) ≡ false = grind (arith, nat_tests)
        in off),
  )
]

-- one turn more
pub turns-more : (width n : ℕ) → turns width (n + 1) ≡ turns width n ++ range_with_len 0 width
turns-more width n =
    ap (λ (ns : List ℕ). flat_map (λ turn. range_with_len 0 width) ns) (range-push 0 n)
    ∙ flat_map-append (λ turn. range_with_len 0 width) (range_with_len 0 n) ((0 + n) ∷ [])
    ∙ ap (λ (xs : List ℕ). turns width n ++ xs) (append-nil (range_with_len 0 width))

-- turns are of slots that are there
pub turns_are_slots : (width n : ℕ) → AreSlots width (turns width n)
turns_are_slots width zero = All-nil (λ slot. slot < width)
turns_are_slots width (suc n) =
    subst (λ (m : ℕ). AreSlots width (turns width m)) (add-one n)
    (subst (AreSlots width) (sym (turns-more width n))
    (All-append (λ slot. slot < width) (turns width n) (range_with_len 0 width) (turns_are_slots width n)
    (All-from_get_or (λ slot. slot < width) (range_with_len 0 width) 0
    (λ k below. omega (arith, below, length-range_with_len 0 width, get_or-range_with_len 0 width k 0)))))

-- each slot stands in n turns at least n times
pub turns_count : (width n slot : ℕ) → slot < width → n ≤ times slot (turns width n)
turns_count width zero slot below = omega arith
turns_count width (suc n) slot below =
    omega (
      arith,
      turns_count width n slot below,
      in_turn slot 0 width (omega arith) (omega arith),
      times-append slot (turns width n) (range_with_len 0 width),
      ap (λ (xs : List ℕ). times slot xs) (turns-more width n),
      ap (λ (m : ℕ). times slot (turns width m)) (add-one n),
    )

module _ (table : TableView) (keys : List ℕ) (stay : WalksStay) (sound : sound_fault table ≡ None)
    (bytes : AreBytes keys) where
  -- a machine is done after slots of which each was stepped often enough
  pub done_enough : (width : ℕ) (slots : List ℕ) → AreSlots width slots → 0 < width →
      AreEnough table keys width slots → is_done (flow_from_first table keys width slots).machine ≡ true
  done_enough width slots below some enough =
      let last : FlowState = flow_from_first table keys width slots in
      let as_many : length last.machine.slots ≡ width =
      run_width table keys (first_state table keys width) slots ∙ length-replicate width None in
      done_asleep table keys last (from_first table keys stay sound bytes width slots below)
      (omega (arith, as_many, some))
      (λ slot within. none_awake table keys stay sound bytes width slot slots below
      (enough slot (omega (arith, as_many, within))))

  -- a machine is done after as many turns as steps are enough
  pub turns_enough : (width n : ℕ) → 0 < width → most_steps table keys ≤ n →
      is_done (flow_from_first table keys width (turns width n)).machine ≡ true
  turns_enough width n some many =
      done_enough width (turns width n) (turns_are_slots width n) some
      (λ slot below. omega (arith, many, turns_count width n slot below))

-- ---- the least number of turns

-- a number below n that passes and is the least, or none
least_so_far : (p : ℕ → Bool) (n : ℕ) →
    ((m : ℕ) × (m < n) × (p m ≡ true) × ((earlier : ℕ) → earlier < m → p earlier ≡ false))
    ⊎ ((earlier : ℕ) → earlier < n → p earlier ≡ false)
least_so_far p zero = inr (λ earlier below. absurd (omega (arith, below)))
least_so_far p (suc n) = elim (least_so_far p n) [
  | inl found ↦ inl (found.0, omega (arith, found.1), found.2, found.3)
  | inr none ↦ elim (cases_Bool (p n)) [
    | inl holds ↦ inl (n, omega arith, holds, none)
    | inr fails ↦ inr (λ earlier below. elim (cases_eq earlier n) [
      | inl same ↦ ap p same ∙ fails
      | inr other ↦ none earlier (omega (arith, below, other))
    ])
  ]
]

-- if some number passes, there is a least one that does
least : (p : ℕ → Bool) (n : ℕ) → p n ≡ true →
    (m : ℕ) × (m ≤ n) × (p m ≡ true) × ((earlier : ℕ) → earlier < m → p earlier ≡ false)
least p zero holds = (0, omega arith, holds, λ earlier below. absurd (omega (arith, below)))
least p (suc n) holds = elim (least_so_far p (suc n)) [
  | inl found ↦ (found.0, omega (arith, found.1), found.2, found.3)
  | inr none ↦ (suc n, omega arith, holds, none)
]

module _ (table : TableView) (keys : List ℕ) (width : ℕ) where
  -- there is a least number of turns after which the machine is done
  pub rounds_there : WalksStay → sound_fault table ≡ None → AreBytes keys → 0 < width →
      (n : ℕ) × IsRounds table keys width n × (n ≤ most_steps table keys)
  rounds_there stay sound bytes some =
      let n = least (λ m. is_done (flow_from_first table keys width (turns width m)).machine) (most_steps table keys)
      (turns_enough table keys stay sound bytes width (most_steps table keys) some (omega arith)) in
      (n.0, record { ends = n.2; least = n.3 }, n.1)

  -- there is one such number
  pub one_round : (n other : ℕ) → IsRounds table keys width n → IsRounds table keys width other → n ≡ other
  one_round n other first second = elim (cases_lt n other) [
    | inl less ↦ absurd (cc (first.ends, second.least n less))
    | inr not_less ↦ elim (cases_lt other n) [
      | inl more ↦ absurd (cc (second.ends, first.least other more))
      | inr same ↦ omega (arith, not_less, same)
    ]
  ]

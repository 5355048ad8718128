-- Turns of all lanes, from the first state on until the machine is done.
use Rattle.std.proofs.Common.{◌≡◌, ℕ, zero, suc, ◌+◌, ◌*◌, ◌<◌, ◌≤◌, List, sym, ap, ◌∙◌, refl, arith}
use Rattle.std.proofs.Common.{length, take, drop, get_or, true, false, inl, inr, subst, add-one}
use Rattle.std.specs.Prelude.{None, count_by}
use Rattle.std.specs.List.{range_with_len}
use Rattle.std.proofs.Math.Nat.{mul-le-mul}
use Rattle.std.proofs.lemmas.Bool.{cases_Bool, cases_lt, cases_eq}
use Rattle.std.proofs.lemmas.List.{length-replicate, take_all}
use Rattle.std.proofs.lemmas.List.Elements.{All-from_get_or}
use Rattle.std.proofs.lemmas.List.Sums.{count_by_more_yes, count_by_more_no, fold-append}
use Rattle.table_sizes.specs.Groups.{max_key_len}
use Rattle.flat_table.specs.Table.{TableView}
use Rattle.flat_table.specs.Sound.{sound_fault}
use Rattle.table_sizes.specs.Sizes.{max_keys}
use Rattle.flat_table.specs.Batch.{batch_transitions, keys_in}
use Rattle.flat_table.specs.Laws.{WalksGoStepByStep, WalksStay}
use Rattle.flat_table.proofs.Offered.{batch_bound}
use Rattle.flow_core.specs.Machine.{Machine, FlowState, first_machine, first_state, flow_from_first, flow_run}
use Rattle.flow_core.specs.Machine.{flow_step}
use Rattle.flow_core.specs.Machine.{is_done, most_steps, turns, IsRounds}
use Rattle.flow_core.specs.Standing.{StandsOver}
use Rattle.flow_core.specs.Invariant.{IsFlown}
use Rattle.flow_core.specs.Laws.{AreBytes}
use Rattle.flow_core.proofs.Offered.{flown_step, from_first, run_width, same_width, turns-more, turns_are_slots}
use Rattle.lane_walk.specs.Turn.{AreAllNoted, AreNoted, IsAfterRun, is_busy, busy_slots, flow_turn}
use Rattle.lane_walk.proofs.Noted.{all_noted, noted_none}
use Rattle.lane_walk.proofs.Turns.{lane_more}
use Rattle.lane_walk.proofs.Left.{words_left, step_left, other_slot, first_left, done_left}
use Rattle.table_sizes.specs.Sizes.{max_tries}

-- what turns go by
pub record Flies (table : TableView) (keys : List ℕ) : Type 0 where
  pub law : WalksGoStepByStep
  pub stay : WalksStay
  pub sound : sound_fault table ≡ None
  pub bytes : AreBytes keys

-- turns over a sound table and keys of bytes have what they go by
pub flies : {table : TableView} {keys : List ℕ} → WalksGoStepByStep → WalksStay → sound_fault table ≡ None →
    ((i : ℕ) → get_or keys i 0 < 256) → Flies table keys
flies {keys = keys} law stay sound small = record {
  law = law;
  stay = stay;
  sound = sound;
  bytes = All-from_get_or (λ byte. byte < 256) keys 0 (λ i below. small i);
}

-- the first n slots were stepped once each, and for each that was busy a word less is left
record LanesStepped (table : TableView) (keys : List ℕ) (state now : FlowState) (n : ℕ) : Type 0 where
  pub flown : IsFlown table keys now
  pub width : length now.machine.slots ≡ length state.machine.slots
  pub later : (lane : ℕ) → n ≤ lane → get_or now.machine.slots lane None ≡ get_or state.machine.slots lane None
  pub left : words_left table keys now + count_by is_busy (take n state.machine.slots) ≡ words_left table keys state

module _ {table : TableView} {keys : List ℕ} (f : Flies table keys) where
  -- one more slot is stepped
  lane_stepped : {state now : FlowState} {n : ℕ} → LanesStepped table keys state now n →
      n < length state.machine.slots → LanesStepped table keys state (flow_step table keys now n) (n + 1)
  lane_stepped {state = state} {now = now} {n = n} s below =
      let within : n < length now.machine.slots = omega (arith, below, s.width) in
      let less = step_left f.law f.stay table keys now n within s.flown (get_or now.machine.slots n None) refl in
      let held : get_or now.machine.slots n None ≡ get_or state.machine.slots n None = s.later n (omega arith) in
      record {
        flown = flown_step table keys f.stay f.sound f.bytes now n within s.flown;
        width = same_width table keys now n ∙ s.width;
        later = λ lane past.
            other_slot table keys now n lane (omega (arith, past)) (get_or now.machine.slots n None)
            ∙ s.later lane (omega (arith, past));
        left = elim (cases_Bool (is_busy (get_or state.machine.slots n None))) [
          | inl busy ↦ (
              let is : is_busy (get_or now.machine.slots n None) ≡ true = ap is_busy held ∙ busy in
              omega (arith, rw is at less, s.left, count_by_more_yes is_busy state.machine.slots n None below busy)
              )
          | inr empty ↦ (
              let is : is_busy (get_or now.machine.slots n None) ≡ false = ap is_busy held ∙ empty in
              omega (arith, rw is at less, s.left, count_by_more_no is_busy state.machine.slots n None below empty)
              )
        ];
      }

  -- after as many steps in order the first n slots were stepped
  lanes_stepped : (state : FlowState) → IsFlown table keys state → (n : ℕ) → n ≤ length state.machine.slots →
      LanesStepped table keys state (flow_run table keys state (range_with_len 0 n)) n
  lanes_stepped state flown zero within = record {
    flown = flown;
    width = refl;
    later = λ lane past. refl;
    left = omega arith;
  }
  lanes_stepped state flown (suc n) within =
      subst (λ (m : ℕ). LanesStepped table keys state (flow_run table keys state (range_with_len 0 m)) m) (add-one n)
      (subst (λ (now : FlowState). LanesStepped table keys state now (n + 1)) (sym (lane_more table keys state n))
      (lane_stepped (lanes_stepped state flown n (omega (arith, within))) (omega (arith, within))))

  -- a turn takes a word of each busy slot
  turn_left : (state : FlowState) (width : ℕ) → width ≡ length state.machine.slots → IsFlown table keys state →
      words_left table keys (flow_turn table keys width state) + busy_slots state.machine ≡ words_left table keys state
  turn_left state width is flown =
      let whole = lanes_stepped state flown width (omega (arith, is)) in
      omega (
        arith,
        whole.left,
        ap (λ (slots : List _). count_by is_busy slots) (take_all width state.machine.slots (omega (arith, is))),
      )

-- after n turns of a machine that began over the old rows: it is where they lead, was not done before, and what is kept
-- of the walks holds
pub record Turned (table : TableView) (keys : List ℕ) (width n : ℕ) (machine : Machine) (old rows : List (List ℕ))
    (taken begun steps : ℕ) (Kept : Type 0) : Type 0 where
  pub machine_is : machine ≡ (flow_from_first table keys width (turns width n)).machine
  pub stands : StandsOver table keys machine (length rows)
  pub len : length rows ≡ length old
  pub others : drop (keys_in table keys) rows ≡ drop (keys_in table keys) old
  pub least : (earlier : ℕ) → earlier < n →
      is_done (flow_from_first table keys width (turns width earlier)).machine ≡ false
  pub taken_is : taken + words_left table keys (flow_from_first table keys width (turns width n))
      ≡ batch_transitions table keys
  pub counted : steps ≡ begun + taken
  pub kept : Kept

-- before the first turn a machine stands in its first state
pub turned_none : {table : TableView} {keys : List ℕ} {width : ℕ} {machine : Machine} {rows : List (List ℕ)}
    {begun : ℕ} → machine ≡ first_machine table keys width → StandsOver table keys machine (length rows) →
    Turned table keys width 0 machine rows rows 0 begun begun (AreNoted table keys machine rows)
turned_none {table = table} {keys = keys} {width = width} {rows = rows} is stands = record {
  machine_is = is;
  stands = stands;
  len = refl;
  others = refl;
  least = λ earlier below. absurd (omega (arith, below));
  taken_is = omega (arith, first_left table keys width);
  counted = omega arith;
  kept = subst (λ (machine : Machine). AreNoted table keys machine rows) (sym is) (noted_none table keys width rows);
}

-- what one turn did
pub record Turns (table : TableView) (keys : List ℕ) (width : ℕ) (now next : Machine) (rows new : List (List ℕ))
    (busy : ℕ) (Kept Next : Type 0) : Type 0 where
  pub machine : IsAfterRun table keys now (range_with_len 0 width) next
  pub busy_is : busy ≡ busy_slots now
  pub len : length new ≡ length rows
  pub others : drop (keys_in table keys) new ≡ drop (keys_in table keys) rows
  pub stands : StandsOver table keys next (length new)
  pub kept : Kept → Next

module _ {table : TableView} {keys : List ℕ} {width n : ℕ} {machine : Machine} {old rows : List (List ℕ)}
    {taken begun steps : ℕ} {Kept : Type 0} (f : Flies table keys)
    (t : Turned table keys width n machine old rows taken begun steps Kept) where
  abbrev pub here : FlowState
  here = flow_from_first table keys width (turns width n)

  pub flown_here : IsFlown table keys here
  flown_here = from_first table keys f.stay f.sound f.bytes width (turns width n) (turns_are_slots width n)

  pub width_here : width ≡ length here.machine.slots
  width_here = sym (run_width table keys (first_state table keys width) (turns width n)
      ∙ length-replicate width None)

  pub one_turn : flow_from_first table keys width (turns width (n + 1)) ≡ flow_turn table keys width here
  one_turn =
      ap (λ (slots : List ℕ). flow_from_first table keys width slots) (turns-more width n)
      ∙ fold-append (flow_step table keys) (first_state table keys width) (turns width n) (range_with_len 0 width)

  -- a turn takes a word for each busy slot
  left_here : {busy : ℕ} → busy ≡ busy_slots machine →
      words_left table keys (flow_turn table keys width here) + busy ≡ words_left table keys here
  left_here busy_is = omega (
    arith,
    busy_is,
    ap busy_slots t.machine_is,
    turn_left f here width width_here flown_here,
  )

  -- what the walks took with one more turn is no more than they take
  pub taken_below : {busy : ℕ} → busy ≡ busy_slots machine → taken + busy ≤ batch_transitions table keys
  taken_below busy_is = omega (arith, t.taken_is, left_here busy_is)

  pub turned_more : {next : Machine} {new : List (List ℕ)} {busy new_steps : ℕ} {Next : Type 0} →
      is_done machine ≡ false → Turns table keys width machine next rows new busy Kept Next →
      new_steps ≡ steps + busy → Turned table keys width (n + 1) next old new (taken + busy) begun new_steps Next
  turned_more not_done u counted = record {
    machine_is = u.machine here.rows
        ∙ ap (λ (it : Machine). (flow_turn table keys width (record { machine = it; rows = here.rows })).machine)
        t.machine_is
        ∙ sym (ap (λ (state : FlowState). state.machine) one_turn);
    stands = u.stands;
    len = u.len ∙ t.len;
    others = u.others ∙ t.others;
    least = λ earlier below. elim (cases_eq earlier n) [
      | inl same ↦ ap (λ (m : ℕ). is_done (flow_from_first table keys width (turns width m)).machine) same
          ∙ ap is_done (sym t.machine_is) ∙ not_done
      | inr other ↦ t.least earlier (omega (arith, below, other))
    ];
    taken_is = omega (
      arith,
      t.taken_is,
      left_here u.busy_is,
      ap (λ (state : FlowState). words_left table keys state) one_turn,
    );
    counted = omega (arith, counted, t.counted);
    kept = u.kept t.kept;
  }

  -- where it is not done, the turns so far are fewer than are enough
  pub turns_few : is_done machine ≡ false →
      ((m : ℕ) × IsRounds table keys width m × (m ≤ most_steps table keys)) → n < most_steps table keys
  turns_few not_done rounds = elim (cases_lt n rounds.0) [
    | inl less ↦ omega (arith, less, rounds.2)
    | inr past ↦ elim (cases_eq rounds.0 n) [
      | inl same ↦ (
          let ends : is_done machine ≡ true =
          ap is_done t.machine_is
          ∙ ap (λ (m : ℕ). is_done (flow_from_first table keys width (turns width m)).machine) (sym same)
          ∙ rounds.1.ends in
          absurd (cc (ends, not_done))
          )
      | inr other ↦ absurd (cc (rounds.1.ends, t.least rounds.0 (omega (arith, past, other))))
    ]
  ]

  -- where it is done, they are the rounds, and all words are taken
  pub rounds_are : is_done machine ≡ true → IsRounds table keys width n
  rounds_are done = record {
    ends = ap is_done (sym t.machine_is) ∙ done;
    least = t.least;
  }

  pub all_taken : is_done machine ≡ true → taken ≡ batch_transitions table keys
  all_taken done = omega (
    arith,
    t.taken_is,
    done_left table keys here flown_here (ap is_done (sym t.machine_is) ∙ done),
  )

-- and all rows are noted
pub noted_all : {table : TableView} {keys : List ℕ} {width n : ℕ} {machine : Machine} {old rows : List (List ℕ)}
    {taken begun steps : ℕ} →
    Turned table keys width n machine old rows taken begun steps (AreNoted table keys machine rows) →
    is_done machine ≡ true → AreAllNoted table keys rows
noted_all t done = all_noted t.kept t.stands.jobs done

-- ---- the numbers fit

-- the words that a batch takes are bounded by the greatest number of keys, tries and key bytes
pub words_fit : (table : TableView) (keys : List ℕ) → keys_in table keys ≤ max_keys →
    length table.roots ≤ max_tries → table.key_len ≤ max_key_len →
    batch_transitions table keys ≤ max_keys * (max_tries * max_key_len)
words_fit table keys few tries short = omega (
  arith,
  batch_bound table keys,
  mul-le-mul few (mul-le-mul tries short),
)

-- and so are the steps of each slot that are enough
pub steps_fit : (table : TableView) (keys : List ℕ) → keys_in table keys ≤ max_keys →
    length table.roots ≤ max_tries → table.key_len ≤ max_key_len →
    most_steps table keys ≤ max_keys * max_tries * (max_key_len + 1)
steps_fit table keys few tries short =
    let longer : table.key_len + 1 ≤ max_key_len + 1 = omega (arith, short) in
    mul-le-mul (mul-le-mul few tries) longer

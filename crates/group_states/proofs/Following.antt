-- The runs lead to the row of the matching rules.
use Rattle.std.proofs.Common.{◌≡◌, ◌≢◌, ℕ, zero, suc, ◌+◌, ◌-◌, ◌<◌, ◌≤◌, ◌==◌, List, [], ◌∷◌, ◌++◌, length, map}
use Rattle.std.proofs.Common.{fold}
use Rattle.std.proofs.Common.{filter, take, drop, get_or, slice_get, Bool, true, false, cond, leb, not, ◌&&◌, ◌||◌}
use Rattle.std.proofs.Common.{true≢false, Some, None, refl, sym, ◌∙◌, ap, subst, inl, inr, ◌⊎◌, arith, take-add}
use Rattle.std.specs.List.{AllByRecursion, range_with_len, flat_map, find, list_any, position_or_len, cons_option}
use Rattle.std.specs.Option.{option_map, option_map_or}
use Rattle.std.proofs.lemmas.Bool.{cases_Bool, cases_eq, eqb-true, eq-eqb, le-leb, lt-leb, not-false, or_parts}
use Rattle.std.specs.Str.{bytes_eq}
use Rattle.std.proofs.lemmas.List.Elements.{recursion_from_All, All-get_or, All-from_recursion}
use Rattle.std.proofs.lemmas.List.{take_more, take_all, length-take-le, length-drop}
use Rattle.std.proofs.lemmas.List.{take-append-drop, length-map}
use Rattle.field_defs.specs.Layout.{key_len_of}
use Rattle.field_defs.proofs.Offered.{short_keys}
use Rattle.rule_set.specs.Rule.{RuleSetView}
use Rattle.rule_set.specs.Winner.{rule_match}
use Rattle.rule_set.specs.Fault.{categories}
use Rattle.node_expand.specs.declared.edge.Edge.TheVariants.{Free}
use Rattle.node_expand.specs.Rest.{Rest, Live}
use Rattle.group_states.proofs.Categories.{length-categories}
use Rattle.list_lemmas.proofs.Tests.{bytes_eq_refl, bytes_eq_sound}
use Rattle.list_lemmas.proofs.Each.{all_of_parts, all_of_map, all_of_singles}
use Rattle.group_states.proofs.Finds.{is_new, none_new_once_found}
use Rattle.group_states.proofs.Gaps.{Gaps, HasFirst, kept_places_first}
use Rattle.group_states.proofs.LevelRuns.{packed_start}
use Rattle.group_states.proofs.Packed.{AreBytes, bytes_after}
use Rattle.group_states.proofs.PackedState.{IsHeld, packed_state, packed_state_steps, packed_state_start, decoded}
use Rattle.group_states.proofs.PackedState.{state_is, same_state-Decides}
use Rattle.group_states.proofs.Reached.{IsGap, states_are, reached_is, bytes_on}
use Rattle.group_states.proofs.RestSteps.{state_goes_through}
use Rattle.group_states.proofs.StateLaws.{whole_keys_are_live_where_they_match, held_of}
use Rattle.group_states.specs.Entry.{entry_of, column_at, entries_step}
use Rattle.group_states.specs.Follow.{run_to, on_from, followed, matching, IsAnswer}
use Rattle.group_states.specs.Found.{found_with, found_in, all_bytes, prefixes}
use Rattle.group_states.specs.Kept.{is_wild_place, kept_places}
use Rattle.group_states.specs.Laws.{RunsLeadToTheRowOfTheMatchingRules}
use Rattle.group_states.specs.Levels.{same_succ, is_end, runs_of, states_at, reached, state_succ, row_succ}
use Rattle.group_states.specs.Levels.{level_runs}
use Rattle.group_states.specs.Levels.{levels_of}
use Rattle.group_states.specs.Row.{row_of, winner_of, final_row, rows_of}
use Rattle.group_states.specs.RuleRest.{values_of, rule_rest}
use Rattle.group_states.specs.State.{Held, state, state_step, state_through, same_state, is_live}
use Rattle.group_states.specs.declared.run.Run.{Run}
use Rattle.group_states.specs.declared.run.Succ.{Succ}
use Rattle.group_states.specs.declared.run.Succ.TheVariants.{Dead, State, Row}
use Rattle.field_defs.specs.declared.field.FieldDef.{FieldDef}

-- ---- the run of a byte

-- two successors that compare as one are one
pub same_is : (a b : Succ) → same_succ a b ≡ true → a ≡ b
same_is Dead Dead h = refl
same_is (State m) (State n) h = ap State (eqb-true m n h)
same_is (Row m) (Row n) h = ap Row (eqb-true m n h)
same_is Dead (State n) h = absurd (true≢false (sym h))
same_is Dead (Row n) h = absurd (true≢false (sym h))
same_is (State m) Dead h = absurd (true≢false (sym h))
same_is (State m) (Row n) h = absurd (true≢false (sym h))
same_is (Row m) Dead h = absurd (true≢false (sym h))
same_is (Row m) (State n) h = absurd (true≢false (sym h))

module _ (succ : ℕ → Succ) (byte : ℕ) where
  -- the run that ends with a byte
  abbrev run_at : ℕ → Run
  run_at b = record { last = b; to = succ b }

  -- where the first of the runs leads that ends at the byte or after it
  abbrev first_run : List ℕ → Succ
  first_run bytes = option_map_or (λ (run : Run). run.to)
      (find (λ (run : Run). leb byte run.last) (map run_at (filter (is_end succ) bytes))) Dead

  -- from a byte on, the first run that ends has what that byte leads to
  run_on : (first count : ℕ) → first + count ≡ 256 → 0 < count → byte ≤ first
      → first_run (range_with_len first count) ≡ succ first
  run_on first zero whole some from = absurd (omega arith)
  run_on first (suc count) whole some from = elim (cases_Bool (is_end succ first)) [
    | inl ends ↦
        ap (λ b. option_map_or (λ (run : Run). run.to)
        (find (λ (run : Run). leb byte run.last)
        (map run_at (cond b (first ∷ filter (is_end succ) (range_with_len (first + 1) count))
        (filter (is_end succ) (range_with_len (first + 1) count))))) Dead) ends
        ∙ ap (λ b. option_map_or (λ (run : Run). run.to)
        (cond b (Some (run_at first))
        (find (λ (run : Run). leb byte run.last)
        (map run_at (filter (is_end succ) (range_with_len (first + 1) count))))) Dead) (le-leb byte first from)
    | inr goes ↦
        let parts = or_parts (first == 255) (not (same_succ (succ first) (succ (first + 1)))) goes in
        let not_last : first ≢ 255 = λ e. true≢false (sym (eq-eqb first 255 e) ∙ parts.0) in
        ap (λ b. option_map_or (λ (run : Run). run.to)
        (find (λ (run : Run). leb byte run.last)
        (map run_at (cond b (first ∷ filter (is_end succ) (range_with_len (first + 1) count))
        (filter (is_end succ) (range_with_len (first + 1) count))))) Dead) goes
        ∙ run_on (first + 1) count (omega (arith, whole)) (omega (arith, whole, not_last)) (omega arith)
        ∙ sym (same_is (succ first) (succ (first + 1)) (not-false _ parts.1))
  ]

  -- up to the byte no run that ends is its
  run_until : (first count : ℕ) → first + count ≡ 256 → first ≤ byte → byte < 256
      → first_run (range_with_len first count) ≡ succ byte
  run_until first zero whole from below = absurd (omega arith)
  run_until first (suc count) whole from below = elim (cases_eq first byte) [
    | inl e ↦ run_on first (suc count) whole (omega arith) (omega arith) ∙ ap succ e
    | inr other ↦ elim (cases_Bool (is_end succ first)) [
      | inl ends ↦
          ap (λ b. option_map_or (λ (run : Run). run.to)
          (find (λ (run : Run). leb byte run.last)
          (map run_at (cond b (first ∷ filter (is_end succ) (range_with_len (first + 1) count))
          (filter (is_end succ) (range_with_len (first + 1) count))))) Dead) ends
          ∙ ap (λ b. option_map_or (λ (run : Run). run.to)
          (cond b (Some (run_at first))
          (find (λ (run : Run). leb byte run.last)
          (map run_at (filter (is_end succ) (range_with_len (first + 1) count))))) Dead)
          (lt-leb byte first (omega (arith, other)))
          ∙ run_until (first + 1) count (omega (arith, whole)) (omega (arith, other)) below
      | inr goes ↦
          ap (λ b. option_map_or (λ (run : Run). run.to)
          (find (λ (run : Run). leb byte run.last)
          (map run_at (cond b (first ∷ filter (is_end succ) (range_with_len (first + 1) count))
          (filter (is_end succ) (range_with_len (first + 1) count))))) Dead) goes
          ∙ run_until (first + 1) count (omega (arith, whole)) (omega (arith, other)) below
    ]
  ]

  -- the runs lead a byte to its successor
  pub run_to_byte : byte < 256 → run_to (runs_of succ) byte ≡ succ byte
  unfolding runs_of all_bytes
  run_to_byte below = run_until 0 256 refl (omega arith) below

-- ---- what is found at a number

module _ {X : Type 0} (same : X → X → Bool) (sound : (x y : X) → same x y ≡ true → x ≡ y) where
  -- an element that is among others is found at its position
  pub found_at : (x : X) (xs : List X) → list_any (same x) xs ≡ true
      → slice_get xs (position_or_len (same x) xs) ≡ Some x
  found_at x [] there = absurd (true≢false (sym there))
  found_at x (y ∷ ys) there = elim (cases_Bool (same x y)) [
    | inl is ↦
        ap (λ b. slice_get (y ∷ ys) (cond (not b) (1 + position_or_len (same x) ys) 0)) is
        ∙ ap Some (sym (sound x y is))
    | inr other ↦
        let one : 1 + position_or_len (same x) ys ≡ suc (position_or_len (same x) ys) = omega arith in
        ap (λ b. slice_get (y ∷ ys) (cond (not b) (1 + position_or_len (same x) ys) 0)) other
        ∙ ap (slice_get (y ∷ ys)) one
        ∙ found_at x ys (sym (ap (λ b. b || list_any (same x) ys) other) ∙ there)
  ]

-- ---- every list of bytes is a prefix

-- each of some bytes is below 256
small_at : (bytes : List ℕ) (k : ℕ) → AreBytes bytes → k < length bytes → get_or bytes k 0 < 256
small_at bytes k small within =
    All-get_or (λ byte. byte < 256) bytes k 0 within (All-from_recursion (λ byte. byte < 256) bytes small)

-- the first few of some bytes are bytes
bytes_before : (n : ℕ) (bytes : List ℕ) → AreBytes bytes → AreBytes (take n bytes)
bytes_before zero bytes small = tt
bytes_before (suc n) [] small = tt
bytes_before (suc n) (b ∷ bs) small = (small.0, bytes_before n bs small.1)

-- what holds of all prefixes holds of each list of so many bytes
each_prefix : (place : ℕ) (P : List ℕ → Type 0) → AllByRecursion P (prefixes place) → (key : List ℕ) → AreBytes key
    → length key ≡ place → P key
unfolding prefixes all_bytes
each_prefix zero P all [] small long = all.0
each_prefix zero P all (k ∷ ks) small long = absurd (omega arith)
each_prefix (suc place) P all key small long =
    let inner = all_of_parts P (λ before. flat_map (λ byte. (before ++ byte ∷ []) ∷ []) (range_with_len 0 256))
    (prefixes place) all in
    let shorter : length (take place key) ≡ place = length-take-le place key (omega arith) in
    let one = each_prefix place
    (λ before. AllByRecursion P (flat_map (λ byte. (before ++ byte ∷ []) ∷ []) (range_with_len 0 256))) inner
    (take place key) (bytes_before place key small) shorter in
    let last = all_of_singles P (λ byte. take place key ++ byte ∷ []) 0 256 one (get_or key place 0)
    (omega arith) (small_at key place small (omega arith)) in
    let whole : take place key ++ get_or key place 0 ∷ [] ≡ key = sym (take_more key place 0 (omega arith))
    ∙ take_all (place + 1) key (omega arith) in
    subst P whole last

-- what a key leads to is found
module _ {X : Type 0} (same : X → X → Bool) (live : X → Bool) (reflexive : (x : X) → same x x ≡ true)
    (sound : (x y : X) → same x y ≡ true → x ≡ y) (f : List ℕ → X) where
  -- what a key leads to is found at its position if it is live
  pub found_for_key : (place : ℕ) (key : List ℕ) → AreBytes key → length key ≡ place → live (f key) ≡ true →
      slice_get (found_in same live (map f (prefixes place)))
      (position_or_len (same (f key)) (found_in same live (map f (prefixes place)))) ≡ Some (f key)
  unfolding found_in
  found_for_key place key small long alive =
      let found : List X = fold (found_with same live) [] (map f (prefixes place)) in
      let old = each_prefix place (λ k. is_new same live found (f k) ≡ false)
      (all_of_map (λ x. is_new same live found x ≡ false) f (prefixes place)
      (none_new_once_found same live reflexive [] (map f (prefixes place)))) key small long in
      found_at same sound (f key) found
      (not-false _ (sym (ap (λ b. b && not (list_any (same (f key)) found)) alive) ∙ old))

-- a state is itself by the test
pub same_state_refl : (s : List Held) → same_state s s ≡ true
same_state_refl s = (same_state-Decides s s).1 refl

-- and states that pass it are one
pub same_state_sound : (s t : List Held) → same_state s t ≡ true → s ≡ t
same_state_sound s t = (same_state-Decides s t).0

-- ---- whole keys

-- the rules of the state after a whole key are those that match
pub whole_numbers : (set : RuleSetView) (group key : List ℕ) → length key ≡ key_len_of set.layout
    → map (λ (h : Held). h.number) (state set group key) ≡ matching set group key
unfolding state rule_rest
whole_numbers set [] key long = refl
whole_numbers set (number ∷ group) key long =
    ap (λ found. map (λ (h : Held). h.number)
    (cons_option (option_map (λ (r : Rest). record { number = number; rest = r }) found) (state set group key)))
    (whole_keys_are_live_where_they_match set.layout (values_of set number) key long)
    ∙ by (rule_match set.layout (values_of set number) key) (whole_numbers set group key long)
  where
    by : (b : Bool) → map (λ (h : Held). h.number) (state set group key) ≡ matching set group key →
        map (λ (h : Held). h.number)
        (cons_option (option_map (λ (r : Rest). record { number = number; rest = r }) (cond b (Some Live) None))
        (state set group key)) ≡ cond b (number ∷ matching set group key) (matching set group key)
    by true rest = ap (λ l. number ∷ l) rest
    by false rest = rest

-- no state becomes live again
dead_on : (set : RuleSetView) (place : ℕ) (bytes : List ℕ) → state_through set place [] bytes ≡ []
unfolding state_through state_step
dead_on set place [] = refl
dead_on set place (byte ∷ bytes) = dead_on set (place + 1) bytes

-- a list that has an element is live
live_if_long : (xs : List ℕ) → 0 < length xs → is_live xs ≡ true
live_if_long [] h = absurd (omega arith)
live_if_long (x ∷ xs) h = refl

-- a list is live and has an element, or is dead and has none
live_or_not : {X : Type 0} (xs : List X) → (is_live xs ≡ true) × (0 < length xs) ⊎ (is_live xs ≡ false) × (xs ≡ [])
live_or_not [] = inr (refl, refl)
live_or_not (x ∷ xs) = inl (refl, omega arith)

module _ (set : RuleSetView) (group : List ℕ) (held : AllByRecursion (IsHeld set) group) (key : List ℕ)
    (small : AreBytes key) (long : length key ≡ key_len_of set.layout) where
  -- a state that is dead after some bytes of the key leaves no rule that matches
  none_match : (place : ℕ) → place ≤ key_len_of set.layout → state set group (take place key) ≡ []
      → matching set group key ≡ []
  none_match place within dead =
      let shorter : length (take place key) ≡ place = length-take-le place key (omega (arith, long)) in
      sym (whole_numbers set group key long)
      ∙ ap (map (λ (h : Held). h.number))
      (ap (state set group) (sym (take-append-drop place key))
      ∙ state_goes_through set group (take place key) (drop place key) held (bytes_after place key small)
      (omega (arith, shorter, length-drop place key, long))
      ∙ (λ i. state_through set (shorter i) (dead i) (drop place key))
      ∙ dead_on set place (drop place key))

  -- what the state of the key's first bytes reaches is the state of more of them
  reach_key : (place next : ℕ) (gap : IsGap set group place next)
      → reached set place next (state set group (take place key)) (get_or key place 0) ≡ state set group (take next key)
  reach_key place next gap =
      let here : length (take place key) ≡ place =
      length-take-le place key (omega (arith, long, gap.rises, gap.within)) in
      let byte : ℕ = get_or key place 0 in
      let below : byte < 256 = small_at key place small (omega (arith, long, gap.rises, gap.within)) in
      let start : List ℕ = take place key in
      let rest : List ℕ = take (next - place - 1) (drop (place + 1) key) in
      let one : take (place + 1) key ≡ start ++ byte ∷ [] =
      take_more key place 0 (omega (arith, long, gap.rises, gap.within)) in
      let one_long : length (take (place + 1) key) ≡ place + 1 =
      length-take-le (place + 1) key (omega (arith, long, gap.rises, gap.within)) in
      let rest_long : length rest ≡ next - place - 1 =
      length-take-le (next - place - 1) (drop (place + 1) key)
      (omega (arith, length-drop (place + 1) key, long, gap.rises, gap.within)) in
      let count : place + 1 + (next - place - 1) ≡ next = omega (arith, gap.rises) in
      let until : take next key ≡ take (place + 1) key ++ rest = ap (λ n. take n key) (sym count)
      ∙ take-add (place + 1) (next - place - 1) key in
      let next_long : length (take next key) ≡ next = length-take-le next key (omega (arith, long, gap.within)) in
      let entries : entries_step (column_at set place) (packed_state set group start) byte
      ≡ packed_state set group (take next key) =
      ap (λ n. entries_step (column_at set n) (packed_state set group start) byte) (sym here)
      ∙ sym (packed_state_steps set group start byte held (omega (arith, here, gap.rises, gap.within)) below)
      ∙ ap (packed_state set group) (sym one)
      ∙ sym (bytes_on set group held (take (place + 1) key) rest (bytes_before (place + 1) key small)
      (bytes_before (next - place - 1) (drop (place + 1) key) (bytes_after (place + 1) key small))
      (omega (arith, one_long, rest_long, gap.rises, gap.within))
      (λ g under. gap.wild (length (take (place + 1) key) + g) (omega (arith, one_long))
      (omega (arith, one_long, rest_long, gap.rises))))
      ∙ ap (packed_state set group) (sym until) in
      ap (λ s. reached set place next s byte)
      (state_is set group start held ∙ ap (λ n. map (decoded set n) (packed_state set group start)) here)
      ∙ reached_is set group held place next gap start byte (bytes_before place key small, here) below
      ∙ ap (map (decoded set next)) entries
      ∙ sym (state_is set group (take next key) held
      ∙ ap (λ n. map (decoded set n) (packed_state set group (take next key))) next_long)

  -- the runs of a state by its number
  runs_at : (F : List Held → List Run) (states : List (List Held)) (number : ℕ) (s : List Held)
      → slice_get states number ≡ Some s → get_or (map F states) number [] ≡ F s
  runs_at F [] number s there = absurd cc
  runs_at F (x ∷ xs) zero s there = (let e : x ≡ s = cc in ap F e)
  runs_at F (x ∷ xs) (suc number) s there = runs_at F xs number s there

  -- the row of the whole key is the answer
  row_answer : IsAnswer set (rows_of set group) (matching set group key)
      (on_from (λ (next : ℕ). Dead) (row_succ (rows_of set group) (final_row set (state set group key))))
  unfolding rows_of final_row row_of
  row_answer = by (live_or_not (state set group key))
    where
      row : List ℕ
      row = final_row set (state set group key)

      long_row : (numbers : List ℕ) → is_live (row_of set numbers) ≡ true
      long_row numbers = live_if_long (row_of set numbers)
          (omega (
            arith,
            length-map categories
                (λ category. option_map_or (λ number. number + 1) (winner_of set category numbers) 0),
            length-categories,
          ))

      by : (is_live (state set group key) ≡ true) × (0 < length (state set group key))
          ⊎ (is_live (state set group key) ≡ false) × (state set group key ≡ []) →
          IsAnswer set (rows_of set group) (matching set group key)
          (on_from (λ (next : ℕ). Dead) (row_succ (rows_of set group) row))
      by (inl some) =
          let numbers = whole_numbers set group key long in
          let is : row ≡ row_of set (matching set group key) =
          ap (λ b. cond b (row_of set (map (λ (h : Held). h.number) (state set group key))) []) some.0
          ∙ ap (row_of set) numbers in
          let alive : is_live row ≡ true = ap is_live is ∙ long_row (matching set group key) in
          let there = found_for_key bytes_eq is_live bytes_eq_refl bytes_eq_sound
          (λ k. final_row set (state set group k)) (key_len_of set.layout) key small long alive in
          subst (IsAnswer set (rows_of set group) (matching set group key))
          (sym (ap (λ b. on_from (λ (next : ℕ). Dead)
          (cond b (Row (position_or_len (bytes_eq row) (rows_of set group))) Dead)) alive)) (
            omega (arith, some.1, ap length numbers, length-map (state set group key) (λ (h : Held). h.number)),
            there
                ∙ ap Some is,
          )
      by (inr none) =
          let is : row ≡ [] = ap (final_row set) none.1 in
          subst (IsAnswer set (rows_of set group) (matching set group key))
          (sym (ap (λ r. on_from (λ (next : ℕ). Dead) (row_succ (rows_of set group) r)) is))
          (sym (whole_numbers set group key long) ∙ ap (map (λ (h : Held). h.number)) none.1)

  -- the runs lead from the key's state at a place to the row of the rules that match
  follow : (place : ℕ) (places : List ℕ) (number : ℕ) → Gaps set group (place ∷ places)
      → slice_get (states_at set group place) number ≡ Some (state set group (take place key)) →
      IsAnswer set (rows_of set group) (matching set group key)
      (followed (level_runs set (states_at set group) (rows_of set group) (place ∷ places)) (place ∷ places) key
      number)
  unfolding level_runs states_at
  follow place [] number gap there =
      let rows : List (List ℕ) = rows_of set group in
      let before : List Held = state set group (take place key) in
      let byte : ℕ = get_or key place 0 in
      let whole : take (key_len_of set.layout) key ≡ key = take_all (key_len_of set.layout) key (omega (arith, long)) in
      let succ : ℕ → Succ = λ b. row_succ rows (final_row set (reached set place (key_len_of set.layout) before b)) in
      let is : run_to (get_or (map
      (λ s. runs_of (λ b. row_succ rows (final_row set (reached set place (key_len_of set.layout) s b))))
      (states_at set group place)) number []) byte ≡ row_succ rows (final_row set (state set group key)) =
      ap (λ runs. run_to runs byte)
      (runs_at (λ s. runs_of (λ b. row_succ rows (final_row set (reached set place (key_len_of set.layout) s b))))
      (states_at set group place) number before there)
      ∙ run_to_byte succ byte (small_at key place small (omega (arith, long, gap.rises, gap.within)))
      ∙ ap (λ s. row_succ rows (final_row set s))
      (reach_key place (key_len_of set.layout) gap ∙ ap (state set group) whole) in
      subst (IsAnswer set rows (matching set group key)) (sym (ap (on_from (λ (next : ℕ). Dead)) is)) row_answer
  follow place (next ∷ places) number gaps there =
      let before : List Held = state set group (take place key) in
      let after : List Held = state set group (take next key) in
      let byte : ℕ = get_or key place 0 in
      let gap = gaps.0 in
      let on : ℕ → Succ = λ n. followed (level_runs set (states_at set group) (rows_of set group) (next ∷ places))
      (next ∷ places) key n in
      let succ : ℕ → Succ = λ b. state_succ (states_at set group next) (reached set place next before b) in
      let is : run_to (get_or (map
      (λ s. runs_of (λ b. state_succ (states_at set group next) (reached set place next s b)))
      (states_at set group place)) number []) byte ≡ state_succ (states_at set group next) after =
      ap (λ runs. run_to runs byte)
      (runs_at (λ s. runs_of (λ b. state_succ (states_at set group next) (reached set place next s b)))
      (states_at set group place) number before there)
      ∙ run_to_byte succ byte (small_at key place small (omega (arith, long, gap.rises, gap.within)))
      ∙ ap (state_succ (states_at set group next)) (reach_key place next gap) in
      let next_long : length (take next key) ≡ next = length-take-le next key (omega (arith, long, gap.within)) in
      elim (live_or_not after) [
        | inl alive ↦
            let at : ℕ = position_or_len (same_state after) (states_at set group next) in
            let found = found_for_key same_state is_live same_state_refl same_state_sound (state set group) next
            (take next key) (bytes_before next key small) next_long alive.0 in
            subst (IsAnswer set (rows_of set group) (matching set group key))
            (sym (ap (on_from on) (is ∙ ap (λ b. cond b (State at) Dead) alive.0)))
            (follow next places at gaps.1 found)
        | inr none ↦
            subst (IsAnswer set (rows_of set group) (matching set group key))
            (sym (ap (on_from on) (is
            ∙ ap (λ b. cond b (State (position_or_len (same_state after) (states_at set group next))) Dead)
            none.0)))
            (none_match next gap.within none.1)
      ]

  -- before the first kept place the key has the one state
  first_there : 0 < length group → (place : ℕ) → place ≤ key_len_of set.layout
      → ((k : ℕ) → k < place → is_wild_place set group k ≡ true) →
      slice_get (states_at set group place) 0 ≡ Some (state set group (take place key))
  first_there some place within wild =
      let shorter : length (take place key) ≡ place = length-take-le place key (omega (arith, long)) in
      let start : List ℕ = map (λ number. entry_of number Free) group in
      let entries : packed_state set group (take place key) ≡ start =
      bytes_on set group held [] (take place key) tt (bytes_before place key small) (omega (arith, shorter))
      (λ gap below. ap (is_wild_place set group) (omega arith) ∙ wild gap (omega (arith, shorter)))
      ∙ packed_state_start set group held in
      ap (λ states. slice_get states 0)
      (states_are set group held place
      ∙ ap (map (map (decoded set place))) (packed_start set group held some place within wild))
      ∙ ap Some (sym (state_is set group (take place key) held ∙ (λ i. map (decoded set (shorter i)) (entries i))))

  -- the runs lead there from the first state too
  from_first : 0 < length group → (places : List ℕ) → HasFirst set group places →
      IsAnswer set (rows_of set group) (matching set group key)
      (followed (level_runs set (states_at set group) (rows_of set group) places) places key 0)
  from_first some [] first = absurd (let e = first.some in omega arith)
  from_first some (place ∷ places) first =
      follow place places 0 first.gaps (first_there some place first.within first.before)

-- for every key the runs lead to the row of the rules that match it, or to nothing if none does
pub runs_lead : RunsLeadToTheRowOfTheMatchingRules
unfolding levels_of
runs_lead set group key is small long =
    from_first set group (held_of set group is) key (recursion_from_All (λ byte. byte < 256) key small) long
    is.group.some (kept_places set group) (kept_places_first set group (short_keys set.layout is.layout).0)

-- a rule without values matches no key of a layout with a field
pub some_field : (layout : List FieldDef) (key : List ℕ) → 0 < key_len_of layout → rule_match layout [] key ≡ false
some_field [] key some = absurd (omega (arith, some))
some_field (def ∷ layout) key some = refl

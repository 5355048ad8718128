-- The merged states of a group make a trie of its set: there is a first one, and each leads on.
use Rattle.std.proofs.Common.{◌≡◌, ℕ, zero, suc, ◌+◌, ◌<◌, ◌≤◌, true, cond, List, [], ◌∷◌, map, filter, refl, sym, ap}
use Rattle.std.proofs.Common.{subst, inl, inr, arith, ◌-◌, Bool, false, All, ◌++◌, ◌∙◌, length, get_or, ◌||◌, not}
use Rattle.std.proofs.Common.{replicate, length-append, ◌/◌, ◌%◌, ◌^◌, ◌==◌, ◌&&◌, Some, None, Option, eq-eqb, eqb-true}
use Rattle.std.proofs.Common.{lt-ltb}
use Rattle.std.specs.List.{range_with_len, AllByRecursion, position_or_len}
use Rattle.std.proofs.lemmas.Bool.{cases_lt, and_parts}
use Rattle.group_states.specs.declared.run.Run.{Run}
use Rattle.group_states.specs.declared.run.Succ.{Succ}
use Rattle.group_states.specs.Found.{all_bytes, prefixes}
use Rattle.group_states.specs.Levels.{same_succ, is_end, runs_of, states_at, reached, state_succ, row_succ, level_runs}
use Rattle.group_states.specs.Levels.{levels_of}
use Rattle.table_fill.specs.Tries.{HoldBytes, IsThere, AreRuns, AreLevels, IsTrie}
use Rattle.std.specs.Str.{bytes_eq}
use Rattle.std.proofs.lemmas.List.{length-map, length-replicate}
use Rattle.std.proofs.lemmas.List.Elements.{All-from_recursion, All-map}
use Rattle.std.proofs.lemmas.Option.{slice_get_within}
use Rattle.field_defs.specs.Layout.{key_len_of}
use Rattle.rule_set.specs.Rule.{RuleSetView, RuleView}
use Rattle.group_states.specs.declared.run.Succ.TheVariants.{Dead, State}
use Rattle.group_states.specs.State.{Held, state, state_through, same_state, is_live}
use Rattle.table_sizes.specs.Groups.{group_of}
use Rattle.group_states.specs.Kept.{is_wild_place, is_kept, kept_places, kept_bits}
use Rattle.group_states.specs.Row.{final_row, rows_of, winner_of, row_of}
use Rattle.list_lemmas.proofs.Tests.{bytes_eq_refl, bytes_eq_sound}
use Rattle.list_lemmas.proofs.Each.{all-append, all-map, all_weaker}
use Rattle.group_states.proofs.Offered.{All-found_in, found_for_key, AreBytes, IsHeld}
use Rattle.group_states.proofs.Offered.{decoded, same_state-Decides, state_goes_through, zeros_small, packed_start}
use Rattle.group_states.proofs.Offered.{states_are, IsPrefix, prefixes_are, Gaps}
use Rattle.group_states.proofs.Offered.{HasFirst, kept_places_first, held_of}
use Rattle.std.proofs.lemmas.Nat.Bits.{bit_at-zero}
use Rattle.std.proofs.Math.Nat.{div-eq_of_lt}
use Rattle.list_lemmas.proofs.Members.{filter-none}
use Rattle.list_lemmas.proofs.Loops.{one_says, all_each, holds_of_cond}
use Rattle.list_lemmas.proofs.Maps.{filter_on_range, find_in_filter}
use Rattle.list_lemmas.proofs.Sums.{bits_small, bit_is}
use Rattle.field_defs.specs.declared.field.FieldDef.{FieldDef}
use Rattle.field_defs.specs.Lawful.{IsLayout}
use Rattle.field_defs.proofs.Offered.{filled_groups, short_keys}
use Rattle.flat_table.specs.Groups.{is_key_len}
use Rattle.std.specs.Option.{option_map_or}
use Rattle.rule_set.specs.Fault.{categories}
use Rattle.rule_set.specs.Winner.{is_in_category}
use Rattle.rule_set.specs.Among.{passes_at, best_among, is_greatest_at}
use Rattle.rule_set.proofs.Offered.{passes_there}
use Rattle.group_states.specs.Laws.{IsGrouped}
use Rattle.table_sizes.specs.Groups as bits
use Rattle.flat_table.specs.Groups as table

-- ---- the runs of a state

-- the runs of so many bytes from a first one on
abbrev runs_from : (ℕ → Succ) → ℕ → ℕ → List Run
runs_from succ first count =
    map (λ byte. record { last = byte; to = succ byte }) (filter (is_end succ) (range_with_len first count))

-- a run in front of others
one_more : (first : ℕ) (run : Run) (runs : List Run) → first ≤ run.last → run.last < 255 →
    HoldBytes (run.last + 1) runs → HoldBytes first (run ∷ runs)
one_more first run [] from below rest = absurd rest
one_more first run (next ∷ runs) from below rest = (from, below, rest)

-- runs that hold the bytes from a first one on, each of which leads to where something holds
abbrev HoldFrom : (Succ → Type 0) → ℕ → List Run → Type 0
HoldFrom P low runs = HoldBytes low runs × AllByRecursion (λ (run : Run). P run.to) runs

-- such are the runs up to the last byte, where it holds for each byte
runs_hold : (succ : ℕ → Succ) (P : Succ → Type 0) → ((byte : ℕ) → byte < 256 → P (succ byte)) →
    (low first count : ℕ) → low ≤ first → first + suc count ≡ 256 → HoldFrom P low (runs_from succ first (suc count))
runs_hold succ P each low first zero from whole =
    let run : ℕ → Run = λ byte. record { last = byte; to = succ byte } in
    let last : first ≡ 255 = omega (arith, whole) in
    subst (λ b. HoldFrom P low (map run (cond (b || not (same_succ (succ first) (succ (first + 1)))) (first ∷ []) [])))
    (sym (eq-eqb first 255 last)) ((from, last), (each first (omega (arith, last)), tt))
runs_hold succ P each low first (suc count) from whole =
    by (is_end succ first)
    (runs_hold succ P each low (first + 1) count (omega (arith, from)) (omega (arith, whole)))
    (runs_hold succ P each (first + 1) (first + 1) count (omega arith) (omega (arith, whole)))
  where
    by : (ends : Bool) → HoldFrom P low (runs_from succ (first + 1) (suc count)) →
        HoldFrom P (first + 1) (runs_from succ (first + 1) (suc count)) →
        HoldFrom P low (map (λ byte. record { last = byte; to = succ byte })
        (cond ends (first ∷ filter (is_end succ) (range_with_len (first + 1) (suc count)))
        (filter (is_end succ) (range_with_len (first + 1) (suc count)))))
    by true over rest = (
      one_more low (record { last = first; to = succ first }) (runs_from succ (first + 1) (suc count)) from
          (omega (arith, whole)) rest.0,
      (each first (omega (arith, whole)), rest.1),
    )
    by false over rest = over

-- what holds of each byte's successor holds of all runs
all_runs_hold : (succ : ℕ → Succ) (P : Succ → Type 0) → ((byte : ℕ) → byte < 256 → P (succ byte)) →
    HoldFrom P 0 (runs_of succ)
unfolding runs_of all_bytes
all_runs_hold succ P each = runs_hold succ P each 0 0 255 (omega arith) refl

-- the runs lead into the levels after them if each byte's successor is there
are_runs : (count : ℕ) (levels : List (List (List Run))) (succ : ℕ → Succ) →
    ((byte : ℕ) → byte < 256 → IsThere count levels (succ byte)) → AreRuns count levels (runs_of succ)
are_runs count levels succ each =
    let both = all_runs_hold succ (IsThere count levels) each in record {
      bytes = both.0;
      there = All-from_recursion (λ (run : Run). IsThere count levels run.to) (runs_of succ) both.1;
    }

module _ (set : RuleSetView) (group : List ℕ) (held : AllByRecursion (IsHeld set) group) where
  -- ---- states are those of prefixes

  -- a state of a place is that of some bytes
  abbrev IsOfBytes : ℕ → List Held → Type 0
  IsOfBytes place s = (key : List ℕ) × IsPrefix place key × (s ≡ state set group key)

  -- each state of a place is one of as many bytes
  states_of_bytes : (place : ℕ) → AllByRecursion (IsOfBytes place) (states_at set group place)
  unfolding states_at
  states_of_bytes place =
      All-found_in same_state is_live (IsOfBytes place) (map (state set group) (prefixes place))
      (all-map (λ s. is_live s ≡ true → IsOfBytes place s) (state set group) (prefixes place)
      (all_weaker (IsPrefix place) (λ key. is_live (state set group key) ≡ true → IsOfBytes place (state set group key))
      (prefixes place) (λ key is alive. (key, is, refl)) (prefixes_are place)))

  -- the number of a live state is one of those of its place
  state_there : (place : ℕ) (key : List ℕ) → IsPrefix place key → is_live (state set group key) ≡ true →
      position_or_len (same_state (state set group key)) (states_at set group place) < length
      (states_at set group place)
  unfolding states_at
  state_there place key is alive =
      slice_get_within (states_at set group place) _ (state set group key)
      (found_for_key same_state is_live (λ s. (same_state-Decides s s).1 refl) (λ s t. (same_state-Decides s t).0)
      (state set group) place key is.0 is.1 alive)

  -- a live final row is one of the group's rows
  row_there : (key : List ℕ) → IsPrefix (key_len_of set.layout) key → is_live (final_row set (state set group key))
      ≡ true →
      position_or_len (bytes_eq (final_row set (state set group key))) (rows_of set group) < length (rows_of set group)
  unfolding rows_of
  row_there key is alive =
      slice_get_within (rows_of set group) _ (final_row set (state set group key))
      (found_for_key bytes_eq is_live bytes_eq_refl bytes_eq_sound (λ k. final_row set (state set group k))
      (key_len_of set.layout) key is.0 is.1 alive)

  -- what a state reaches is the state of more bytes
  reached_bytes : (place next : ℕ) (key : List ℕ) (byte : ℕ) → place < next → next ≤ key_len_of set.layout →
      IsPrefix place key → byte < 256 →
      IsPrefix next (key ++ byte ∷ replicate (next - place - 1) 0)
      × (reached set place next (state set group key) byte
      ≡ state set group (key ++ byte ∷ replicate (next - place - 1) 0))
  unfolding reached
  reached_bytes place next key byte rises within is below =
      let more : List ℕ = byte ∷ replicate (next - place - 1) 0 in
      let small : AreBytes more = (below, zeros_small (next - place - 1)) in
      let len : length more ≡ next - place = omega (arith, length-replicate (next - place - 1) zero, rises) in (
        (all-append (λ b. b < 256) key more is.0 small, omega (arith, length-append key more, len, is.1, rises)),
        sym (state_goes_through set group key more held small (omega (arith, len, is.1, within, rises))
            ∙ ap (λ n. state_through set n (state set group key) more) is.1),
      )

  -- before the first kept place there is one state, of all rules
  some_state : 0 < length group → (place : ℕ) → place ≤ key_len_of set.layout →
      ((k : ℕ) → k < place → is_wild_place set group k ≡ true) → 0 < length (states_at set group place)
  some_state some place within wild =
      omega (
        arith,
        ap length (states_are set group held place
            ∙ ap (map (map (decoded set place))) (packed_start set group held some place within wild)),
      )

  -- ---- where runs lead

  -- the runs of the states of these places
  abbrev runs_at : List ℕ → List (List (List Run))
  runs_at places = level_runs set (states_at set group) (rows_of set group) places

  -- the runs of the first of some places are those of its states
  first_level_is : (place : ℕ) (places : List ℕ) → (runs : List Held → List Run) × (rest : List (List (List Run))) ×
      (runs_at (place ∷ places) ≡ map runs (states_at set group place) ∷ rest)
  unfolding level_runs
  first_level_is place [] = (_, _, refl)
  first_level_is place (next ∷ places) = (_, _, refl)

  -- what a whole key leads to is there
  row_is_there : (key : List ℕ) → IsPrefix (key_len_of set.layout) key → IsThere (length (rows_of set group)) []
      (row_succ (rows_of set group) (final_row set (state set group key)))
  row_is_there key is = holds_of_cond (IsThere (length (rows_of set group)) []) _ _ Dead (row_there key is) tt

  -- what the first bytes of a key lead to is there
  state_is_there : (next : ℕ) (places key : List ℕ) → IsPrefix next key →
      IsThere (length (rows_of set group)) (runs_at (next ∷ places))
      (state_succ (states_at set group next) (state set group key))
  state_is_there next places key is =
      let levels = first_level_is next places in
      holds_of_cond (IsThere (length (rows_of set group)) (runs_at (next ∷ places))) (is_live (state set group key)) _
      Dead (λ alive. subst (λ l. IsThere (length (rows_of set group)) l
      (State (position_or_len (same_state (state set group key)) (states_at set group next)))) (sym levels.2)
      (omega (arith, state_there next key is alive, length-map (states_at set group next) levels.0))) tt

  -- the runs of a level's states lead to where the states of more bytes do
  level_leads : (place next : ℕ) (levels : List (List (List Run))) (to : List Held → Succ) → place < next →
      next ≤ key_len_of set.layout →
      ((key : List ℕ) → IsPrefix next key → IsThere (length (rows_of set group)) levels (to (state set group key))) →
      All (AreRuns (length (rows_of set group)) levels)
      (map (λ before. runs_of (λ byte. to (reached set place next before byte))) (states_at set group place))
  level_leads place next levels to rises within each =
      let count : ℕ = length (rows_of set group) in
      let runs : List Held → List Run = λ before. runs_of (λ byte. to (reached set place next before byte)) in
      All-from_recursion (AreRuns count levels) (map runs (states_at set group place))
      (all-map (AreRuns count levels) runs (states_at set group place)
      (all_weaker (IsOfBytes place) (λ before. AreRuns count levels (runs before)) (states_at set group place)
      (λ before of. are_runs count levels (λ byte. to (reached set place next before byte))
      (λ byte below. (let r = reached_bytes place next of.0 byte rises within of.1 below in
      subst (λ s. IsThere count levels (to s))
      (sym (ap (λ b. reached set place next b byte) of.2 ∙ r.1)) (each _ r.0))))
      (states_of_bytes place)))

  -- each level leads into the one after it, and the last one to the rows
  levels_lead : (places : List ℕ) → Gaps set group places → AreLevels (length (rows_of set group)) (runs_at places)
  unfolding level_runs
  levels_lead [] gaps = tt
  levels_lead (place ∷ []) gap = (
    level_leads place (key_len_of set.layout) [] (λ whole. row_succ (rows_of set group) (final_row set whole))
        gap.rises gap.within row_is_there,
    tt,
  )
  levels_lead (place ∷ next ∷ places) gaps = (
    level_leads place next (runs_at (next ∷ places)) (state_succ (states_at set group next)) gaps.0.rises
        gaps.0.within (state_is_there next places),
    levels_lead (next ∷ places) gaps.1,
  )

  -- there is a first state
  first_there : 0 < length group → (places : List ℕ) → HasFirst set group places →
      0 < length (get_or (runs_at places) 0 [])
  first_there some [] first = absurd (omega (arith, first.some))
  first_there some (place ∷ places) first =
      let levels = first_level_is place places in
      omega (
        arith,
        some_state some place first.within first.before,
        ap (λ ls. length (get_or ls 0 [])) levels.2,
        length-map (states_at set group place) levels.0,
      )

  -- there are runs for each kept place
  length-runs_at : (places : List ℕ) → length (runs_at places) ≡ length places
  unfolding level_runs
  length-runs_at [] = refl
  length-runs_at (place ∷ []) = refl
  length-runs_at (place ∷ next ∷ places) = ap suc (length-runs_at (next ∷ places))

-- ---- the kept groups as bits, and the places of the kept groups

module _ (set : RuleSetView) (group : List ℕ) where
  -- a bit is set exactly where its group is kept
  bit_says : (place : ℕ) → place < key_len_of set.layout → bits.is_kept (kept_bits set group) place
      ≡ is_kept set group (group_of place)
  unfolding kept_bits
  bit_says place within =
      ap (λ b. b == 1) (bit_is (is_kept set group) (1 + group_of (key_len_of set.layout - 1)) (group_of place)
      (omega (arith, within)))
      ∙ one_says (is_kept set group (group_of place))

  -- the kept places of the word are those of the group
  pub places_are : bits.kept_places (key_len_of set.layout) (kept_bits set group) ≡ kept_places set group
  unfolding kept_places
  places_are =
      filter_on_range (bits.is_kept (kept_bits set group)) (λ place. is_kept set group (group_of place)) 0
      (key_len_of set.layout) (λ k from below. bit_says k (omega (arith, below)))

  -- the word of the kept places is one for keys of this length
  kept_word : table.is_key_len (key_len_of set.layout) ≡ true → HasFirst set group (kept_places set group) →
      table.is_kept_word (key_len_of set.layout) (kept_bits set group) ≡ true
  unfolding kept_bits
  kept_word key first =
      let kept : ℕ = kept_bits set group in
      let n : ℕ = 1 + group_of (key_len_of set.layout - 1) in
      let whole : key_len_of set.layout % 4 ≡ 1 = eqb-true _ _ (and_parts _ _ key).0 in
      let groups : table.groups_of (key_len_of set.layout) ≡ n = omega (arith, whole) in
      let some : 0 < kept = elim (cases_lt 0 kept) [
        | inl some ↦ some
        | inr none ↦
            let zero : kept ≡ 0 = omega (arith, none) in
            absurd (omega (
              arith,
              first.some,
              ap length (sym places_are ∙ ap (λ k. bits.kept_places (key_len_of set.layout) k) zero
                  ∙ filter-none (bits.is_kept 0) (range_with_len 0 (key_len_of set.layout))
                  (λ place has. ap (λ b. b == 1) (bit_at-zero (group_of place)))),
            ))
      ] in
      λ i. lt-ltb 0 kept some i
      && (ap (λ k. kept / 2 ^ k == 0) groups
      ∙ eq-eqb (kept / 2 ^ n) 0 (div-eq_of_lt (bits_small (is_kept set group) n))) i

-- a key of a lawful layout has one byte and whole groups of four
pub whole_keys : (defs : List FieldDef) → IsLayout defs → is_key_len (key_len_of defs) ≡ true
whole_keys defs lawful =
    λ i. eq-eqb (key_len_of defs % 4) 1 (omega (arith, filled_groups defs lawful)) i
    && lt-ltb (key_len_of defs) 506 (omega (arith, (short_keys defs lawful).1)) i

-- ---- the winners of rows are rules of the set

module _ (set : RuleSetView) where
  -- the winners are none or rules of the set
  abbrev AreSmall : List ℕ → Type 0
  AreSmall row = All (λ winner. winner ≤ length set.rules) row

  -- the best of those that pass a test passes it
  best_passes : (test : RuleView → Bool) (numbers : List ℕ) (w : ℕ) → best_among test set.rules numbers ≡ Some w →
      passes_at test set.rules w ≡ true
  unfolding best_among
  best_passes test numbers w is =
      find_in_filter (is_greatest_at set.rules (filter (passes_at test set.rules) numbers)) (passes_at test set.rules)
      numbers w is

  -- a winner is none, or a rule of the set
  winner_small : (category : ℕ) (numbers : List ℕ) → option_map_or (λ number. number + 1)
      (winner_of set category numbers) 0 ≤ length set.rules
  winner_small category numbers = by (winner_of set category numbers) refl
    where
      by : (found : Option ℕ) → winner_of set category numbers ≡ found →
          option_map_or (λ number. number + 1) found 0 ≤ length set.rules
      by None is = omega arith
      by (Some w) is =
          let test : RuleView → Bool = λ rule. is_in_category rule.tag category in
          omega (arith, passes_there test set.rules w (best_passes test numbers w is))

  -- so is each winner of a final row
  final_small : (whole : List Held) → AreSmall (final_row set whole)
  unfolding final_row row_of
  final_small [] = All-from_recursion (λ winner. winner ≤ length set.rules) [] tt
  final_small (h ∷ hs) =
      All-map (λ winner. winner ≤ length set.rules) _ categories (λ k d within. winner_small (get_or categories k d) _)

  -- so is each winner of the rows of a group
  rows_small : (group : List ℕ) → All AreSmall (rows_of set group)
  unfolding rows_of
  rows_small group =
      let row : List ℕ → List ℕ = λ key. final_row set (state set group key) in
      All-from_recursion AreSmall (rows_of set group)
      (All-found_in bytes_eq is_live AreSmall (map row (prefixes (key_len_of set.layout)))
      (all-map (λ r. is_live r ≡ true → AreSmall r) row (prefixes (key_len_of set.layout))
      (all_each (λ key. is_live (row key) ≡ true → AreSmall (row key)) (λ key alive. final_small (state set group key))
      (prefixes (key_len_of set.layout)))))

  -- the merged states of a group are a trie of its set
  pub trie_is : (group : List ℕ) → IsGrouped set group → is_key_len (key_len_of set.layout) ≡ true →
      IsTrie set (levels_of set group)
  unfolding levels_of
  trie_is group is key =
      let held = held_of set group is in
      let first = kept_places_first set group (short_keys set.layout is.layout).0 in
      record {
        nodes = record {
          words = refl;
          some = first_there set group held is.group.some (kept_places set group) first;
          levels_lead = levels_lead set group held (kept_places set group) first.gaps;
        };
        winners = rows_small group;
        kept = kept_word set group key first;
        depth = ap length (places_are set group) ∙ sym (length-runs_at set group held (kept_places set group));
      }

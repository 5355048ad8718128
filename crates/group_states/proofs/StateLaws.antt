-- The laws of states.
use Rattle.std.proofs.Common.{◌≡◌, ℕ, ◌+◌, ◌<◌, List, [], ◌∷◌, ◌++◌, length, map, take, drop, get_or, Bool, true}
use Rattle.std.proofs.Common.{false, cond, replicate, ◌-◌, ◌&&◌, Some, None, refl, sym, ◌∙◌, ap, subst, arith, length-append}
use Rattle.std.specs.List.{AllByRecursion, flat_map}
use Rattle.std.specs.Str.{bytes_eq}
use Rattle.std.proofs.lemmas.Bool.{cond-false, le-ltb}
use Rattle.std.proofs.lemmas.List.{length-drop, drop_more}
use Rattle.std.proofs.lemmas.List.Folds.{flat_map-map}
use Rattle.std.proofs.lemmas.List.Elements.{All-from_recursion}
use Rattle.std.proofs.lemmas.List.Sums.{sum_by-cons}
use Rattle.byte_numbers.specs.Number.{number_of}
use Rattle.field_defs.specs.declared.field.FieldDef.{FieldDef}
use Rattle.field_defs.specs.FieldMatch.{field_match}
use Rattle.field_defs.specs.Layout.{key_len_of}
use Rattle.field_defs.proofs.Offered.{short_keys}
use Rattle.rule_set.specs.Rule.{RuleSetView}
use Rattle.rule_set.specs.Winner.{rule_match}
use Rattle.node_expand.specs.Rest.{Live}
use Rattle.group_states.proofs.Finds.{found_in-map}
use Rattle.group_states.proofs.Gaps.{Gaps, idle_is_wild, kept_places_first}
use Rattle.group_states.proofs.LevelRuns.{group_held, gaps_after}
use Rattle.group_states.proofs.PackedState.{IsHeld, IsEntryAt, packed_state, packed_state_wild, decoded, state_is}
use Rattle.group_states.proofs.PackedState.{compared_alike, alive_alike}
use Rattle.list_lemmas.proofs.Each.{all_weaker, all-map, all-flat_map, map_same, flat_map_same, map-map, map-flat_map}
use Rattle.group_states.proofs.Prefixes.{IsPrefix}
use Rattle.group_states.proofs.Prefixes.{bytes_below}
use Rattle.group_states.proofs.Reached.{IsGap, packed_at, packed_next, states_are, all_packed, reached_is, entries_next}
use Rattle.group_states.proofs.RestSteps.{state_goes_on}
use Rattle.group_states.specs.Entry.{column_at, entries_step}
use Rattle.group_states.specs.Found.{found_in, all_bytes}
use Rattle.group_states.specs.Kept.{is_wild_place, kept_places}
use Rattle.group_states.specs.Laws.{IsGrouped, WholeKeysAreLiveWhereTheyMatch, StatesGoByteByByte, NextStatesAreReached}
use Rattle.group_states.specs.Laws.{IdleBytesLeadToOneState, StatesOfEachPlaceLeadOn}
use Rattle.group_states.specs.Levels.{states_at, reached}
use Rattle.group_states.specs.Lists.{level_found, successor}
use Rattle.group_states.specs.RuleRest.{values_rest}
use Rattle.group_states.specs.State.{Held, state, state_step, state_through, same_state, is_live}

-- after a whole key a rule's rest is live exactly if the rule matches the key
pub whole_keys_are_live_where_they_match : WholeKeysAreLiveWhereTheyMatch
whole_keys_are_live_where_they_match [] [] key long = refl
whole_keys_are_live_where_they_match [] (v ∷ vs) key long = refl
whole_keys_are_live_where_they_match (d ∷ ds) [] key long = refl
whole_keys_are_live_where_they_match (def ∷ defs) (value ∷ values) key long =
    let whole = sum_by-cons (λ (d : FieldDef). d.size) def defs in
    let rest : length (drop def.size key) ≡ key_len_of defs = omega (arith, length-drop def.size key, long, whole) in
    cond-false _ _ _ (le-ltb (length key) def.size (omega (arith, long, whole)))
    ∙ by (field_match value def.size (number_of (take def.size key))) (rule_match defs values (drop def.size key))
    (whole_keys_are_live_where_they_match defs values (drop def.size key) rest)
  where
    by : (a b : Bool) → values_rest defs values (drop def.size key) ≡ cond b (Some Live) None
        → cond a (values_rest defs values (drop def.size key)) None ≡ cond (a && b) (Some Live) None
    by true b is = is
    by false b is = refl

-- each rule of a group is in the set and has lawful values
pub held_of : (set : RuleSetView) (group : List ℕ) → IsGrouped set group → AllByRecursion (IsHeld set) group
held_of set group is = group_held set group is.rules is.layout is.group.within

-- the state after one more byte is the step of the state by the byte
pub states_go_byte_by_byte : StatesGoByteByByte
states_go_byte_by_byte set group key byte is within below =
    state_goes_on set group key byte (held_of set group is) within below

module _ (set : RuleSetView) (group : List ℕ) (held : AllByRecursion (IsHeld set) group) (place next : ℕ)
    (gap : IsGap set group place next) where
  -- the states of the next place by those of the place
  states_next : states_at set group next
      ≡ found_in same_state is_live
      (flat_map (λ before. map (reached set place next before) all_bytes) (states_at set group place))
  unfolding level_found successor
  states_next =
      let column = column_at set place in
      let packed : List (List ℕ) = packed_at set group place in
      let after : List ℕ → List (List ℕ) = λ entries. map (entries_step column entries) all_bytes in
      let known : AllByRecursion (λ entries. AllByRecursion (AllByRecursion (IsEntryAt set next)) (after entries))
      packed =
      all_packed set group place (λ entries. AllByRecursion (AllByRecursion (IsEntryAt set next)) (after entries))
      (λ key is. all-map (AllByRecursion (IsEntryAt set next)) (entries_step column (packed_state set group key))
      all_bytes
      (all_weaker (λ byte. byte < 256)
      (λ byte. AllByRecursion (IsEntryAt set next) (entries_step column (packed_state set group key) byte))
      all_bytes
      (λ byte below. entries_next set group held place next gap key byte is below) bytes_below)) in
      let to : List ℕ → List Held = map (decoded set next) in
      let from : List ℕ → List Held = map (decoded set place) in
      states_are set group held next
      ∙ ap (map to) (sym (packed_next set group held place next gap))
      ∙ sym (found_in-map bytes_eq is_live same_state is_live to (AllByRecursion (IsEntryAt set next))
      (compared_alike set next) (λ xs _. alive_alike (decoded set next) xs)
      (flat_map after packed) (all-flat_map (AllByRecursion (IsEntryAt set next)) after packed known))
      ∙ ap (found_in same_state is_live)
      (map-flat_map to after packed
      ∙ flat_map_same (λ entries. map to (after entries))
      (λ entries. map (reached set place next (from entries)) all_bytes) packed
      (all_packed set group place
      (λ entries. map to (after entries) ≡ map (reached set place next (from entries)) all_bytes)
      (λ key is. map-map to (entries_step column (packed_state set group key)) all_bytes
      ∙ map_same (λ byte. to (entries_step column (packed_state set group key) byte))
      (reached set place next (from (packed_state set group key))) all_bytes
      (all_weaker (λ byte. byte < 256) _ all_bytes
      (λ byte below. sym (reached_is set group held place next gap key byte is below)) bytes_below)))
      ∙ sym (flat_map-map (λ before. map (reached set place next before) all_bytes) from packed)
      ∙ ap (flat_map (λ before. map (reached set place next before) all_bytes)) (sym (states_are set group held place)))

-- the states of the next kept place are those that a kept place's states reach
pub next_states_are_reached : NextStatesAreReached
next_states_are_reached set group k is below =
    let held = held_of set group is in
    let places : List ℕ = kept_places set group in
    let first = kept_places_first set group (short_keys set.layout is.layout).0 in
    let rest : drop k places ≡ get_or places k 0 ∷ get_or places (k + 1) 0 ∷ drop (k + 1 + 1) places =
    drop_more places k 0 (omega arith) ∙ ap (λ ps. get_or places k 0 ∷ ps) (drop_more places (k + 1) 0 below) in
    let gaps = subst (Gaps set group) rest
    (gaps_after set group held is.group.some (short_keys set.layout is.layout).0 places k first.gaps) in
    states_next set group held (get_or places k 0) (get_or places (k + 1) 0) gaps.0

-- between a place and the next there is none
pub states_of_each_place_lead_on : StatesOfEachPlaceLeadOn
unfolding reached state_through
states_of_each_place_lead_on set group place is within =
    let gap : IsGap set group place (place + 1) = record {
      rises = omega arith;
      within = omega (arith, within);
      wild = λ between above below. absurd (omega (arith, above, below));
    } in
    let none : place + 1 - place - 1 ≡ 0 = omega arith in
    states_next set group (held_of set group is) place (place + 1) gap
    ∙ ap (λ count. found_in same_state is_live
    (flat_map (λ before. map (λ byte. state_through set place before (byte ∷ replicate count 0)) all_bytes)
    (states_at set group place))) none

-- inside an idle group every byte leads a state to one next state
pub idle_bytes_lead_to_one_state : IdleBytesLeadToOneState
idle_bytes_lead_to_one_state set group place one other is within idle one_below other_below =
    let held = held_of set group is in
    let wild = idle_is_wild set group place within idle in
    let P : List Held → Type 0 = λ before. state_step set place before one ≡ state_step set place before other in
    All-from_recursion P (states_at set group place)
    (subst (AllByRecursion P) (sym (states_are set group held place))
    (all-map P (map (decoded set place)) (packed_at set group place)
    (all_packed set group place (λ entries. P (map (decoded set place) entries))
    (λ key key_is. step_to key key_is one one_below ∙ sym (step_to key key_is other other_below)))))
  where
    step_to : (key : List ℕ) → IsPrefix place key → (byte : ℕ) → byte < 256 →
        state_step set place (map (decoded set place) (packed_state set group key)) byte
        ≡ map (decoded set (place + 1)) (packed_state set group key)
    step_to key key_is byte below =
        let held = held_of set group is in
        let wild = idle_is_wild set group place within idle in
        let start : map (decoded set place) (packed_state set group key) ≡ state set group key =
        sym (state_is set group key held ∙ ap (λ n. map (decoded set n) (packed_state set group key)) key_is.1) in
        let long : length (key ++ byte ∷ []) ≡ place + 1 = length-append key (byte ∷ []) ∙ ap (λ n. n + 1) key_is.1 in
        (λ i. state_step set (sym key_is.1 i) (start i) byte)
        ∙ sym (state_goes_on set group key byte held (omega (arith, key_is.1)) below)
        ∙ state_is set group (key ++ byte ∷ []) held
        ∙ (λ i. map (decoded set (long i))
        (packed_state_wild set group key byte held key_is.0 below (omega (arith, key_is.1))
        (ap (is_wild_place set group) key_is.1 ∙ wild) i))

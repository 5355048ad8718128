-- Laws of states, rows and runs, over the definitions alone.
use Rattle.std.specs.Prelude.{◌≡◌, ℕ, ◌+◌, ◌<◌, List, [], ◌∷◌, ◌++◌, length, map, All, true, Some}
use Rattle.std.specs.Prelude.{None, slice_index_or, if◌then◌else◌}
use Rattle.std.specs.List.{flat_map}
use Rattle.field_defs.specs.declared.field.FieldDef.{FieldDef}
use Rattle.field_defs.specs.declared.field.FieldValue.{FieldValue}
use Rattle.field_defs.specs.Layout.{key_len_of}
use Rattle.field_defs.specs.Lawful.{IsLayout}
use Rattle.rule_set.specs.Rule.{RuleSetView}
use Rattle.rule_set.specs.RuleSet.{IsRuleSet}
use Rattle.rule_set.specs.Winner.{rule_match}
use Rattle.node_expand.specs.Rest.{Live}
use Rattle.group_states.specs.Follow.{followed, matching, IsAnswer}
use Rattle.group_states.specs.Found.{found_in, all_bytes}
use Rattle.table_sizes.specs.Groups.{group_of}
use Rattle.group_states.specs.Kept.{is_idle, kept_places}
use Rattle.group_states.specs.Levels.{states_at, reached, levels_of, IsGroup}
use Rattle.group_states.specs.RuleRest.{values_rest}
use Rattle.group_states.specs.State.{state, state_step, same_state, is_live}

-- A list of bytes.
abbrev pub AreBytes : List ℕ → Type 0
AreBytes bytes = All (λ byte. byte < 256) bytes

-- After a whole key a rule's rest is live exactly where the rule matches the key, and else there is
-- none.
abbrev pub WholeKeysAreLiveWhereTheyMatch : Type 0
WholeKeysAreLiveWhereTheyMatch =
    (layout : List FieldDef) (values : List FieldValue) (key : List ℕ)
    → length key ≡ key_len_of layout →
    values_rest layout values key ≡ (if rule_match layout values key then Some Live else None)

-- A lawful rule set, and a group of its rules.
pub record IsGrouped (set : RuleSetView) (numbers : List ℕ) : Type 0 where
  pub rules : IsRuleSet set
  pub layout : IsLayout set.layout
  pub group : IsGroup set numbers

-- The state after one more byte of a key is the step of the state by the byte.
abbrev pub StatesGoByteByByte : Type 0
StatesGoByteByByte =
    (set : RuleSetView) (group key : List ℕ) (byte : ℕ) → IsGrouped set group
    → length key < key_len_of set.layout → byte < 256 →
    state set group (key ++ byte ∷ []) ≡ state_step set (length key) (state set group key) byte

-- The states of the next kept place are what the states of a kept place reach, state by state and
-- byte by byte, without dead ones and later repeats.
abbrev pub NextStatesAreReached : Type 0
NextStatesAreReached =
    (set : RuleSetView) (group : List ℕ) (k : ℕ) → IsGrouped set group
    → k + 1 < length (kept_places set group) →
    (let place = slice_index_or (kept_places set group) k 0 in
    let next = slice_index_or (kept_places set group) (k + 1) 0 in
    states_at set group next ≡ found_in same_state is_live
    (flat_map (λ before. map (reached set place next before) all_bytes)
    (states_at set group place)))

-- At every place, also at one that isn't kept, the states of the next place are what the steps of
-- the states find, state by state and byte by byte, without dead ones and later repeats.
abbrev pub StatesOfEachPlaceLeadOn : Type 0
StatesOfEachPlaceLeadOn =
    (set : RuleSetView) (group : List ℕ) (place : ℕ) → IsGrouped set group
    → place < key_len_of set.layout →
    states_at set group (place + 1) ≡ found_in same_state is_live
    (flat_map (λ before. map (state_step set place before) all_bytes) (states_at set group place))

-- Inside an idle input group of a key every byte leads a state to one and the same next state.
abbrev pub IdleBytesLeadToOneState : Type 0
IdleBytesLeadToOneState =
    (set : RuleSetView) (group : List ℕ) (place one other : ℕ) → IsGrouped set group
    → place < key_len_of set.layout →
    is_idle set group (group_of place) ≡ true → one < 256 → other < 256 →
    All (λ before. state_step set place before one ≡ state_step set place before other)
    (states_at set group place)

-- For every key the runs lead to the row of the group's rules that match it, or to nothing where
-- none does.
abbrev pub RunsLeadToTheRowOfTheMatchingRules : Type 0
RunsLeadToTheRowOfTheMatchingRules =
    (set : RuleSetView) (group key : List ℕ) → IsGrouped set group → AreBytes key
    → length key ≡ key_len_of set.layout →
    (let merged = levels_of set group in
    IsAnswer set merged.rows (matching set group key)
    (followed merged.levels (kept_places set group) key 0))

-- The merged states of a group of rules, place by place, and how many words a table of them takes
-- (DPDK's `lib/acl`,
-- `acl_gen.c`: a node of one target takes one word, of a few ranges one for each of five, and any
-- other one for each byte).
use Rattle.std.specs.Prelude.{ℕ, ◌+◌, ◌-◌, ◌*◌, ◌<◌, ◌==◌, All, List, [], ◌∷◌, length, map, filter}
use Rattle.std.specs.Prelude.{replicate, Bool, true, false, not, ◌||◌, if◌then◌else◌}
use Rattle.std.specs.List.{position_or_len, sum_by}
use Rattle.std.specs.List.Sorted.{IsStrictlyIncreasing}
use Rattle.std.specs.Str.{bytes_eq}
use Rattle.field_defs.specs.Layout.{key_len_of}
use Rattle.rule_set.specs.Rule.{RuleSetView}
use Rattle.table_sizes.specs.Sizes.{cost_of, row_len}
use Rattle.group_states.specs.Found.{found_in, all_bytes, prefixes}
use Rattle.group_states.specs.Kept.{kept_places, kept_bits}
use Rattle.group_states.specs.Row.{final_row, rows_of}
use Rattle.group_states.specs.State.{Held, state, state_through, is_live, same_state}
use Rattle.group_states.specs.declared.run.Run.{Run}
use Rattle.group_states.specs.declared.run.Succ.{Succ}
use Rattle.group_states.specs.declared.run.Succ.TheVariants.{Dead, State, Row}

-- the states after so many bytes: live, distinct, in the order of their least prefixes
unfoldable pub states_at : RuleSetView → List ℕ → ℕ → List (List Held)
states_at set group place = found_in same_state is_live (map (state set group) (prefixes place))

-- A group of rules: places of rules of the set, ascending, and at least one.
pub record IsGroup (set : RuleSetView) (group : List ℕ) : Type 0 where
  pub some : 0 < length group
  pub ascending : IsStrictlyIncreasing group
  pub within : All (λ number. number < length set.rules) group

-- what a state before a place reaches by a byte there, and then bytes 0 at all places before the
-- next kept one
unfoldable pub reached : RuleSetView → ℕ → ℕ → List Held → ℕ → List Held
reached set place next before byte =
    state_through set place before (byte ∷ replicate (next - place - 1) 0)

-- the successor: the number of the state among those of the next kept place
abbrev pub state_succ : List (List Held) → List Held → Succ
state_succ states after =
    if is_live after then State (position_or_len (same_state after) states) else Dead

-- the successor at the last place: the number of the row among the rows
abbrev pub row_succ : List (List ℕ) → List ℕ → Succ
row_succ rows row = if is_live row then Row (position_or_len (bytes_eq row) rows) else Dead

-- two successors are one
abbrev pub same_succ : Succ → Succ → Bool
same_succ Dead Dead = true
same_succ (State one) (State other) = one == other
same_succ (Row one) (Row other) = one == other
same_succ _ _ = false

-- the last value that a byte has
abbrev pub last_byte : ℕ
last_byte = 255

-- a run ends with the byte: the next byte has another successor, or there is none
abbrev pub is_end : (ℕ → Succ) → ℕ → Bool
is_end succ byte = byte == last_byte || not (same_succ (succ byte) (succ (byte + 1)))

-- the maximal runs of bytes with one successor: in order
unfoldable pub runs_of : (ℕ → Succ) → List Run
runs_of succ = map (λ byte. record { last = byte; to = succ byte }) (filter (is_end succ) all_bytes)

-- the runs of each state, kept place by kept place. The states of a place and the rows are given.
unfoldable pub level_runs : RuleSetView → (ℕ → List (List Held)) → List (List ℕ) → List ℕ
    → List (List (List Run))
level_runs set states rows [] = []
level_runs set states rows (place ∷ []) =
    map (λ before. runs_of (λ byte. row_succ rows
    (final_row set (reached set place (key_len_of set.layout) before byte)))) (states place)
    ∷ []
level_runs set states rows (place ∷ next ∷ places) =
    map (λ before. runs_of (λ byte. state_succ (states next) (reached set place next before byte)))
    (states place)
    ∷ level_runs set states rows (next ∷ places)

-- the words of a group: the costs of all states, and the rows
abbrev pub words_of : List (List (List Run)) → List (List ℕ) → ℕ
words_of levels rows = sum_by (λ states. sum_by (λ (runs : List Run). cost_of (length runs)) states)
    levels + row_len * length rows

-- Merged states as contracts see them: the kept input groups, the group of rules, the runs of each
-- state at each kept place, the rows, and the words.
pub record LevelsView : Type 0 where
  pub kept : ℕ
  pub group : List ℕ
  pub levels : List (List (List Run))
  pub rows : List (List ℕ)
  pub words : ℕ

-- the merged states, where the states of each place and the rows are given
abbrev pub levels_by : RuleSetView → List ℕ → (ℕ → List (List Held)) → List (List ℕ) → LevelsView
levels_by set group states rows =
    let levels = level_runs set states rows (kept_places set group) in
    record {
      kept = kept_bits set group;
      group = group;
      levels = levels;
      rows = rows;
      words =
          words_of levels rows;
    }

-- the merged states of the group
unfoldable pub levels_of : RuleSetView → List ℕ → LevelsView
levels_of set group = levels_by set group (states_at set group) (rows_of set group)

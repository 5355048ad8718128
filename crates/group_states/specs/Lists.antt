-- The lists of entries and the rows that the bytes of a place lead to.
use Rattle.std.specs.Prelude.{ℕ, List, [], map}
use Rattle.std.specs.Prelude.{Bool}
use Rattle.std.specs.Prelude.{if◌then◌else◌}
use Rattle.std.specs.List.{position_or_len, flat_map}
use Rattle.std.specs.Str.{bytes_eq}
use Rattle.rule_set.specs.Rule.{RuleSetView}
use Rattle.group_states.specs.Entry.{ColumnView, entries_step, number_in}
use Rattle.group_states.specs.Found.{found_with, found_in, all_bytes}
use Rattle.group_states.specs.Levels.{runs_of}
use Rattle.group_states.specs.Row.{row_of}
use Rattle.group_states.specs.State.{is_live}
use Rattle.group_states.specs.declared.run.Run.{Run}
use Rattle.group_states.specs.declared.run.Succ.{Succ}
use Rattle.group_states.specs.declared.run.Succ.TheVariants.{Dead, State, Row}

-- the lists found after one more
abbrev pub lists_with : List (List ℕ) → List ℕ → List (List ℕ)
lists_with found list = found_with bytes_eq is_live found list

-- what a list is reached as, among those found: a row at the last place, and else a state
abbrev pub succ_in : Bool → List (List ℕ) → List ℕ → Succ
succ_in is_last found list =
    if is_live list then (if is_last then Row (position_or_len (bytes_eq list) found) else State
    (position_or_len (bytes_eq list) found)) else Dead

-- the row of the entries after a whole key, and none where there is no entry
unfoldable pub row_list : RuleSetView → List ℕ → List ℕ
row_list set entries = if is_live entries then row_of set (map number_in entries) else []

-- what the byte makes of the entries: their row at the last place, and else the entries after it
unfoldable pub successor : RuleSetView → ColumnView → Bool → List ℕ → ℕ → List ℕ
successor set column is_last entries byte =
    if is_last then row_list set (entries_step column entries byte) else entries_step column entries
    byte

-- the lists found from the states of a place, state by state and byte by byte
unfoldable pub level_found : RuleSetView → ColumnView → Bool → List (List ℕ) → List (List ℕ)
level_found set column is_last states =
    found_in bytes_eq is_live
    (flat_map (λ entries. map (successor set column is_last entries) all_bytes) states)

-- the runs of one state among the lists found
abbrev pub state_runs : RuleSetView → ColumnView → Bool → List (List ℕ) → List ℕ → List Run
state_runs set column is_last found entries =
    runs_of (λ byte. succ_in is_last found (successor set column is_last entries byte))

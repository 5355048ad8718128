-- The words of a state, and the least that what a place leads to takes.
use Rattle.std.specs.Prelude.{◌≡◌, ℕ, ◌+◌, ◌≤◌, ◌==◌, List, [], ◌∷◌, map, filter, length, ◌*◌}
use Rattle.std.specs.Prelude.{true, Bool, not, ◌||◌, Option, Some}
use Rattle.std.specs.Prelude.{None, if◌then◌else◌}
use Rattle.std.specs.List.{sum_by}
use Rattle.std.specs.Str.{bytes_eq}
use Rattle.rule_set.specs.Rule.{RuleSetView}
use Rattle.table_sizes.specs.Sizes.{cost_of, row_len}
use Rattle.group_states.specs.Entry.{ColumnView, entries_step, number_in}
use Rattle.group_states.specs.Found.{all_bytes}
use Rattle.group_states.specs.Levels.{last_byte}
use Rattle.group_states.specs.Lists.{level_found, state_runs}
use Rattle.group_states.specs.declared.run.Run.{Run}

-- a run of bytes with the same entries ends with the byte: the entries after the next byte are
-- others, or there is none
unfoldable pub is_change : ColumnView → List ℕ → ℕ → Bool
is_change column entries byte =
    byte == last_byte || not (bytes_eq (entries_step column entries byte)
    (entries_step column entries (byte + 1)))

-- the words of a state before the last place, which its entries tell before it is merged
unfoldable pub cost_ahead : ColumnView → List ℕ → ℕ
cost_ahead column entries = cost_of (length (filter (is_change column entries) all_bytes))

-- How many words a list that is found takes at least. Where the place after it is given, they are
-- the words of the state; else a row takes its words, and a state one or more.
abbrev pub price : Option ColumnView → Bool → List ℕ → ℕ
price (Some next) is_last list = cost_ahead next list
price None is_last list = if is_last then row_len else 1

-- the same for lists
unfoldable pub least_cost : Option ColumnView → Bool → List (List ℕ) → ℕ
least_cost next is_last lists = sum_by (price next is_last) lists

-- the words of the states
abbrev pub states_words : List (List Run) → ℕ
states_words states = sum_by (λ (runs : List Run). cost_of (length runs)) states

-- the words of some states, those before them, and the least that what they lead to takes
abbrev pub least_words : RuleSetView → ColumnView → Option ColumnView → Bool → ℕ → List (List ℕ) → ℕ
least_words set column next is_last before states =
    let found = level_found set column is_last states in
    before + states_words (map (state_runs set column is_last found) states) + least_cost next
    is_last found

-- The places of the entries' rules rise, the first of them from a place on.
abbrev pub RisesFrom : ℕ → List ℕ → Type 0
RisesFrom least [] = Unit {0}
RisesFrom least (entry ∷ entries) =
    (least ≤ number_in entry) × RisesFrom (number_in entry + 1) entries

-- The runs and the words are those of the states, and they are within the cap: at the last place
-- with the words of the rows.
pub record IsMergedWithin (set : RuleSetView) (column : ColumnView) (is_last : Bool)
    (cap before : ℕ) (states : List (List ℕ)) (runs : List (List Run)) (words : ℕ) : Type 0 where
  pub its_runs : runs
      ≡ map (state_runs set column is_last (level_found set column is_last states)) states
  pub sum : words ≡ before + states_words runs
  pub within : words ≤ cap
  pub whole : is_last ≡ true →
      words + row_len * length (level_found set column is_last states) ≤ cap

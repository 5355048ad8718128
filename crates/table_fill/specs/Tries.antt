-- What filling uses of the merged states of a group: that there is a first state, that each state's
-- runs hold all bytes, and that each run leads to a state or a row that is there.
use Rattle.std.specs.Prelude.{◌≡◌, ◌==◌, ℕ, ◌+◌, ◌-◌, ◌*◌, ◌<◌, ◌≤◌, true, ⊤, List}
use Rattle.std.specs.Prelude.{[], ◌∷◌, All, length, map, sum_by, slice_index, slice_index_or}
use Rattle.std.specs.Prelude.{if◌then◌else◌}
use Rattle.field_defs.specs.Layout.{key_len_of}
use Rattle.rule_set.specs.Rule.{RuleSetView}
use Rattle.rule_set.specs.Groups.{IsPartition}
use Rattle.group_states.specs.declared.run.Run.{Run}
use Rattle.group_states.specs.declared.run.Succ.{Succ}
use Rattle.group_states.specs.declared.run.Succ.TheVariants.{Dead, State, Row}
use Rattle.group_states.specs.Levels.{LevelsView, levels_of, last_byte}
use Rattle.flat_table.specs.Groups.{is_kept_word, depth_of}
use Rattle.table_sizes.specs.Sizes.{max_tries, max_words, row_len}
use Rattle.table_fill.specs.Filled.{nodes_len}

-- Runs that hold the bytes from the first one to the last.
abbrev pub HoldBytes : ℕ → List Run → Type 0
HoldBytes first [] = ⊥
HoldBytes first (run ∷ []) = (first ≤ run.last) × (run.last ≡ last_byte)
HoldBytes first (run ∷ next ∷ runs) =
    (first ≤ run.last) × (run.last < last_byte) × HoldBytes (run.last + 1) (next ∷ runs)

-- A successor that is there: a state of the next level, or after the last level one of so many
-- rows.
abbrev pub IsThere : ℕ → List (List (List Run)) → Succ → Type 0
IsThere rows levels Dead = ⊤
IsThere rows [] (State number) = ⊥
IsThere rows [] (Row number) = number < rows
IsThere rows (states ∷ levels) (State number) = number < length states
IsThere rows (states ∷ levels) (Row number) = ⊥

-- The runs of a state that lead into the levels after it.
pub record AreRuns (rows : ℕ) (levels : List (List (List Run))) (runs : List Run) : Type 0 where
  pub bytes : HoldBytes 0 runs
  pub there : All (λ (run : Run). IsThere rows levels run.to) runs

-- Each level's states lead into the levels after it.
abbrev pub AreLevels : ℕ → List (List (List Run)) → Type 0
AreLevels rows [] = ⊤
AreLevels rows (states ∷ levels) = All (AreRuns rows levels) states × AreLevels rows levels

-- The nodes of a trie: they have so many words, there is a first one, and each leads on.
pub record HasNodes (trie : LevelsView) : Type 0 where
  pub words : trie.words ≡ nodes_len trie + row_len * length trie.rows
  pub some : 0 < length (slice_index_or trie.levels 0 [])
  pub levels_lead : AreLevels (length trie.rows) trie.levels

-- The winners of a trie's rows are none, which is 0, or one of so many rules, whose number is 1
-- less.
abbrev pub HasWinners : ℕ → LevelsView → Type 0
HasWinners rules trie = All (λ row. All (λ winner. winner ≤ rules) row) trie.rows

-- A trie of the rules of a set: its walks read a byte for each of its levels.
pub record IsTrie (set : RuleSetView) (trie : LevelsView) : Type 0 where
  pub nodes : HasNodes trie
  pub winners : HasWinners (length set.rules) trie
  pub kept : is_kept_word (key_len_of set.layout) trie.kept ≡ true
  pub depth : depth_of (key_len_of set.layout) trie.kept ≡ length trie.levels

-- There is a word for the successor, of so many words for states or rows.
abbrev pub HasTarget : ℕ → Succ → Type 0
HasTarget count Dead = ⊤
HasTarget count (State number) = number < count
HasTarget count (Row number) = number < count

-- Runs that hold all bytes, with a word for each successor.
pub record HasTargets (count : ℕ) (runs : List Run) : Type 0 where
  pub bytes : HoldBytes 0 runs
  pub targets : All (λ (run : Run). HasTarget count run.to) runs

-- how many rows a trie has
abbrev pub row_count : LevelsView → ℕ
row_count trie = length trie.rows

-- Tries that have room in a table: each of them, and the nodes and the rows of all.
pub record HaveRoom (tries : List LevelsView) : Type 0 where
  pub nodes : All HasNodes tries
  pub each : All (λ (trie : LevelsView). trie.words ≤ max_words) tries
  pub size : sum_by nodes_len tries + row_len * sum_by row_count tries ≤ max_words

-- the groups of rules that the tries are of
abbrev pub groups_of_tries : List LevelsView → List (List ℕ)
groups_of_tries tries = map (λ (trie : LevelsView). trie.group) tries

-- The tries of the groups of a rule set, which hold each rule once, and whose table isn't too
-- large.
pub record AreOfGroups (set : RuleSetView) (tries : List LevelsView) : Type 0 where
  pub few : length tries ≤ max_tries
  pub groups : IsPartition (length set.rules) (groups_of_tries tries)
  pub levels : All (λ (trie : LevelsView). trie ≡ levels_of set trie.group) tries
  pub size : row_len + sum_by (λ (trie : LevelsView). trie.words) tries ≤ max_words

-- the word for a category of a row, where the words for the rules are given, and the winner's
-- number plus 1, or 0 for none
abbrev pub winner_in : List ℕ → ℕ → ℕ
winner_in words winner = if winner == 0 then 0 else slice_index words (winner - 1)

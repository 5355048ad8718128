-- The table that the rules of a set are made into, word by word (DPDK's `lib/acl`, `acl_gen.c`,
-- lays out the nodes of its tries in the same way). Each group of rules makes a trie, each state of
-- the trie a node, and a word leads to a node. The words of a node are in the order of its runs:
-- one for a single run, five for up to five runs, and otherwise one for each byte.
use Rattle.std.specs.Prelude.{ℕ, ◌+◌, ◌-◌, ◌*◌, ◌==◌, nat_le, List, [], ◌∷◌, ◌++◌, length, map}
use Rattle.std.specs.Prelude.{take, flat_map, replicate, slice_index_or, sum_by, Some}
use Rattle.std.specs.Prelude.{if◌then◌else◌}
use Rattle.std.specs.List.{range_with_len}
use Rattle.field_defs.specs.Layout.{key_len_of}
use Rattle.rule_set.specs.Rule.{RuleView, RuleSetView}
use Rattle.rule_set.specs.Rank.{rank_of}
use Rattle.rule_set.specs.Winner.{userdata_at}
use Rattle.group_states.specs.declared.run.Run.{Run}
use Rattle.group_states.specs.declared.run.Succ.{Succ}
use Rattle.group_states.specs.declared.run.Succ.TheVariants.{Dead, State, Row}
use Rattle.group_states.specs.Found.{all_bytes}
use Rattle.group_states.specs.Follow.{run_to}
use Rattle.table_sizes.specs.Sizes.{cost_of, few_runs, row_len}
use Rattle.group_states.specs.Levels.{LevelsView, levels_of, last_byte}
use Rattle.flat_table.specs.Word.{indexes, below_boundaries, full, single, quad, matching}
use Rattle.flat_table.specs.Walk.{userdatas}
use Rattle.flat_table.specs.Table.{TableView}

-- the word of these boundaries, this kind and this index
abbrev pub word_of : ℕ → ℕ → ℕ → ℕ
word_of boundaries kind index = boundaries * below_boundaries + kind * indexes + index

-- the word that ends a walk with the row
abbrev pub match_of : ℕ → ℕ
match_of row = word_of 0 matching row

-- the last bytes of all runs but the last one
abbrev pub inner_lasts : List Run → List ℕ
inner_lasts [] = []
inner_lasts (run ∷ []) = []
inner_lasts (run ∷ next ∷ runs) = run.last ∷ inner_lasts (next ∷ runs)

-- how many boundaries a word has
abbrev pub boundary_count : ℕ
boundary_count = 4

-- the boundaries of a node of a few runs: where each run but the last one ends, and 255 for each
-- that is unused
abbrev pub boundaries : List Run → List ℕ
boundaries runs = take boundary_count (inner_lasts runs ++ replicate boundary_count last_byte)

-- bytes as one number, of which the first byte is the lowest
abbrev pub as_number : List ℕ → ℕ
as_number [] = 0
as_number (byte ∷ bytes) = byte + 256 * as_number bytes

-- the word that leads to the node of a state with these runs, whose first word is at the place
unfoldable pub node_word : ℕ → List Run → ℕ
node_word place runs =
    if length runs == 1 then word_of 0 single place
    else (if nat_le (length runs) few_runs
    then word_of (as_number (boundaries runs)) quad place
    else word_of 0 full place)

-- the word for a successor, where the words for states or rows are given in the order of their
-- numbers: a dead successor is a match of row 0
abbrev pub succ_word : List ℕ → Succ → ℕ
succ_word targets Dead = match_of 0
succ_word targets (State number) = slice_index_or targets number 0
succ_word targets (Row number) = slice_index_or targets number 0

-- the words of a state's node: those of its runs, and matches of row 0 where they are fewer than
-- the node has words; of more than five runs one word for each byte
unfoldable pub node_words : List ℕ → List Run → List ℕ
node_words targets runs =
    if nat_le (length runs) few_runs
    then take (cost_of (length runs))
    (map (λ (run : Run). succ_word targets run.to) runs ++ replicate few_runs (match_of 0))
    else map (λ byte. succ_word targets (run_to runs byte)) all_bytes

-- how many words the nodes of these states have together
abbrev pub level_len : List (List Run) → ℕ
level_len states = sum_by (λ (runs : List Run). cost_of (length runs)) states

-- the words that lead to the nodes of these states, which lie one after the other from a place on
abbrev pub words_into : ℕ → List (List Run) → List ℕ
words_into place [] = []
words_into place (runs ∷ states) =
    node_word place runs ∷ words_into (place + cost_of (length runs)) states

-- the words for what a level leads to: the states of the next level, whose nodes begin at a place,
-- and after the last level the rows
abbrev pub targets_of : ℕ → List ℕ → List (List (List Run)) → List ℕ
targets_of place matches [] = matches
targets_of place matches (states ∷ levels) = words_into place states

-- the words of the levels, which begin at the place: level by level and node by node
abbrev pub words_of_levels : ℕ → List ℕ → List (List (List Run)) → List ℕ
words_of_levels place matches [] = []
words_of_levels place matches (states ∷ levels) =
    let after = place + level_len states in
    flat_map (node_words (targets_of after matches levels)) states
    ++ words_of_levels after matches levels

-- how many words the nodes of a trie have
abbrev pub nodes_len : LevelsView → ℕ
nodes_len trie = sum_by level_len trie.levels

-- the matches of a trie's rows, which are numbered from a first number on
abbrev pub matches_of : ℕ → LevelsView → List ℕ
matches_of row trie = map match_of (range_with_len row (length trie.rows))

-- the words of all tries: the first begins at the place, and its rows with the number
abbrev pub words_of_tries : ℕ → ℕ → List LevelsView → List ℕ
words_of_tries place row [] = []
words_of_tries place row (trie ∷ tries) =
    words_of_levels place (matches_of row trie) trie.levels
    ++ words_of_tries (place + nodes_len trie) (row + length trie.rows) tries

-- the root of a trie that begins at the place: the word that leads to its first state
abbrev pub root_at : ℕ → LevelsView → ℕ
root_at place trie = node_word place (slice_index_or (slice_index_or trie.levels 0 []) 0 [])

-- the roots of all tries
abbrev pub roots_of : ℕ → List LevelsView → List ℕ
roots_of place [] = []
roots_of place (trie ∷ tries) = root_at place trie ∷ roots_of (place + nodes_len trie) tries

-- the word for a rule that wins: its rank in the high half and its userdata in the low half
abbrev pub rule_word : List RuleView → ℕ → ℕ
rule_word rules number = rank_of rules number * userdatas + userdata_at rules (Some number)

-- the word for a category of a row, which has the winner's number plus 1, or 0 for none
abbrev pub winner_word : List RuleView → ℕ → ℕ
winner_word rules winner = if winner == 0 then 0 else rule_word rules (winner - 1)

-- the rows of all tries, in order, and in front of them the row of no rule
unfoldable pub rows_of_tries : List RuleView → List LevelsView → List (List ℕ)
rows_of_tries rules tries =
    replicate row_len 0
    ∷ flat_map (λ (trie : LevelsView). map (λ row. map (winner_word rules) row) trie.rows) tries

-- how many words each level of each trie has
abbrev pub level_lens_of : List LevelsView → List ℕ
level_lens_of tries = flat_map (λ (trie : LevelsView). map level_len trie.levels) tries

-- the table of these tries of the rules
unfoldable pub table_of_tries : RuleSetView → List LevelsView → TableView
table_of_tries set tries = record {
  key_len = key_len_of set.layout;
  rules = length set.rules;
  kept = map (λ (trie : LevelsView). trie.kept) tries;
  roots = roots_of 0 tries;
  level_lens = level_lens_of tries;
  words = words_of_tries 0 1 tries;
  rows = rows_of_tries set.rules tries;
}

-- the table of the rules, a trie for each of these groups of them
unfoldable pub filled : RuleSetView → List (List ℕ) → TableView
filled set groups = table_of_tries set (map (levels_of set) groups)

-- Examples of nodes, tries and filled tables, each checked by evaluation. The tables are those made
-- by hand beside the definition of tables.
use Rattle.std.specs.Prelude.{◌≡◌, ℕ, ◌+◌, pos, ◌%◌, ◌==◌, List, [], ◌∷◌, map, replicate, refl}
use Rattle.std.specs.Prelude.{slice_index, if◌then◌else◌}
use Rattle.std.specs.List.{range_with_len}
use Rattle.field_defs.specs.Layout.{ip4_fields}
use Rattle.rule_set.specs.Rule.{RuleView, RuleSetView}
use Rattle.group_states.specs.declared.run.Run.{Run}
use Rattle.group_states.specs.declared.run.Succ.{Succ}
use Rattle.group_states.specs.declared.run.Succ.TheVariants.{Dead, State, Row}
use Rattle.group_states.specs.Found.{all_bytes}
use Rattle.group_states.specs.Levels.{LevelsView}
use Rattle.flat_table.specs.HandmadeTables.{empty_table, wild_table, source_table, port_table}
use Rattle.flat_table.specs.HandmadeTables.{bit_table, two_tries, match_of}
use Rattle.table_fill.specs.Filled.{boundaries, node_word, node_words, table_of_tries}
use Rattle.table_fill.specs.Filled.{rows_of_tries}

-- a run up to the byte
abbrev run : ℕ → Succ → Run
run last to = record { last = last; to = to }

-- all bytes
abbrev all : Succ → List Run
all to = run 255 to ∷ []

-- runs that end at these bytes and lead to the rows from 0 on
abbrev numbered : List ℕ → List Run
numbered lasts = map (λ last. run last (Row last)) lasts

-- a boundary is where a run ends, but for the last run; the unused ones are 255
boundaries_of_two : boundaries (numbered (9 ∷ 255 ∷ [])) ≡ 9 ∷ 255 ∷ 255 ∷ 255 ∷ []
boundaries_of_two = refl

boundaries_of_five : boundaries (numbered (9 ∷ 10 ∷ 64 ∷ 200 ∷ 255 ∷ [])) ≡ 9 ∷ 10 ∷ 64 ∷ 200 ∷ []
boundaries_of_five = refl

-- one run is a single node, two to five are a quad-range node, and six a full one
words_into_nodes : map (node_word 291) (all Dead ∷ numbered (9 ∷ 255 ∷ []) ∷ numbered
    (9 ∷ 10 ∷ 64 ∷ 200 ∷ 255 ∷ []) ∷ numbered (9 ∷ 10 ∷ 64 ∷ 200 ∷ 201 ∷ 255 ∷ []) ∷ [])
    ≡ 0x20000123 ∷ 0xFFFFFF0960000123 ∷ 0xC8400A0960000123 ∷ 0x00000123 ∷ []
unfolding node_word
words_into_nodes = refl

-- what a node has: a word for each run, and where runs are few matches of row 0 after them
words_of_three_runs : node_words (77 ∷ 88 ∷ [])
    (run 9 Dead ∷ run 10 (State 1) ∷ run 255 (State 0) ∷ [])
    ≡ match_of 0 ∷ 88 ∷ 77 ∷ match_of 0 ∷ match_of 0 ∷ []
unfolding node_words
words_of_three_runs = refl

word_of_one_run : node_words (77 ∷ 88 ∷ []) (all (State 1)) ≡ 88 ∷ []
unfolding node_words
word_of_one_run = refl

-- of six runs a word for each byte
words_of_six_runs : map (slice_index (node_words (range_with_len 100 256)
    (numbered (9 ∷ 10 ∷ 64 ∷ 200 ∷ 201 ∷ 255 ∷ [])))) (0 ∷ 9 ∷ 10 ∷ 11 ∷ 200 ∷ 201 ∷ 202 ∷ 255 ∷ [])
    ≡ 109 ∷ 109 ∷ 110 ∷ 164 ∷ 300 ∷ 301 ∷ 355 ∷ 355 ∷ []
unfolding node_words all_bytes
words_of_six_runs = refl

-- a rule of this priority and userdata. Its values are ignored in filling.
abbrev rule : ℕ → ℕ → RuleView
rule priority userdata =
    record {
      tag = record { category_mask = 65535; priority = pos priority; userdata = userdata };
      fields = [];
    }

-- rules over the layout of IPv4 packets
abbrev set_of : List RuleView → RuleSetView
set_of rules = record { layout = ip4_fields; rules = rules }

-- the trie of one rule, with these kept groups and levels: the rule wins in each category
abbrev trie_of : ℕ → ℕ → List (List (List Run)) → LevelsView
trie_of kept rule levels =
    record {
      kept = kept;
      group = rule ∷ [];
      levels = levels;
      rows = replicate 16 (rule + 1) ∷ [];
      words = 0;
    }

no_rules : table_of_tries (set_of []) [] ≡ empty_table
unfolding table_of_tries rows_of_tries
no_rules = refl

-- a rule that every key matches
wild_trie : LevelsView
wild_trie = trie_of 1 0 ((all (Row 0) ∷ []) ∷ [])

wild_filled : table_of_tries (set_of (rule 9 1 ∷ [])) (wild_trie ∷ []) ≡ wild_table
unfolding table_of_tries rows_of_tries node_word node_words wild_trie
wild_filled = refl

-- a rule on the source address 10.0.0.0/8
abbrev source_levels : List (List (List Run))
source_levels = ((run 9 Dead ∷ run 10 (State 0) ∷ run 255 Dead ∷ []) ∷ []) ∷ (all (State 0) ∷ [])
    ∷ (all (State 0) ∷ []) ∷ (all (Row 0) ∷ []) ∷ []

source_filled : table_of_tries (set_of (rule 9 1 ∷ [])) (trie_of 2 0 source_levels ∷ [])
    ≡ source_table
unfolding table_of_tries rows_of_tries node_word node_words
source_filled = refl

-- a rule on the destination ports from 1024 on
abbrev port_levels : List (List (List Run))
port_levels = (all (State 0) ∷ []) ∷ (all (State 0) ∷ []) ∷ ((run 3 Dead ∷ run 255 (State 0) ∷ [])
    ∷ []) ∷ (all (Row 0) ∷ []) ∷ []

port_filled : table_of_tries (set_of (rule 9 1 ∷ [])) (trie_of 8 0 port_levels ∷ []) ≡ port_table
unfolding table_of_tries rows_of_tries node_word node_words
port_filled = refl

-- a rule on the lowest bit of the protocol: 256 runs
abbrev bit_levels : List (List (List Run))
bit_levels = (map (λ byte. run byte (if byte % 2 == 0 then Dead else Row 0)) (range_with_len 0 256)
    ∷ []) ∷ []

bit_filled : table_of_tries (set_of (rule 9 1 ∷ [])) (trie_of 1 0 bit_levels ∷ []) ≡ bit_table
unfolding table_of_tries rows_of_tries node_word node_words all_bytes
bit_filled = refl

-- two tries: the second one's nodes and rows are numbered after those of the first
tries_filled : table_of_tries (set_of (rule 1 5 ∷ rule 2 0 ∷ []))
    (wild_trie ∷ trie_of 2 1 source_levels ∷ []) ≡ two_tries
unfolding table_of_tries rows_of_tries node_word node_words wild_trie
tries_filled = refl

-- Tables made by hand, for the examples.
use Rattle.std.specs.Prelude.{ℕ, ◌+◌, List, [], ◌∷◌, replicate}
use Rattle.std.specs.List.{concat}
use Rattle.flat_table.specs.Table.{TableView}

-- a match of the row
abbrev pub match_of : ℕ → ℕ
match_of row = 0x80000000 + row

-- a single node at the place
abbrev pub single_at : ℕ → ℕ
single_at place = 0x20000000 + place

-- a row of one word for all categories
abbrev pub row_of : ℕ → List ℕ
row_of word = replicate 16 word

-- the row of no rule, and that of the rule of rank 1 and userdata 1
abbrev pub two_rows : List (List ℕ)
two_rows = row_of 0 ∷ row_of 0x100000001 ∷ []

-- a table of keys of 13 bytes, one rule and one trie
abbrev pub table_of : ℕ → ℕ → List ℕ → List ℕ → TableView
table_of kept root level_lens words =
    record {
      key_len = 13;
      rules = 1;
      kept = kept ∷ [];
      roots = root ∷ [];
      level_lens =
          level_lens;
      words = words;
      rows = two_rows;
    }

-- no tries
abbrev pub empty_table : TableView
empty_table = record {
  key_len = 13;
  rules = 0;
  kept = [];
  roots = [];
  level_lens = [];
  words =
      [];
  rows = row_of 0 ∷ [];
}

-- of a rule that every key matches: one node, at the first byte
abbrev pub wild_table : TableView
wild_table = table_of 1 (single_at 0) (1 ∷ []) (match_of 1 ∷ [])

-- of a rule on the source address 10.0.0.0/8: runs of bytes up to 9, of 10 alone, and from 11 on
abbrev pub source_table : TableView
source_table = table_of 2 0xFFFF0A09_60000000 (5 ∷ 1 ∷ 1 ∷ 1 ∷ [])
    (match_of 0 ∷ single_at 5 ∷ match_of 0 ∷ match_of 0 ∷ match_of 0 ∷ single_at 6 ∷ single_at 7 ∷
    match_of 1 ∷ [])

-- of a rule on the destination ports from 1024 on: runs of high bytes up to 3, and from 4 on
abbrev pub port_table : TableView
port_table = table_of 8 (single_at 0) (1 ∷ 1 ∷ 5 ∷ 1 ∷ [])
    (single_at 1 ∷ 0xFFFFFF03_60000002 ∷ match_of 0 ∷ single_at 7 ∷ match_of 0 ∷ match_of 0 ∷
    match_of 0 ∷ match_of 1 ∷ [])

-- of a rule on the lowest bit of the protocol: a full node
abbrev pub bit_table : TableView
bit_table = table_of 1 0 (256 ∷ []) (concat (replicate 128 (match_of 0 ∷ match_of 1 ∷ [])))

-- the tries of two tables of keys of 13 bytes, of which the first has one rule and its words
abbrev pub two_tries : TableView
two_tries = record {
  key_len = 13;
  rules = 2;
  kept = 1 ∷ 2 ∷ [];
  roots = single_at 0 ∷ 0xFFFF0A09_60000001 ∷ [];
  level_lens = 1 ∷ 5 ∷ 1 ∷ 1 ∷ 1 ∷ [];
  words = match_of 1 ∷ match_of 0 ∷ single_at 6 ∷ match_of 0 ∷ match_of 0 ∷ match_of 0 ∷ single_at 7
      ∷ single_at 8 ∷ match_of 2 ∷ [];
  rows = row_of 0 ∷ row_of 0x100000005 ∷ row_of 0x200000000 ∷ [];
}

-- How a pair of tables is spelled by bytes. All numbers are in network order (RFC 791, appendix B).
--
--     magic `ACLT`: 4                       for each table, IPv4 and then IPv6:
--     version: 4                                family, 4 or 6: 4
--     the two tables                            rules: 4
--                                               tries: 4
--     for each trie:                            rows, row 0 not counted: 4
--         kept groups, in version 2: 4          the tries
--         level lengths: 4 each                 the words: 8 each
--         root: 8                               the rows from row 1 on: 16 words of 8 each
use Rattle.std.specs.Prelude.{◌≡◌, ℕ, ◌-◌, ◌/◌, ◌^◌, ◌==◌, ◌≤◌, nat_lt, nat_le, List, [], ◌∷◌, ◌++◌, take, drop, length, flat_map}
use Rattle.std.specs.Prelude.{Bool, ◌&&◌, ◌||◌, None, true}
use Rattle.std.specs.List.{list_all}
use Rattle.std.specs.Int.{bytes_high_first}
use Rattle.flat_table.specs.Groups.{groups_of, depth_of}
use Rattle.flat_table.specs.Table.{TableView}
use Rattle.flat_table.specs.Sound.{sound_fault}
use Rattle.table_sizes.specs.Groups.{ip4_key_len, ip6_key_len}
use Rattle.table_sizes.specs.Sizes.{max_rules, row_len}
use Rattle.table_image.specs.declared.version.Version.{Version}
use Rattle.table_image.specs.declared.version.Version.TheVariants.{One, Two}

-- a pair of tables
pub record PairView : Type 0 where
  pub ip4 : TableView  -- of IPv4 packets
  pub ip6 : TableView  -- of IPv6 packets

-- `ACLT`
abbrev pub magic : ℕ
magic = 0x41434C54

-- how many bytes a number of 32 bits has
abbrev pub short : ℕ
short = 4

-- and one of 64 bits
abbrev pub long : ℕ
long = 8

-- the bytes of a number, the most significant first
unfoldable pub spelled : ℕ → ℕ → List ℕ
spelled size n = bytes_high_first size n

-- the bytes of some numbers, one after the other
abbrev pub all_spelled : ℕ → List ℕ → List ℕ
all_spelled size ns = flat_map (spelled size) ns

-- how a version is numbered
abbrev pub number_of_version : Version → ℕ
number_of_version One = 1
number_of_version Two = 2

-- how many bytes the kept groups of a trie have
abbrev pub kept_len : Version → ℕ
kept_len One = 0
kept_len Two = short

-- the kept groups of a trie
abbrev pub spelled_kept : Version → ℕ → List ℕ
spelled_kept One kept = []
spelled_kept Two kept = spelled short kept

-- a trie: its kept groups, a length for each of its levels, and its root
abbrev pub spelled_trie : Version → ℕ → List ℕ → ℕ → List ℕ
spelled_trie version kept lens root =
    spelled_kept version kept ++ (all_spelled short lens ++ spelled long root)

-- tries, of which each has as many of the lengths as it has levels
abbrev pub spelled_tries : Version → ℕ → List ℕ → List ℕ → List ℕ → List ℕ
spelled_tries version key_len [] roots lens = []
spelled_tries version key_len (kept ∷ others) [] lens = []
spelled_tries version key_len (kept ∷ others) (root ∷ roots) lens =
    spelled_trie version kept (take (depth_of key_len kept) lens) root
    ++ spelled_tries version key_len others roots (drop (depth_of key_len kept) lens)

-- rows, and so row 0 isn't spelled
abbrev pub spelled_rows : List (List ℕ) → List ℕ
spelled_rows rows = flat_map (all_spelled long) (drop 1 rows)

-- a table, of the family of the number
unfoldable pub spelled_table : Version → ℕ → TableView → List ℕ
spelled_table version family table =
    spelled short family
    ++ (spelled short table.rules
    ++ (spelled short (length table.roots)
    ++ (spelled short (length table.rows - 1)
    ++ (spelled_tries version table.key_len table.kept table.roots table.level_lens
    ++ (all_spelled long table.words
    ++ spelled_rows table.rows)))))

-- a pair of tables
unfoldable pub spelled_pair : Version → PairView → List ℕ
spelled_pair version pair =
    spelled short magic
    ++ (spelled short (number_of_version version)
    ++ (spelled_table version 4 pair.ip4 ++ spelled_table version 6 pair.ip6))

-- all groups of a key
abbrev pub all_groups : ℕ → ℕ
all_groups key_len = 2 ^ groups_of key_len - 1

-- the tries have what the version can spell
abbrev pub is_of_version : Version → TableView → Bool
is_of_version One table = list_all (λ kept. kept == all_groups table.key_len) table.kept
is_of_version Two table = true

-- the word of a row is 0, or has the rank of one of the rules in its high half
abbrev pub is_row_word : ℕ → ℕ → Bool
is_row_word rules word = word == 0 || (nat_le 1 (word / 2 ^ 32) && nat_le (word / 2 ^ 32) rules)

-- a table of keys of so many bytes can be saved: it has few enough rules, and rows of their ranks
pub record CanBeSaved (key_len : ℕ) (table : TableView) : Type 0 where
  pub keys : table.key_len ≡ key_len
  pub few : table.rules ≤ max_rules
  pub ranked : list_all (list_all (is_row_word table.rules)) (drop 1 table.rows) ≡ true

-- a word has 64 bits
abbrev pub is_word : ℕ → Bool
is_word word = nat_lt word (2 ^ 64)

-- a row has sixteen words
abbrev pub is_row : List ℕ → Bool
is_row row = length row == row_len && list_all is_word row

-- the words of a table have 64 bits, and its rows sixteen of them
pub record HasWords (table : TableView) : Type 0 where
  pub roots : list_all is_word table.roots ≡ true
  pub words : list_all is_word table.words ≡ true
  pub rows : list_all is_row table.rows ≡ true

-- a table that an image of the version can have
pub record IsSaved (version : Version) (key_len : ℕ) (table : TableView) : Type 0 where
  pub sound : sound_fault table ≡ None
  pub saved : CanBeSaved key_len table
  pub typed : HasWords table
  pub groups : is_of_version version table ≡ true

-- the bytes are the image of the pair in the version
pub record IsImage (version : Version) (bytes : List ℕ) (pair : PairView) : Type 0 where
  pub spelling : bytes ≡ spelled_pair version pair
  pub ip4 : IsSaved version ip4_key_len pair.ip4
  pub ip6 : IsSaved version ip6_key_len pair.ip6

-- The first failing check of an image. Its bytes are read field by field, and each check is made at
-- the field that it speaks of.
use Rattle.std.specs.Prelude.{ℕ, zero, suc, ◌+◌, ◌*◌, ◌==◌, nat_le, List, [], ◌∷◌, ◌++◌, length, sum, replicate}
use Rattle.std.specs.Prelude.{Bool, ◌||◌, Result, Ok, Err, if◌then◌else◌}
use Rattle.byte_numbers.specs.Number.{number_at}
use Rattle.flat_table.specs.declared.level.Level.{Level}
use Rattle.flat_table.specs.Groups.{is_kept_word, depth_of}
use Rattle.flat_table.specs.Table.{TableView, levels_from, trie_levels}
use Rattle.flat_table.specs.Sound.{leads_into, first_level, is_sound_word}
use Rattle.table_sizes.specs.Groups.{ip4_key_len, ip6_key_len}
use Rattle.table_sizes.specs.Sizes.{max_rules, max_tries, max_words, row_len}
use Rattle.table_image.specs.declared.load_fault.ImageFault.{ImageFault}
use Rattle.table_image.specs.declared.load_fault.ImageKind.{ImageKind}
use Rattle.table_image.specs.declared.load_fault.ImageKind.TheVariants.{Magic, Family, Length, TooMany, Unsound, RowForm, Trailing, KeptGroups}
use Rattle.table_image.specs.declared.load_fault.ImageKind.TheVariants as kind
use Rattle.table_image.specs.declared.version.Version.{Version}
use Rattle.table_image.specs.declared.version.Version.TheVariants.{One, Two}
use Rattle.table_image.specs.Spelling.{PairView, magic, short, long, kept_len, all_groups, is_row_word}

-- what is read of an image, or its first failing check
abbrev pub Reading : Type 0 → Type 0
Reading A = Result A ImageFault

infixl 10 ◌>>=◌
-- what was read goes into the reading after it; after a failing check nothing more is read
abbrev pub ◌>>=◌ : {A B : Type 0} → Reading A → (A → Reading B) → Reading B
Ok value >>= f = f value
Err fault >>= f = Err fault

-- the fault of a check at the place
abbrev pub fault_at : ImageKind → ℕ → ImageFault
fault_at kind at = record { place = at; kind = kind }

-- the value, if it passes the check at the place
abbrev pub checked : {A : Type 0} → Bool → ImageKind → ℕ → A → Reading A
checked passes kind at value = if passes then Ok value else Err (fault_at kind at)

-- the number of so many bytes at the place, which has to be whole
abbrev pub field : ℕ → List ℕ → ℕ → Reading ℕ
field size bytes at =
    checked (nat_le (at + size) (length bytes)) Length at (number_at bytes at size)

-- the same, where the number has to pass a test
abbrev pub tested : ImageKind → ℕ → (ℕ → Bool) → List ℕ → ℕ → Reading ℕ
tested kind size test bytes at =
    field size bytes at >>= λ number. checked (test number) kind at number

-- so many numbers more of a list that stands from a place on, after the first ones of it; each has
-- to pass a test beside those before it
unfoldable pub numbers_after : ImageKind → ℕ → (List ℕ → ℕ → Bool) → List ℕ → ℕ → ℕ → List ℕ →
    Reading (List ℕ)
numbers_after kind size test bytes from zero first = Ok first
numbers_after kind size test bytes from (suc count) first =
    tested kind size (test first) bytes (from + size * length first) >>= λ number.
    numbers_after kind size test bytes from count (first ++ number ∷ [])

-- a list of so many numbers that stands at the place
abbrev pub numbers : ImageKind → ℕ → (List ℕ → ℕ → Bool) → List ℕ → ℕ → ℕ → Reading (List ℕ)
numbers kind size test bytes from count = numbers_after kind size test bytes from count []

-- the tries of a table as far as they were read
pub record TriesView : Type 0 where
  pub kept : List ℕ
  pub roots : List ℕ
  pub level_lens : List ℕ
  pub end : ℕ  -- the place of the field after them

-- no tries, at the place
abbrev pub no_tries : ℕ → TriesView
no_tries at = record { kept = []; roots = []; level_lens = []; end = at }

-- the kept groups of a trie: all of them where the version has no field for them
abbrev pub kept_groups : Version → ℕ → List ℕ → ℕ → Reading ℕ
kept_groups One key_len bytes at = Ok (all_groups key_len)
kept_groups Two key_len bytes at = tested KeptGroups short (is_kept_word key_len) bytes at

-- with one more level the table doesn't have too many words, of which the rows take some and the
-- levels before it others
abbrev pub level_fits : ℕ → List ℕ → ℕ → Bool
level_fits taken lens len = nat_le (taken + sum lens + len) max_words

-- one trie more, of these kept groups: the lengths of its levels, and its root, which leads into
-- the first of them
abbrev pub trie_of : Version → ℕ → List ℕ → TriesView → ℕ → ℕ → Reading TriesView
trie_of version taken bytes tries kept depth =
    numbers TooMany short (level_fits (taken + sum tries.level_lens)) bytes
    (tries.end + kept_len version) depth >>= λ lens.
    tested Unsound long (leads_into (first_level (levels_from (sum tries.level_lens) lens))) bytes
    (tries.end + kept_len version + short * depth) >>= λ root.
    Ok (record {
      kept = tries.kept ++ kept ∷ [];
      roots = tries.roots ++ root ∷ [];
      level_lens = tries.level_lens ++ lens;
      end = tries.end + kept_len version + short * depth + long;
    })

-- one trie more
abbrev pub one_trie : Version → ℕ → ℕ → List ℕ → TriesView → Reading TriesView
one_trie version key_len taken bytes tries =
    kept_groups version key_len bytes tries.end >>= λ kept.
    trie_of version taken bytes tries kept (depth_of key_len kept)

-- so many tries more, of a table of which the rows take some words
unfoldable pub tries_after : Version → ℕ → ℕ → List ℕ → ℕ → TriesView → Reading TriesView
tries_after version key_len taken bytes zero tries = Ok tries
tries_after version key_len taken bytes (suc count) tries =
    one_trie version key_len taken bytes tries >>= λ more.
    tries_after version key_len taken bytes count more

-- the words of these levels, after the first words of a list that stands from a place on: each
-- names one of so many rows, or leads into the level after its own
unfoldable pub words_of_levels : ℕ → List ℕ → ℕ → List Level → List ℕ → Reading (List ℕ)
words_of_levels rows bytes from [] first = Ok first
words_of_levels rows bytes from (level ∷ levels) first =
    numbers_after Unsound long (λ _. is_sound_word rows (first_level levels)) bytes from level.len
    first >>= λ more.
    words_of_levels rows bytes from levels more

-- the same for the levels of all these tries
unfoldable pub words_of_tries : ℕ → List ℕ → ℕ → List (List Level) → List ℕ → Reading (List ℕ)
words_of_tries rows bytes from [] first = Ok first
words_of_tries rows bytes from (levels ∷ tries) first =
    words_of_levels rows bytes from levels first >>= λ more.
    words_of_tries rows bytes from tries more

-- how many bytes a row has
abbrev pub row_bytes : ℕ
row_bytes = long * row_len

-- so many rows more, of words that name one of so many rules, after the first of them, which stand
-- from a place on
unfoldable pub rows_after : ℕ → List ℕ → ℕ → ℕ → List (List ℕ) → Reading (List (List ℕ))
rows_after rules bytes from zero first = Ok first
rows_after rules bytes from (suc count) first =
    numbers RowForm long (λ _. is_row_word rules) bytes (from + row_bytes * length first) row_len
    >>= λ row. rows_after rules bytes from count (first ++ row ∷ [])

-- row 0, which isn't read
unfoldable pub no_rule : List ℕ
no_rule = replicate row_len 0

-- the table that these tries, words and rows make
abbrev pub table_of : ℕ → ℕ → TriesView → List ℕ → List (List ℕ) → TableView
table_of key_len rules tries words rows = record {
  key_len = key_len;
  rules = rules;
  kept = tries.kept;
  roots = tries.roots;
  level_lens = tries.level_lens;
  words = words;
  rows = no_rule ∷ rows;
}

-- what an image says of a table before its tries
pub record Counts : Type 0 where
  pub rules : ℕ
  pub tries : ℕ
  pub rows : ℕ  -- row 0 not counted

-- these numbers
abbrev pub counts : ℕ → List ℕ → ℕ → Reading Counts
counts family bytes at =
    tested Family short (λ number. number == family) bytes at >>= λ number.
    tested TooMany short (λ number. nat_le number max_rules) bytes (at + 4) >>= λ rules.
    tested TooMany short (λ number. nat_le number max_tries) bytes (at + 8) >>= λ tries.
    tested TooMany short (λ number. nat_le (row_len * (number + 1)) max_words) bytes (at + 12)
    >>= λ rows.
    Ok (record { rules = rules; tries = tries; rows = rows })

-- a table that was read, and the place of the field after it
pub record TableRead : Type 0 where
  pub table : TableView
  pub end : ℕ

-- the words and the rows of a table
abbrev pub words_and_rows : ℕ → List ℕ → Counts → TriesView → Reading TableRead
words_and_rows key_len bytes counts tries =
    words_of_tries (counts.rows + 1) bytes tries.end
    (trie_levels (table_of key_len counts.rules tries [] [])) [] >>= λ words.
    rows_after counts.rules bytes (tries.end + long * length words) counts.rows [] >>= λ rows.
    Ok (record {
      table = table_of key_len counts.rules tries words rows;
      end = tries.end + long * length words + row_bytes * length rows;
    })

-- the table at the place, of the family of the number, whose keys have so many bytes
unfoldable pub table_read : Version → ℕ → ℕ → List ℕ → ℕ → Reading TableRead
table_read version family key_len bytes at =
    counts family bytes at >>= λ counts.
    tries_after version key_len (row_len * (counts.rows + 1)) bytes counts.tries
    (no_tries (at + 16))
    >>= λ tries.
    words_and_rows key_len bytes counts tries

-- the version of the number
abbrev pub version_of : ℕ → Version
version_of number = if number == 1 then One else Two

-- the two tables, and no byte after them
abbrev pub pair_read : Version → List ℕ → Reading PairView
pair_read version bytes =
    table_read version 4 ip4_key_len bytes 8 >>= λ ip4.
    table_read version 6 ip6_key_len bytes ip4.end >>= λ ip6.
    checked (length bytes == ip6.end) Trailing ip6.end
    (record { ip4 = ip4.table; ip6 = ip6.table })

-- the version of an image
abbrev pub version_read : List ℕ → Reading Version
version_read bytes =
    tested Magic short (λ number. number == magic) bytes 0 >>= λ _.
    tested kind.Version short (λ number. number == 1 || number == 2) bytes 4 >>= λ number.
    Ok (version_of number)

-- the pair of an image, or the first failing check of the bytes
unfoldable pub image_of : List ℕ → Reading PairView
image_of bytes = version_read bytes >>= λ version. pair_read version bytes

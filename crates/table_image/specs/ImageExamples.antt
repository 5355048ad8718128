-- Examples of images, each checked by evaluation.
use Rattle.std.specs.Prelude.{◌≡◌, ℕ, List, [], ◌∷◌, ◌++◌, ◌+◌, length, replicate, map, refl, Ok, take, drop}
use Rattle.std.specs.Result.{result_err}
use Rattle.std.specs.List.{range_with_len}
use Rattle.std.specs.Prelude.{Option, Some, None}
use Rattle.flat_table.specs.Table.{TableView}
use Rattle.flat_table.specs.HandmadeTables.{match_of, single_at, table_of, wild_table, empty_table, two_tries}
use Rattle.table_image.specs.declared.load_fault.ImageFault.{ImageFault}
use Rattle.table_image.specs.declared.load_fault.ImageKind.TheVariants.{Magic, Family, Length, TooMany, Unsound, RowForm, Trailing, KeptGroups}
use Rattle.table_image.specs.declared.load_fault.ImageKind.TheVariants as kind
use Rattle.table_image.specs.declared.version.Version.TheVariants.{One, Two}
use Rattle.table_image.specs.Spelling.{PairView, spelled, spelled_table, spelled_pair}
use Rattle.table_image.specs.Laws.{longest_image}
use Rattle.table_image.specs.ImageReading.{image_of, table_read, numbers_after, tries_after, words_of_levels, words_of_tries, rows_after, no_rule, fault_at}

-- no IPv6 rules
abbrev empty_ip6 : TableView
empty_ip6 = record empty_table { key_len = 37 }

-- of one IPv4 rule that every key matches: one node, at the first byte
abbrev wild_pair : PairView
wild_pair = record { ip4 = wild_table; ip6 = empty_ip6 }

-- the numbers of 4 bytes
abbrev small : ℕ → List ℕ
small n = 0 ∷ 0 ∷ 0 ∷ n ∷ []

-- its image of version 2: magic, version, family, rules, tries, rows, kept groups, one level of one
-- word, the
-- root, the word, row 1, and the empty table
abbrev wild_image : List ℕ
wild_image =
    0x41 ∷ 0x43 ∷ 0x4C ∷ 0x54 ∷ (small 2 ++ small 4 ++ small 1 ++ small 1 ++ small 1 ++ small 1
    ++ small 1
    ++ (0 ∷ 0 ∷ 0 ∷ 0 ∷ 0x20 ∷ 0 ∷ 0 ∷ 0 ∷ [])
    ++ (0 ∷ 0 ∷ 0 ∷ 0 ∷ 0x80 ∷ 0 ∷ 0 ∷ 1 ∷ [])
    ++ (small 1 ++ small 1 ++ small 1 ++ small 1 ++ small 1 ++ small 1 ++ small 1 ++ small 1)
    ++ (small 1 ++ small 1 ++ small 1 ++ small 1 ++ small 1 ++ small 1 ++ small 1 ++ small 1)
    ++ (small 1 ++ small 1 ++ small 1 ++ small 1 ++ small 1 ++ small 1 ++ small 1 ++ small 1)
    ++ (small 1 ++ small 1 ++ small 1 ++ small 1 ++ small 1 ++ small 1 ++ small 1 ++ small 1)
    ++ small 6 ++ small 0 ++ small 0 ++ small 0)

wild_is_spelled : spelled_pair Two wild_pair ≡ wild_image
unfolding spelled_pair spelled_table spelled
wild_is_spelled = refl

wild_is_read : image_of wild_image ≡ Ok wild_pair
unfolding image_of table_read numbers_after tries_after words_of_levels words_of_tries rows_after
    no_rule
wild_is_read = refl

-- a byte at a place is another one
abbrev with_byte : ℕ → ℕ → List ℕ → List ℕ
with_byte at byte bytes = take at bytes ++ byte ∷ drop (at + 1) bytes

-- the same rule with all groups kept: thirteen nodes of one word each
abbrev all_kept : PairView
all_kept = record {
  ip4 = table_of 15 (single_at 0) (replicate 13 1)
      (map single_at (range_with_len 1 12) ++ match_of 1 ∷ []);
  ip6 = empty_ip6;
}

-- the first failing check of the image of version 2 with a byte changed
abbrev changed : ℕ → ℕ → Option ImageFault
changed at byte = result_err (image_of (with_byte at byte wild_image))

-- and of that of version 1
abbrev changed_one : ℕ → ℕ → Option ImageFault
changed_one at byte = result_err (image_of (with_byte at byte (spelled_pair One all_kept)))

-- an image of version 1 has no field for kept groups
all_kept_is_read : image_of (spelled_pair One all_kept) ≡ Ok all_kept
unfolding image_of table_read numbers_after tries_after words_of_levels words_of_tries rows_after
    no_rule spelled_pair spelled_table spelled
all_kept_is_read = refl

lengths : (length (spelled_pair One all_kept) ∷ length (spelled_pair Two wild_pair) ∷ [])
    ≡ 332 ∷ 192 ∷ []
unfolding spelled_pair spelled_table spelled
lengths = refl

-- magic, version, kept groups that are none or too many, a word, a rank of 0 and one too high
faults_of_two : (changed 0 0x42 ∷ changed 7 3 ∷ changed 27 0 ∷ changed 27 0x11 ∷ changed 47 2
    ∷ changed 51 0 ∷ changed 51 2 ∷ [])
    ≡ Some (fault_at Magic 0) ∷ Some (fault_at kind.Version 4) ∷ Some (fault_at KeptGroups 24)
    ∷ Some (fault_at KeptGroups 24)
    ∷ Some (fault_at Unsound 40) ∷ Some (fault_at RowForm 48) ∷ Some (fault_at RowForm 48) ∷ []
unfolding image_of table_read numbers_after tries_after words_of_levels words_of_tries rows_after
    no_rule
faults_of_two = refl

-- too many rules, too many rows, and a level of too many words
too_many_of_two : (changed 13 0x10 ∷ changed 21 0x80 ∷ changed 28 0x10 ∷ [])
    ≡ Some (fault_at TooMany 12) ∷ Some (fault_at TooMany 20) ∷ Some (fault_at TooMany 28) ∷ []
unfolding image_of table_read numbers_after tries_after words_of_levels words_of_tries rows_after
    no_rule
too_many_of_two = refl

-- the image with a level of 67,108,8xx words, by the low byte of their number: with the two rows a
-- table may have 67,108,864 words, of which the second is none, and no word more
abbrev level_of : ℕ → Option ImageFault
level_of low = result_err (image_of (with_byte 28 3 (with_byte 29 0xFF (with_byte 30 0xFF
    (with_byte 31 low wild_image)))))

most_words : (level_of 0xE0 ∷ level_of 0xE1 ∷ [])
    ≡ Some (fault_at Unsound 48) ∷ Some (fault_at TooMany 28) ∷ []
unfolding image_of table_read numbers_after tries_after words_of_levels words_of_tries rows_after
    no_rule
most_words = refl

-- a table of two tries, with a row for each of two rules
abbrev several_rows : PairView
several_rows = record { ip4 = two_tries; ip6 = empty_ip6 }

several_rows_are_read : image_of (spelled_pair Two several_rows) ≡ Ok several_rows
unfolding image_of table_read numbers_after tries_after words_of_levels words_of_tries rows_after
    no_rule spelled_pair spelled_table spelled
several_rows_are_read = refl

-- userdata 0 is lawful
userdata_0 : changed 55 0 ≡ None
unfolding image_of table_read numbers_after tries_after words_of_levels words_of_tries rows_after
    no_rule
userdata_0 = refl

-- families, the number of tries, a root, a word, a row
faults_of_one : (changed_one 11 6 ∷ changed_one 17 0xFF ∷ changed_one 80 0x60 ∷ changed_one 99 1
    ∷ changed_one 191 0
    ∷ changed_one 319 4 ∷ [])
    ≡ Some (fault_at Family 8) ∷ Some (fault_at TooMany 16) ∷ Some (fault_at Unsound 76) ∷ Some
    (fault_at Unsound 92)
    ∷ Some (fault_at RowForm 188) ∷ Some (fault_at Family 316) ∷ []
unfolding image_of table_read numbers_after tries_after words_of_levels words_of_tries rows_after
    no_rule spelled_pair spelled_table spelled
faults_of_one = refl

-- the longest image: of both families tables of eight tries that keep all groups, and of as many
-- words as a table may have
how_long : longest_image ≡ 1073743400
how_long = refl

-- no bytes, one byte less, one byte more
ends : (result_err (image_of []) ∷ result_err (image_of (take 191 wild_image)) ∷ result_err
    (image_of (wild_image ++ 0 ∷ [])) ∷ [])
    ≡ Some (fault_at Length 0) ∷ Some (fault_at Length 188) ∷ Some (fault_at Trailing 192) ∷ []
unfolding image_of table_read numbers_after tries_after words_of_levels words_of_tries rows_after
    no_rule
ends = refl

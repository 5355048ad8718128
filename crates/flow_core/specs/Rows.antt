-- The rows of keys: for each category the greatest word that was reached so far.
use Rattle.std.specs.Prelude.{ℕ, List, [], ◌++◌, map, max, replicate, drop, set, slice_index, slice_index_or}
use Rattle.std.specs.Prelude.{◌%◌}
use Rattle.flat_table.specs.Walk.{userdatas}
use Rattle.std.specs.List.{range_with_len}
use Rattle.table_sizes.specs.Sizes.{row_len}

-- a row of a key of which no walk has ended
unfoldable pub zero_row : List ℕ
zero_row = replicate row_len 0

-- the rows with those of the first keys made zero
abbrev pub cleared : ℕ → List (List ℕ) → List (List ℕ)
cleared keys rows = replicate keys zero_row ++ drop keys rows

-- for each category the greater word of two rows
unfoldable pub joined_row : List ℕ → List ℕ → List ℕ
joined_row one other = map (λ category. max (slice_index one category) (slice_index other category))
    (range_with_len 0 row_len)

-- the rows with one joined into that of the key
abbrev pub joined_into : ℕ → List ℕ → List (List ℕ) → List (List ℕ)
joined_into key row rows = set rows key (joined_row (slice_index_or rows key []) row)

-- the verdicts of a row in the categories from 0 on: the userdata of its words
abbrev pub row_verdicts : ℕ → List ℕ → List ℕ
row_verdicts count row = map (λ category. slice_index row category % userdatas)
    (range_with_len 0 count)

-- the rows with a number written into a word of the key's row
abbrev pub noted_in : ℕ → ℕ → ℕ → List (List ℕ) → List (List ℕ)
noted_in key place number rows = set rows key (set (slice_index_or rows key []) place number)

-- The first row in which a rule is the winner of a category.
use Rattle.std.specs.Prelude.{◌≡◌, ℕ, ◌+◌, ◌-◌, ◌<◌, ◌==◌, List, [], ◌∷◌, length, slice_index_or, All}
use Rattle.std.specs.Prelude.{nat_lt, replicate, slice_set}
use Rattle.std.specs.Prelude.{if◌then◌else◌}
use Rattle.table_sizes.specs.Sizes.{row_len}

-- the number of the first row that names the rule in the category, counted from 1 on after so many
-- other rows, or 0
abbrev pub first_from : ℕ → List (List ℕ) → ℕ → ℕ → ℕ
first_from before [] rule category = 0
first_from before (row ∷ rows) rule category =
    if slice_index_or row category 0 == rule + 1 then before + 1 else first_from (before + 1) rows
    rule category

-- a number of a table of rules and categories
abbrev pub number_at : List (List ℕ) → ℕ → ℕ → ℕ
number_at table rule category = slice_index_or (slice_index_or table rule []) category 0

-- The table has the number of the first row for each of so many rules and each category.
pub record AreFirsts (rows : List (List ℕ)) (count : ℕ) (table : List (List ℕ)) : Type 0 where
  pub long : length table ≡ count
  pub whole : All (λ numbers. length numbers ≡ row_len) table
  pub each : (rule category : ℕ) → rule < count → category < row_len →
      number_at table rule category ≡ first_from 0 rows rule category

-- the table with the number where the entry names a rule
abbrev pub entry_noted : List (List ℕ) → ℕ → ℕ → ℕ → List (List ℕ)
entry_noted table entry category number =
    if nat_lt 0 entry then slice_set table (entry - 1)
    (slice_set (slice_index_or table (entry - 1) []) category number) else table

-- the table with the number for each entry of a row, the first of which is that of the category
abbrev pub row_noted : List (List ℕ) → ℕ → ℕ → List ℕ → List (List ℕ)
row_noted table number category [] = table
row_noted table number category (entry ∷ row) =
    row_noted (entry_noted table entry category number) number (category + 1) row

-- no row yet for so many rules
unfoldable pub no_firsts : ℕ → List (List ℕ)
no_firsts count = replicate count (replicate row_len 0)

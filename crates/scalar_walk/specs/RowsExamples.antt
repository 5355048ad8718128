-- Examples of what rows say of a category, each checked by evaluation.
use Rattle.std.specs.Prelude.{◌≡◌, ℕ, List, [], ◌∷◌, ◌++◌, replicate, map, refl, true, false}
use Rattle.flat_table.specs.Table.{TableView}
use Rattle.flat_table.specs.HandmadeTables.{row_of, empty_table, source_table, two_tries}
use Rattle.scalar_walk.specs.Rows.{joined_rows, row_verdicts, row_winners, winners_of, key_winners}
use Rattle.scalar_walk.specs.Rows.{first_winners, batch_winners}

-- keys of 13 bytes: from 10.0.0.1 and from 11.0.0.1
abbrev from_10 : List ℕ
from_10 = 6 ∷ 10 ∷ 0 ∷ 0 ∷ 1 ∷ 5 ∷ 6 ∷ 7 ∷ 8 ∷ 0 ∷ 9 ∷ 0 ∷ 10 ∷ []

abbrev from_11 : List ℕ
from_11 = 17 ∷ 11 ∷ 0 ∷ 0 ∷ 1 ∷ 5 ∷ 6 ∷ 7 ∷ 8 ∷ 0 ∷ 9 ∷ 3 ∷ 255 ∷ []

-- of a rule that says 7 in category 0, nothing in 1, and 0 in 2; and of one of a higher rank that
-- says 9 in category 1
abbrev apart_rows : List (List ℕ)
apart_rows = row_of 0 ∷ (0x100000007 ∷ 0 ∷ 0x100000000 ∷ replicate 13 0)
    ∷ (0 ∷ 0x200000009 ∷ replicate 14 0) ∷ []

-- where the rule on the source address 10.0.0.0/8 has the first of these rows
abbrev apart_table : TableView
apart_table = record source_table { rows = apart_rows }

-- the greatest word of each category over rows 1 and 2, and over none
words_of_rows : (map (joined_rows apart_rows (1 ∷ 2 ∷ [])) (0 ∷ 1 ∷ 2 ∷ 3 ∷ [])
    ∷ map (joined_rows apart_rows []) (0 ∷ 1 ∷ []) ∷ [])
    ≡ (0x100000007 ∷ 0x200000009 ∷ 0x100000000 ∷ 0 ∷ []) ∷ (0 ∷ 0 ∷ []) ∷ []
words_of_rows = refl

-- userdata 0 is that of a rule in category 2, and that of none in category 1
said_by_a_row : row_verdicts apart_rows 3 1 ≡ 7 ∷ 0 ∷ 0 ∷ []
said_by_a_row = refl

won_by_a_row : row_winners apart_rows 3 1 ≡ true ∷ false ∷ true ∷ []
won_by_a_row = refl

-- in all sixteen categories
won_by_some_rule : (winners_of apart_table from_10 ∷ winners_of apart_table from_11
    ∷ winners_of two_tries from_10 ∷ winners_of empty_table from_10 ∷ [])
    ≡ (true ∷ false ∷ true ∷ replicate 13 false) ∷ replicate 16 false ∷ replicate 16 true
    ∷ replicate 16 false ∷ []
unfolding winners_of
won_by_some_rule = refl

-- in the first of them, key by key
won_by_keys : (key_winners apart_table 2 from_10
    ∷ first_winners apart_table 3 (from_10 ++ from_11) 1
    ∷ batch_winners apart_table 2 (from_11 ++ from_10) ∷ [])
    ≡ (true ∷ false ∷ []) ∷ (true ∷ false ∷ true ∷ []) ∷ (false ∷ false ∷ true ∷ false ∷ []) ∷ []
won_by_keys = refl

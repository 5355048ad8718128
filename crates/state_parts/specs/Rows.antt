-- The row of some entries: for each category the greatest rank among their rules that take part in
-- it, or 0.
use Rattle.std.specs.Prelude.{◌≡◌, ℕ, ◌/◌, ◌%◌, ◌^◌, ◌==◌, List, [], ◌∷◌, map, max, slice_index_or}
use Rattle.std.specs.Prelude.{if◌then◌else◌}
use Rattle.std.specs.List.{range_with_len}
use Rattle.std.specs.Str.{bytes_eq}
use Rattle.state_parts.specs.declared.rows.Ranked.{Ranked}
use Rattle.state_parts.specs.Keys.{KeyAt}

-- the rule of an entry
abbrev pub rule_of : ℕ → ℕ
rule_of entry = entry / 4

-- the row of one rule
unfoldable pub row_of_rule : Ranked → List ℕ
row_of_rule rule = map (λ category. if rule.mask / 2 ^ category % 2 == 1 then rule.rank else 0)
    (range_with_len 0 16)

-- the row of one entry
unfoldable pub row_of_entry : List Ranked → ℕ → List ℕ
row_of_entry ranked entry =
    row_of_rule (slice_index_or ranked (rule_of entry) (record { mask = 0; rank = 0 }))

-- two rows as one, of which either may be missing
abbrev pub join_rows : List ℕ → List ℕ → List ℕ
join_rows [] other = other
join_rows (rank ∷ ranks) [] = rank ∷ ranks
join_rows (rank ∷ ranks) (other ∷ others) = max rank other ∷ join_rows ranks others

-- the row of some entries, and of none no row
abbrev pub best_row : List Ranked → List ℕ → List ℕ
best_row ranked [] = []
best_row ranked (entry ∷ entries) = join_rows (row_of_entry ranked entry) (best_row ranked entries)

-- The number stands for a row among those that are numbered, or for none.
abbrev pub IsRow : List (List ℕ) → List ℕ → ℕ → Type 0
IsRow rows [] number = number ≡ 0
IsRow rows (rank ∷ ranks) number = KeyAt bytes_eq rows (rank ∷ ranks) number

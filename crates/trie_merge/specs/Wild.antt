-- The kept input groups, where it is given of each place of a key whether it is wild.
use Rattle.std.specs.Prelude.{ℕ, ◌+◌, ◌-◌, ◌^◌, ◌==◌, List, length, filter, slice_index_or, Bool}
use Rattle.std.specs.Prelude.{true, not, ◌&&◌, ◌||◌}
use Rattle.std.specs.List.{list_all, range_with_len, sum_by}
use Rattle.table_sizes.specs.Groups.{group_of}

-- each place of the input group is wild
unfoldable pub is_idle_by : List Bool → ℕ → Bool
is_idle_by wild input = list_all
    (λ place. not (group_of place == input) || slice_index_or wild place true)
    (range_with_len 0 (length wild))

-- an input group is kept where it isn't idle, and input group 0 also where all are idle
unfoldable pub is_kept_by : List Bool → ℕ → Bool
is_kept_by wild input = not (is_idle_by wild input) || (input == 0 && list_all (λ is. is) wild)

-- the places of the kept input groups
unfoldable pub places_by : List Bool → List ℕ
places_by wild = filter (λ place. is_kept_by wild (group_of place)) (range_with_len 0 (length wild))

-- the kept input groups as bits
unfoldable pub bits_by : List Bool → ℕ
bits_by wild = sum_by (λ input. 2 ^ input)
    (filter (is_kept_by wild) (range_with_len 0 (1 + group_of (length wild - 1))))

-- Numbers that are kept with the place of each.
use Rattle.std.specs.Prelude.{◌≡◌, ℕ, ◌+◌, List, nat_eq, slice_index_or, if◌then◌else◌}
use Rattle.std.specs.List.{list_any, position_or_len}

-- the numbers in the order in which they are found
pub record FoundView : Type 0 where
  pub keys : List ℕ

-- the place after that of the number, and 0 where it isn't among the numbers
abbrev pub place_after : List ℕ → ℕ → ℕ
place_after keys number =
    if list_any (nat_eq number) keys then position_or_len (nat_eq number) keys + 1 else 0

-- For each number the place after its own stands at that index, if any does.
abbrev pub ArePlaces : List ℕ → List ℕ → Type 0
ArePlaces keys places = (number : ℕ) → slice_index_or places number 0 ≡ place_after keys number

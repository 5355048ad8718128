-- An audit as it is kept: numbers of keys, and the keys one after the other.
use Rattle.std.specs.Prelude.{ℕ, ◌-◌, ◌*◌, ◌≤◌, ◌==◌, List, map, take, drop, length, All, Option, Some}
use Rattle.std.specs.Prelude.{None, if◌then◌else◌, ◌≡◌}
use Rattle.table_sizes.specs.Sizes.{row_len}

-- the key of that number, counted from 1 on, of keys of one length, and none for number 0
abbrev pub key_numbered : List ℕ → ℕ → ℕ → Option (List ℕ)
key_numbered keys key_len number =
    if number == 0 then None else Some (take key_len (drop ((number - 1) * key_len) keys))

-- the keys of the numbers
abbrev pub keys_of : List (List ℕ) → List ℕ → ℕ → List (List (Option (List ℕ)))
keys_of firsts keys key_len = map (map (key_numbered keys key_len)) firsts

-- There is a number for each category, and a key for each number.
pub record HasKeys (firsts : List (List ℕ)) (keys : List ℕ) (key_len : ℕ) : Type 0 where
  pub whole : All (λ numbers. length numbers ≡ row_len) firsts
  pub within : All (All (λ number. number * key_len ≤ length keys)) firsts

-- What the bytes of a place lead to: numbered parts of the next place, or after the last place
-- numbered rows.
use Rattle.std.specs.Prelude.{◌≡◌, ℕ, ◌≤◌, List, ◌++◌, length, true, Option, Some, None}
use Rattle.std.specs.List.{filter_map}
use Rattle.std.specs.Str.{bytes_eq}
use Rattle.state_parts.specs.declared.target.Target.{Target}
use Rattle.state_parts.specs.declared.target.Target.TheVariants.{Parts, Rows}
use Rattle.state_parts.specs.Keys.{KeyAt, same_pair, has_entry}
use Rattle.state_parts.specs.Tree.{Tree, leaves, Joins, Stands, stepped}
use Rattle.state_parts.specs.Rows.{row_of_entry, join_rows, best_row, IsRow}

-- how many numbers there are
abbrev pub count : Target → ℕ
count (Parts pairs) = length pairs
count (Rows rows) = length rows.rows

-- The number stands for what is left of the rules of a tree.
abbrev pub StandsIn : Target → Tree → (ℕ → Option ℕ) → ℕ → Type 0
StandsIn (Parts pairs) tree entries number = Stands pairs tree entries number
StandsIn (Rows rows) tree entries number =
    IsRow rows.rows (best_row rows.ranked (filter_map entries (leaves tree))) number

-- The one goes on from the other: its numbers are those, and more.
abbrev pub Grows : Target → Target → Type 0
Grows (Parts pairs) (Parts now) = (more : List (ℕ × ℕ)) × (now ≡ pairs ++ more)
Grows (Parts pairs) (Rows rows) = ⊥
Grows (Rows rows) (Parts pairs) = ⊥
Grows (Rows rows) (Rows now) =
    (now.ranked ≡ rows.ranked) × ((more : List (List ℕ)) × (now.rows ≡ rows.rows ++ more))

-- The number stands for two others together.
abbrev pub JoinsIn : Target → ℕ → ℕ → ℕ → Type 0
JoinsIn (Parts pairs) left right number = Joins pairs left right number
JoinsIn (Rows rows) left right number =
    (one other : List ℕ) → IsRow rows.rows one left → IsRow rows.rows other right →
    IsRow rows.rows (join_rows one other) number

-- The number stands for one entry.
abbrev pub IsEntryIn : Target → ℕ → ℕ → Type 0
IsEntryIn (Parts pairs) entry number = KeyAt same_pair pairs (0, entry) number
IsEntryIn (Rows rows) entry number =
    KeyAt bytes_eq rows.rows (row_of_entry rows.ranked entry) number

-- The number stands for what is left of one rule.
abbrev pub IsFoundIn : Target → Option ℕ → ℕ → Type 0
IsFoundIn target None number = number ≡ 0
IsFoundIn target (Some entry) number = IsEntryIn target entry number

-- The entry is a part.
abbrev pub HasEntry : Target → ℕ → Type 0
HasEntry (Parts pairs) entry = has_entry pairs entry ≡ true
HasEntry (Rows rows) entry = ⊥

-- By a step a part of a place leads to a number: whatever rules it stands for, that one stands for
-- what the step leaves of them.
pub record Leads (step : ℕ → Option ℕ) (pairs : List (ℕ × ℕ)) (target : Target)
    (part number : ℕ) : Type 0 where
  pub within : number ≤ count target
  pub stands : (tree : Tree) (entries : ℕ → Option ℕ) → Stands pairs tree entries part →
      StandsIn target tree (stepped step entries) number

-- The rules of a group as the leaves of a tree, and the number that stands for the edges of a
-- tree's rules.
use Rattle.std.specs.Prelude.{◌≡◌, ℕ, ◌<◌, List, [], ◌∷◌, ◌++◌, Option, Some, None, ◌⊎◌}
use Rattle.std.specs.Option.{option_and_then}
use Rattle.state_parts.specs.Keys.{KeyAt, same_pair}

-- a tree whose leaves are the places of rules in the set
pub data Tree : Type 0 where
  Leaf : (rule : ℕ) → Tree
  Node : (left : Tree) → (right : Tree) → Tree

-- its leaves, from left to right
abbrev pub leaves : Tree → List ℕ
leaves (Leaf rule) = rule ∷ []
leaves (Node left right) = leaves left ++ leaves right

-- The number stands for both parts: it is the number of their pair, or where one part is nothing
-- the other part's.
abbrev pub Joins : List (ℕ × ℕ) → ℕ → ℕ → ℕ → Type 0
Joins pairs left right number =
    ((left ≡ 0) × (number ≡ right)) ⊎ (((right ≡ 0) × (number ≡ left))
    ⊎ ((0 < left) × (0 < right) × KeyAt same_pair pairs (left, right) number))

-- The number stands for what is left of a rule: an entry, or nothing.
abbrev pub IsLeaf : List (ℕ × ℕ) → Option ℕ → ℕ → Type 0
IsLeaf pairs None number = number ≡ 0
IsLeaf pairs (Some entry) number = KeyAt same_pair pairs (0, entry) number

-- The number stands for what is left of the rules of a tree.
abbrev pub Stands : List (ℕ × ℕ) → Tree → (ℕ → Option ℕ) → ℕ → Type 0
Stands pairs (Leaf rule) entries number = IsLeaf pairs (entries rule) number
Stands pairs (Node left right) entries number =
    (one : ℕ) × (other : ℕ) × Stands pairs left entries one × Stands pairs right entries other
    × Joins pairs one other number

-- what a step makes of the entry of each rule
abbrev pub stepped : (ℕ → Option ℕ) → (ℕ → Option ℕ) → ℕ → Option ℕ
stepped step entries rule = option_and_then step (entries rule)

-- All entries of a list as one part.
use Rattle.std.specs.Prelude.{◌≡◌, ℕ, List, map, Option, Some}
use Rattle.std.specs.List.{AllByRecursion}
use Rattle.state_parts.specs.Tree.{Tree, leaves, Stands}
use Rattle.state_parts.specs.Rows.{rule_of}

-- There is a tree of the entries' rules, and the number stands for them wherever each rule has its
-- entry.
pub record IsAll (pairs : List (ℕ × ℕ)) (entries : List ℕ) (number : ℕ) : Type 0 where
  pub tree : Tree
  pub rules : leaves tree ≡ map rule_of entries
  pub stands : (f : ℕ → Option ℕ) →
      AllByRecursion (λ entry. f (rule_of entry) ≡ Some entry) entries → Stands pairs tree f number

-- Numbered rows as contracts see them.
use Rattle.std.specs.Prelude.{ℕ, List}
use Rattle.state_parts.specs.declared.rows.Ranked.{Ranked}

-- what decides about the rules, and the rows in the order of their numbers
pub record RowsView : Type 0 where
  pub ranked : List Ranked
  pub rows : List (List ℕ)

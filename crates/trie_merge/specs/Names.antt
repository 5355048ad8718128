-- Ranks of rules, and the rows that they stand for.
use Rattle.std.specs.Prelude.{◌≡◌, ℕ, ◌+◌, ◌-◌, ◌<◌, List, [], length, map, slice_index_or, pos}
use Rattle.std.specs.List.{range_with_len}
use Rattle.rule_set.specs.Rule.{RuleView, RuleSetView}
use Rattle.rule_set.specs.Rank.{rank_of}
use Rattle.state_parts.specs.declared.rows.Ranked.{Ranked}
use Rattle.state_parts.specs.RowsView.{RowsView}

-- a rule without categories
abbrev pub no_rule : RuleView
no_rule = record { tag = record { category_mask = 0; priority = pos 0; userdata = 0 }; fields = [] }

-- what decides about one rule of the set
abbrev pub ranked_at : RuleSetView → ℕ → Ranked
ranked_at set number = record {
  mask = (slice_index_or set.rules number no_rule).tag.category_mask;
  rank =
      rank_of set.rules number;
}

-- and about each
unfoldable pub ranked_of : RuleSetView → List Ranked
ranked_of set = map (ranked_at set) (range_with_len 0 (length set.rules))

-- The names say the number of the rule of each rank, which is its place in the set plus 1, and 0
-- for rank 0.
pub record IsNames (set : RuleSetView) (names : List ℕ) : Type 0 where
  pub none : slice_index_or names 0 0 ≡ 0
  pub each : (number : ℕ) → number < length set.rules →
      slice_index_or names (rank_of set.rules number) 0 ≡ number + 1

-- the row of a number, with the names of the ranks
unfoldable pub row_named : RowsView → List ℕ → ℕ → List ℕ
row_named rows names number =
    map (λ rank. slice_index_or names rank 0) (slice_index_or rows.rows (number - 1) [])

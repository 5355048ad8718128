-- The order in which the rules of a set win, by numbers: of two rules that match and take part, the
-- one of greater rank wins. It has the greater priority, or the same and was added earlier.
use Rattle.std.specs.Prelude.{ℕ, ◌+◌, ◌&&◌, ◌||◌, not, nat_lt, List, length, map, Bool}
use Rattle.std.specs.List.{count_by, range_with_len}
use Rattle.std.specs.Int.Signed.{le_z}
use Rattle.rule_set.specs.Rule.{RuleView}
use Rattle.rule_set.specs.Among.{priority_at}

-- the other rule has a lower priority than the one at the place, or the same and was added later
abbrev pub comes_below : List RuleView → ℕ → ℕ → Bool
comes_below rules place other =
    le_z (priority_at rules other) (priority_at rules place)
    && (not (le_z (priority_at rules place) (priority_at rules other)) || nat_lt place other)

-- the rank of the rule at the place: 1 plus the number of rules that come below it
abbrev pub rank_of : List RuleView → ℕ → ℕ
rank_of rules place = 1 + count_by (comes_below rules place) (range_with_len 0 (length rules))

-- the ranks of all rules, in order
unfoldable pub ranks_of : List RuleView → List ℕ
ranks_of rules = map (rank_of rules) (range_with_len 0 (length rules))

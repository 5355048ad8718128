-- How many categories one classification takes (DPDK Programmer's Guide, "Packet Classification and
-- Access Control", and
-- `rte_acl.h`: 1, or a multiple of `RTE_ACL_RESULTS_MULTIPLIER`, which is 4, up to
-- `RTE_ACL_MAX_CATEGORIES`, which is 16).
use Rattle.std.specs.Prelude.{ℕ, ◌==◌, Bool, ◌||◌}
use Rattle.rule_set.specs.Limits.{max_categories}

-- one of 1, 4, 8, 12 and 16
abbrev pub is_count_of_categories : ℕ → Bool
is_count_of_categories n = n == 1 || n == 4 || n == 8 || n == 12 || n == max_categories

-- The rules of a set in groups, a trie for each (DPDK's `lib/acl`, `acl_bld.c`, makes at most
-- `RTE_ACL_MAX_TRIES`, which is 8). A group is a list of places of rules in the set.
use Rattle.std.specs.Prelude.{ℕ, ◌<◌, List, All, length, fold, max, Option, Some, None}
use Rattle.std.specs.List.{flat_map, range_with_len}
use Rattle.std.specs.List.Sorted.{IsPermutation, IsStrictlyIncreasing}
use Rattle.rule_set.specs.Rule.{RuleView}
use Rattle.rule_set.specs.Rank.{rank_of}

-- Groups of so many rules: each has a rule, its places rise, and together the groups hold each
-- place once.
pub record IsPartition (count : ℕ) (groups : List (List ℕ)) : Type 0 where
  -- who wins doesn't depend on this, but merged states are those of at least one rule (trie_merge)
  pub some : All (λ group. 0 < length group) groups
  -- so the first of equal priorities in a group is the first of them in the set
  pub ascending : All IsStrictlyIncreasing groups
  pub once : IsPermutation (flat_map (λ group. group) groups) (range_with_len 0 count)

-- the rank of the rule at a place, and 0 for no place
abbrev pub rank_or_none : List RuleView → Option ℕ → ℕ
rank_or_none rules None = 0
rank_or_none rules (Some place) = rank_of rules place

-- the greatest of some numbers, and 0 where there is none
abbrev pub greatest : List ℕ → ℕ
greatest numbers = fold max 0 numbers

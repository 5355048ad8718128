-- How great the numbers of a rule may be.
use Rattle.rule_set.specs.declared.categories.TheConstants.{MAX_CATEGORIES}
use Rattle.std.specs.Prelude.{ℕ}

-- the greatest priority of a rule, as in `rte_acl.h` (RTE_ACL_MAX_PRIORITY)
abbrev pub max_priority : ℕ
max_priority = 536870911

-- how many categories there are
abbrev pub max_categories : ℕ
max_categories = MAX_CATEGORIES

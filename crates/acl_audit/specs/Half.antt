-- Two lists of rules as one, so that one set of merged states compares them in eight categories:
-- categories 0 to 7 of such a half are eight of the first list's, and categories 8 to 15 the same
-- eight of the second list's. Categories and category masks: DPDK Programmer's Guide, "Packet
-- Classification and Access Control".
use Rattle.std.specs.Prelude.{ℕ, ◌+◌, ◌*◌, ◌/◌, ◌%◌, ◌^◌, ◌==◌, List, ◌++◌, map, filter, length, nat_lt}
use Rattle.std.specs.Prelude.{Bool, not, ◌&&◌}
use Rattle.std.specs.List.{sum_by, list_all}
use Rattle.rule_set.specs.declared.rule.RuleTag.{RuleTag}
use Rattle.rule_set.specs.Fault.{categories}
use Rattle.rule_set.specs.Rule.{RuleView, RuleSetView}
use Rattle.rule_set.specs.Winner.{is_in_category}
use Rattle.group_states.specs.Levels.{levels_of}
use Rattle.acl_audit.specs.Least.{all_rules}

-- how many categories of each list a half has
abbrev pub half_len : ℕ
half_len = 8

-- a rule of the list of that number, 0 or 1, has the category in the half: it is one of the list's
-- eight, and the rule takes part in the old category that it stands for
abbrev pub is_in_half : ℕ → ℕ → RuleTag → ℕ → Bool
is_in_half half list tag category =
    category / half_len == list && is_in_category tag (half_len * half + category % half_len)

-- the mask of the categories that pass the test
unfoldable pub mask_of : (ℕ → Bool) → ℕ
mask_of test = sum_by (λ category. 2 ^ category) (filter test categories)

-- the rule with its categories of the half, and no others
abbrev pub halved : ℕ → ℕ → RuleView → RuleView
halved half list rule =
    record rule {
      tag = record rule.tag { category_mask = mask_of (is_in_half half list rule.tag) };
    }

-- the rules of a list with their categories of the half, without those that have none
unfoldable pub halved_rules : ℕ → ℕ → List RuleView → List RuleView
halved_rules half list rules =
    filter (λ rule. not (rule.tag.category_mask == 0)) (map (halved half list) rules)

-- half 0 or 1 of two sets: the rules of the first and then those of the second
unfoldable pub half_of : RuleSetView → RuleSetView → ℕ → RuleSetView
half_of one two half = record {
  layout = one.layout;
  rules = halved_rules half 0 one.rules ++ halved_rules half 1 two.rules;
}

-- a rule of the list of that number has the same mask in both halves
abbrev pub has_equal_halves : ℕ → RuleTag → Bool
has_equal_halves list tag = mask_of (is_in_half 0 list tag) == mask_of (is_in_half 1 list tag)

-- each rule of the list has
abbrev pub have_equal_halves : ℕ → List RuleView → Bool
have_equal_halves list rules = list_all (λ rule. has_equal_halves list rule.tag) rules

-- each rule of both sets has
abbrev pub are_halves_equal : RuleSetView → RuleSetView → Bool
are_halves_equal one two = have_equal_halves 0 one.rules && have_equal_halves 1 two.rules

-- there is a rule, and the table of all rules in one group has more words than the budget
abbrev pub exceeds : RuleSetView → ℕ → Bool
exceeds set budget =
    nat_lt 0 (length set.rules) && nat_lt budget (levels_of set (all_rules set)).words

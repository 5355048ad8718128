-- Numbers that order the rules of a set as their ranks do.
use Rattle.std.specs.Prelude.{◌≡◌, ℕ, ℤ, ◌+◌, ◌-◌, ◌*◌, ◌%◌, ◌<◌, pos, unsigned_abs, nat_lt, List, length}
use Rattle.std.specs.Prelude.{map, true, slice_index_or}
use Rattle.std.specs.List.{count_by, range_with_len}
use Rattle.std.specs.Int.Signed.{le_z}
use Rattle.rule_set.specs.Rule.{RuleView}
use Rattle.rule_set.specs.Limits.{max_priority}
use Rattle.table_sizes.specs.Sizes.{max_rules}
use Rattle.rule_set.specs.Among.{priority_at}

-- the priority, and for equal priorities the number of places up to the last
abbrev pub order_key : ℤ → ℕ → ℕ
order_key priority place = unsigned_abs priority * max_rules + (max_rules - 1 - place)

-- the place of the rule that has the number
abbrev pub place_of : ℕ → ℕ
place_of key = max_rules - 1 - key % max_rules

-- each of the numbers tells the place where it stands
abbrev pub TellPlaces : List ℕ → Type 0
TellPlaces keys = (place d : ℕ) → place < length keys →
    place_of (slice_index_or keys place d) ≡ place

-- the numbers of all rules, in order
unfoldable pub keys_of : List RuleView → List ℕ
keys_of rules = map (λ place. order_key (priority_at rules place) place)
    (range_with_len 0 (length rules))

-- 1 plus how many of the numbers are below one
abbrev pub rank_among : List ℕ → ℕ → ℕ
rank_among keys key = 1 + count_by (λ other. nat_lt other key) keys

-- the priority is one that a rule may have
pub record HasLawfulPriority (rule : RuleView) : Type 0 where
  pub not_below : le_z (pos 0) rule.tag.priority ≡ true
  pub not_above : le_z rule.tag.priority (pos max_priority) ≡ true

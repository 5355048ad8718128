-- Which rule wins among some of the rules of a set, which are named by their places: of those that
-- pass a test the first of greatest priority. Winner of all rules: DPDK Programmer's Guide, "Packet
-- Classification and Access Control".
use Rattle.std.specs.Prelude.{ℕ, ℤ, pos, List, filter, slice_get, Bool, false, Option}
use Rattle.std.specs.List.{list_all, find}
use Rattle.std.specs.Option.{option_map_or}
use Rattle.std.specs.Int.Signed.{le_z}
use Rattle.field_defs.specs.declared.field.FieldDef.{FieldDef}
use Rattle.rule_set.specs.Rule.{RuleView}
use Rattle.rule_set.specs.Winner.{applies}

-- there is a rule at the place, and it passes the test
abbrev pub passes_at : (RuleView → Bool) → List RuleView → ℕ → Bool
passes_at test rules place = option_map_or test (slice_get rules place) false

-- the priority of the rule at the place
abbrev pub priority_at : List RuleView → ℕ → ℤ
priority_at rules place = option_map_or (λ rule. rule.tag.priority) (slice_get rules place) (pos 0)

-- none of the places has a rule of greater priority
abbrev pub is_greatest_at : List RuleView → List ℕ → ℕ → Bool
is_greatest_at rules places place =
    list_all (λ other. le_z (priority_at rules other) (priority_at rules place)) places

-- of the rules at the places that pass the test, the place of the first of greatest priority, or
-- none
unfoldable pub best_among : (RuleView → Bool) → List RuleView → List ℕ → Option ℕ
best_among test rules places =
    let passing = filter (passes_at test rules) places in
    find (is_greatest_at rules passing) passing

-- the winner among the rules at the places
abbrev pub winner_among : List FieldDef → List RuleView → List ℕ → List ℕ → ℕ → Option ℕ
winner_among layout rules places key category =
    best_among (applies layout key category) rules places

-- The least key at which a rule wins, keys being compared byte by byte from the first byte on. The
-- winner of a key: DPDK Programmer's Guide, "Packet Classification and Access Control". All bytes
-- are tried here, one place after the other; merged states aren't known.
use Rattle.std.specs.Prelude.{ℕ, ◌==◌, List, [], ◌∷◌, ◌++◌, length, map, Bool, false, Option, Some}
use Rattle.std.specs.Prelude.{None, if◌then◌else◌}
use Rattle.std.specs.List.{range_with_len}
use Rattle.std.specs.Option.{option_map_or}
use Rattle.std.proofs.Common.{zero, suc}
use Rattle.field_defs.specs.Faults.{first_of}
use Rattle.field_defs.specs.Layout.{key_len_of}
use Rattle.rule_set.specs.Fault.{categories}
use Rattle.rule_set.specs.Rule.{RuleSetView}
use Rattle.rule_set.specs.Winner.{winner}
use Rattle.group_states.specs.Found.{all_bytes}

-- the rule of that place is the winner of the key in the category
abbrev pub wins_at : RuleSetView → ℕ → ℕ → List ℕ → Bool
wins_at set rule category key =
    option_map_or (λ place. place == rule) (winner set.layout set.rules key category) false

-- of the keys that begin with these bytes, after which so many are lacking, the least that passes
-- the test, or none
abbrev pub least_from : (List ℕ → Bool) → ℕ → List ℕ → Option (List ℕ)
least_from test zero key = if test key then Some key else None
least_from test (suc lacking) key =
    first_of (map (λ byte. least_from test lacking (key ++ byte ∷ [])) all_bytes)

-- the least key at which the rule wins in the category, or none
unfoldable pub least_key : RuleSetView → ℕ → ℕ → Option (List ℕ)
least_key set rule category = least_from (wins_at set rule category) (key_len_of set.layout) []

-- the same for each rule and each category
unfoldable pub least_keys : RuleSetView → List (List (Option (List ℕ)))
least_keys set =
    map (λ rule. map (least_key set rule) categories) (range_with_len 0 (length set.rules))

-- the numbers of all rules, which are one group
abbrev pub all_rules : RuleSetView → List ℕ
all_rules set = range_with_len 0 (length set.rules)

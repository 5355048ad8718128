-- What a trie answers at the end of a key: for each category the rule that wins (DPDK Programmer's
-- Guide, "Packet Classification and Access Control": of the matching rules the one of greatest
-- priority; here the first of these).
use Rattle.std.specs.Prelude.{ℕ, ◌+◌, List, [], map, Bool, true, not, ◌&&◌, Option, if◌then◌else◌}
use Rattle.std.specs.Int.Signed.{le_z}
use Rattle.std.specs.Option.{option_map_or}
use Rattle.std.specs.Str.{bytes_eq}
use Rattle.rule_set.specs.declared.rule.RuleTag.{RuleTag}
use Rattle.rule_set.specs.Rule.{RuleSetView}
use Rattle.rule_set.specs.Fault.{categories}
use Rattle.rule_set.specs.Winner.{is_in_category}
use Rattle.rule_set.specs.Among.{best_among}
use Rattle.field_defs.specs.Layout.{key_len_of}
use Rattle.group_states.specs.Found.{found_in, prefixes}
use Rattle.group_states.specs.State.{Held, state, is_live}

-- the winner among the rules at these places that are in the category, or none
abbrev pub winner_of : RuleSetView → ℕ → List ℕ → Option ℕ
winner_of set category numbers =
    best_among (λ rule. is_in_category rule.tag category) set.rules numbers

-- a rule of the tag takes part in the category, and has a greater priority than the best so far, if
-- there is one
abbrev pub is_better : RuleTag → Option RuleTag → ℕ → Bool
is_better tag best category =
    is_in_category tag category && option_map_or (λ other. not (le_z tag.priority other.priority))
    best true

-- for each category the winner's number, which is its place in the set plus 1, or 0 for none
unfoldable pub row_of : RuleSetView → List ℕ → List ℕ
row_of set numbers = map (λ category. option_map_or (λ number. number + 1)
    (winner_of set category numbers) 0) categories

-- the final row of a state after a whole key, and none of a dead one
unfoldable pub final_row : RuleSetView → List Held → List ℕ
final_row set whole = if is_live whole then row_of set (map (λ (held : Held). held.number) whole)
    else []

-- the rows of a group, distinct, in the order of the least keys that give them
unfoldable pub rows_of : RuleSetView → List ℕ → List (List ℕ)
rows_of set group = found_in bytes_eq is_live
    (map (λ key. final_row set (state set group key)) (prefixes (key_len_of set.layout)))

-- The state of a group of rules after some bytes of a key. A group is a list of the places that its
-- rules have in the set, ascending. Merging equal states makes the trie of the group (DPDK's
-- `lib/acl`, `acl_bld.c`).
use Rattle.std.specs.Prelude.{ℕ, ◌+◌, ◌==◌, List, [], ◌∷◌, Bool, true, false, ◌&&◌}
use Rattle.std.specs.List.{filter_map}
use Rattle.std.specs.Option.{option_map}
use lib.Pointwise.{pointwise}
use Rattle.rule_set.specs.Rule.{RuleSetView}
use Rattle.node_expand.specs.Rest.{Rest, same_rest}
use Rattle.group_states.specs.RuleRest.{rule_rest, rule_step}

-- A rule that can still match, by its place in the set, and its rest.
pub record Held : Type 0 where
  pub number : ℕ
  pub rest : Rest

-- the rules of the group that have a rest, ascending, each with its rest
unfoldable pub state : RuleSetView → List ℕ → List ℕ → List Held
state set group key = filter_map
    (λ number. option_map (λ r. record { number = number; rest = r }) (rule_rest set number key))
    group

-- the state after one more byte: the rules that it leaves a rest
unfoldable pub state_step : RuleSetView → ℕ → List Held → ℕ → List Held
state_step set place before byte =
    filter_map (λ (held : Held). option_map (λ r. record { number = held.number; rest = r })
    (rule_step set held.number place held.rest byte)) before

-- the state after some more bytes, one after the other
unfoldable pub state_through : RuleSetView → ℕ → List Held → List ℕ → List Held
state_through set place before [] = before
state_through set place before (byte ∷ bytes) =
    state_through set (place + 1) (state_step set place before byte) bytes

-- a list without elements is dead
abbrev pub is_live : {X : Type 0} → List X → Bool
is_live [] = false
is_live (x ∷ xs) = true

-- two states are one: the same rules, each with the same rest
abbrev pub same_state : List Held → List Held → Bool
same_state one other = pointwise (λ (a b : Held). a.number == b.number && same_rest a.rest b.rest)
    one other

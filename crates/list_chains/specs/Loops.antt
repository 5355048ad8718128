-- Loops of jumps: rules that lead from a chain back to it.
use Rattle.std.specs.Prelude.{◌≡◌, ℕ, List, [], ◌∷◌, Option, None, MatchOption}
use Rattle.std.specs.Prelude.{slice_get}
use Rattle.std.specs.Option.{option_map_or}
use Rattle.list_chains.specs.declared.fault.RulePlace.{RulePlace}
use Rattle.list_chains.specs.Chains.{at_or}
use Rattle.list_chains.specs.Jumps.{led_to}
use Rattle.list_chains.specs.Tasks.{Chains}

-- the chain that the rule at a place leads to, if the rule is there and leads to one
abbrev pub led_from : Chains → RulePlace → Option ℕ
led_from chains at =
    option_map_or (λ rule. led_to rule.target) (slice_get (at_or chains at.chain []) at.rule) None

-- Rules lead from a chain to another: the first is of the one chain, and each leads to the chain of
-- the next one, the last to the other chain.
abbrev pub LeadAlong : Chains → ℕ → List RulePlace → ℕ → Type 0
LeadAlong chains from [] to = from ≡ to
LeadAlong chains from (at ∷ places) to =
    (at.chain ≡ from)
    × MatchOption (led_from chains at) ⊥ (λ next. LeadAlong chains next places to)

-- The rule at a place lies on a loop: it and some others lead from its chain back to it.
pub record IsOnLoop (chains : Chains) (at : RulePlace) : Type 0 where
  pub others : List RulePlace
  pub round : LeadAlong chains at.chain (at ∷ others) at.chain

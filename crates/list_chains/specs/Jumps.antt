-- Where jumps lead: to chains that aren't there, back to where they came from, or to an end.
use Rattle.std.specs.Prelude.{ℕ, List, [], length, map, Bool, true, false, not, nat_le}
use Rattle.std.specs.Prelude.{Option, Some, None, if◌then◌else◌, slice_get}
use Rattle.std.specs.Option.{option_map_or}
use Rattle.std.specs.List.{list_all, position_or_len}
use Rattle.std.proofs.Common.{zero, suc}
use Rattle.list_chains.specs.declared.chain.Target.{Target}
use Rattle.list_chains.specs.declared.chain.Target.TheVariants.{Decide, Return, Jump, Go}
use Rattle.list_chains.specs.declared.fault.RulePlace.{RulePlace}
use Rattle.list_chains.specs.declared.fault.ChainsFault.{ChainsFault}
use Rattle.list_chains.specs.declared.fault.ChainsFault.TheVariants.{NoChain, Loop}
use Rattle.list_chains.specs.Chains.{ListRule, at_or}

-- the chain that a target leads to
abbrev pub led_to : Target → Option ℕ
led_to Decide = None
led_to Return = None
led_to (Jump place) = Some place
led_to (Go place) = Some place

-- a rule leads to no chain, or to one that is marked
abbrev pub leads_well : {B : Type 0} → List Bool → ListRule B → Bool
leads_well marks rule = option_map_or (λ place. at_or marks place false) (led_to rule.target) true

-- for each chain: jumps from it lead through at most so many chains, itself counted, and all of
-- them are there
abbrev pub shallow : {B : Type 0} → ℕ → List (List (ListRule B)) → List Bool
shallow zero chains = []
shallow (suc depth) chains = map (list_all (leads_well (shallow depth chains))) chains

-- the place of the first of some rules that leads to a chain without a mark, and how many rules
-- there are if none does
abbrev pub bad_rule : {B : Type 0} → List Bool → List (ListRule B) → ℕ
bad_rule marks rules = position_or_len (λ rule. not (leads_well marks rule)) rules

-- the chain that it leads to
abbrev pub bad_chain : {B : Type 0} → List Bool → List (ListRule B) → Option ℕ
bad_chain marks rules =
    option_map_or (λ rule. led_to rule.target) (slice_get rules (bad_rule marks rules)) None

-- that rule, by the places of both
abbrev pub bad_place : {B : Type 0} → List Bool → ℕ → List (ListRule B) → RulePlace
bad_place marks place rules = record { chain = place; rule = bad_rule marks rules }

-- what a way that goes on to a chain comes to, by what it comes to from each chain
abbrev pub way_on : ℕ → (ℕ → ChainsFault) → RulePlace → Option ℕ → ChainsFault
way_on count onward at None = Loop at
way_on count onward at (Some next) = if nat_le count next then NoChain at else onward next

-- The way from a chain by its first rule that leads to one without a mark, and so on, for so many
-- turns: it comes to a chain that isn't there, or it goes round.
abbrev pub way : {B : Type 0} → ℕ → List (List (ListRule B)) → List Bool → ℕ → ChainsFault
way zero chains marks place = Loop (bad_place marks place (at_or chains place []))
way (suc turns) chains marks place =
    way_on (length chains) (way turns chains marks) (bad_place marks place (at_or chains place []))
    (bad_chain marks (at_or chains place []))

-- the marks of chains from which jumps come to an end: without a loop they lead through no more
-- chains than there are
abbrev pub ending : {B : Type 0} → List (List (ListRule B)) → List Bool
ending chains = shallow (length chains) chains

-- Conditions that are asked anew each time, as those of rates: the same rule may catch a packet
-- once and not at the next turn. What every answer is then, whatever the answers to the questions.
use Rattle.std.specs.Prelude.{◌≡◌, ℕ, List, [], ◌∷◌, map, Bool, true, not, ◌&&◌, ◌||◌}
use Rattle.std.specs.List.{list_any}
use Rattle.std.proofs.Common.{zero, suc}
use Rattle.list_chains.specs.declared.chain.Target.{Target}
use Rattle.list_chains.specs.declared.chain.Target.TheVariants.{Decide, Return, Jump, Go}
use Rattle.list_chains.specs.Chains.{ListRule, at_or}
use Rattle.chain_conditions.specs.Conditions.{Conditional, is_none}
use Rattle.chain_conditions.specs.Laws.{ConditionalChains, decides_by}

-- the packet is in the box, and nothing is asked
abbrev pub holds_surely : {B : Type 0} → (B → Bool) → Conditional B → Bool
holds_surely holds it = holds it.box && is_none it.conditions

-- a packet in the box of the rule may be caught, unless it is left out for sure
abbrev pub may_catch : {B : Type 0} → (B → Bool) → ListRule (Conditional B) → Bool
may_catch holds rule = holds rule.inside.box && not (list_any (holds_surely holds) rule.but)

-- it may be missed, unless it is caught for sure and in no box that is left out
abbrev pub may_miss : {B : Type 0} → (B → Bool) → ListRule (Conditional B) → Bool
may_miss holds rule =
    not (holds_surely holds rule.inside) || list_any (λ it. holds it.box) rule.but

-- every answer passes a test, for packets that a target gets: by each chain, by those that go on
-- after the rule, and by those that leave its chain
abbrev pub target_always : (ℕ → Bool) → List (Bool → Bool) → ℕ → Target → Bool → Bool → Bool
target_always test chains userdata Decide after leave = test userdata
target_always test chains userdata Return after leave = leave
target_always test chains userdata (Jump place) after leave = at_or chains place (λ b. b) after
target_always test chains userdata (Go place) after leave = at_or chains place (λ b. b) leave

-- for packets that come to some rules, by those that leave them
abbrev pub rules_always : {B : Type 0} → (ℕ → Bool) → (B → Bool) → List (Bool → Bool) →
    List (ListRule (Conditional B)) → Bool → Bool
rules_always test holds chains [] leave = leave
rules_always test holds chains (rule ∷ rules) leave =
    (not (may_catch holds rule) || target_always test chains rule.userdata rule.target
    (rules_always test holds chains rules leave) leave)
    && (not (may_miss holds rule) || rules_always test holds chains rules leave)

-- for each chain, where jumps lead through so many chains at most
abbrev pub chains_always : {B : Type 0} → (ℕ → Bool) → (B → Bool) → ℕ → ConditionalChains B →
    List (Bool → Bool)
chains_always test holds zero chains = []
chains_always test holds (suc depth) chains =
    map (rules_always test holds (chains_always test holds depth chains)) chains

-- every answer of a chain with a policy passes the test
abbrev pub always : {B : Type 0} → (ℕ → Bool) → (B → Bool) → ℕ → ConditionalChains B → ℕ → ℕ → Bool
always test holds depth chains place policy =
    at_or (chains_always test holds depth chains) place (λ b. b) (test policy)

-- An answer of any one oracle is among those where each question is asked anew.
abbrev pub AlwaysBoundsOracles : Type 0 → Type 0
AlwaysBoundsOracles B =
    (test : ℕ → Bool) (holds : B → Bool) (depth : ℕ) (chains : ConditionalChains B)
    (place policy : ℕ) →
    always test holds depth chains place policy ≡ true →
    (oracle : ℕ → Bool) → test (decides_by holds oracle depth chains place policy) ≡ true

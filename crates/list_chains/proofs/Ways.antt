-- The way by first rules that lead to chains without a mark, turn by turn.
use Rattle.std.proofs.Common.{◌≡◌, ℕ, zero, suc, ◌-◌, ◌≤◌, ◌<◌, List, [], ◌∷◌, length, get_or, Bool, true, false, Some}
use Rattle.std.proofs.Common.{refl, arith, leb}
use Rattle.std.proofs.lemmas.Bool.{le-leb}
use Rattle.std.proofs.lemmas.Bool.Decides.{leb_tells}
use Rattle.list_chains.specs.declared.fault.ChainsFault.TheVariants.{NoChain}
use Rattle.list_chains.specs.Chains.{at_or}
use Rattle.list_chains.specs.Tasks.{Chains}
use Rattle.list_chains.specs.Jumps.{bad_chain, bad_place, way}

-- the element at a place that is there, with any other past the end
pub at_or_in : {A : Type 0} (xs : List A) (place : ℕ) (other d : A) → place < length xs →
    at_or xs place other ≡ get_or xs place d
at_or_in [] place other d within = absurd (omega (arith, within))
at_or_in (x ∷ xs) zero other d within = refl
at_or_in (x ∷ xs) (suc place) other d within = at_or_in xs place other d (omega (arith, within))

-- a number below another isn't at least that one
not_at_least : (a b : ℕ) → a < b → leb b a ≡ false
not_at_least a b below = grind (arith, leb_tells b a, below)

-- a rule that leads to a chain that isn't there
pub way_leaves : (turns : ℕ) (chains : Chains) (marks : List Bool) (place next : ℕ) → 0 < turns →
    bad_chain marks (at_or chains place []) ≡ Some next → length chains ≤ next →
    way turns chains marks place ≡ NoChain (bad_place marks place (at_or chains place []))
way_leaves zero chains marks place next some is past = absurd (omega (arith, some))
way_leaves (suc turns) chains marks place next some is past =
    let beyond : leb (length chains) next ≡ true = le-leb (length chains) next past in
    rw (is, beyond) refl

-- one that leads on
pub way_goes_on : (turns : ℕ) (chains : Chains) (marks : List Bool) (place next : ℕ) → 0 < turns →
    bad_chain marks (at_or chains place []) ≡ Some next → next < length chains →
    way turns chains marks place ≡ way (turns - 1) chains marks next
way_goes_on zero chains marks place next some is within = absurd (omega (arith, some))
way_goes_on (suc turns) chains marks place next some is within =
    let there : leb (length chains) next ≡ false = not_at_least next (length chains) within in
    let less : suc turns - 1 ≡ turns = omega arith in
    rw (is, there, less) refl

-- Chains of which no line is one that no rule file says.
use Rattle.std.proofs.Common.{◌≡◌, ℕ, zero, suc, List, [], ◌∷◌, length, map, true, not, is_some}
use Rattle.std.proofs.Common.{Option, Some, None, refl, ap, ◌∙◌}
use Rattle.std.specs.List.{list_all}
use Rattle.std.proofs.lemmas.Bool.{and_parts, false≢true}
use Rattle.list_chains.specs.declared.span.Span.{Span}
use Rattle.list_chains.specs.Chains.{ListRule, at_or}
use Rattle.list_chains.specs.Jumps.{led_to}
use Rattle.iptables_reader.specs.declared.fault.LineFault.{LineFault}
use Rattle.iptables_reader.specs.Chains.{ListedChain}
use Rattle.iptables_reader.specs.Reached.{chain_unsaid, earliest, is_said, line_led_to, unsaid_at, unsaid_within}

-- no chain has such a line
abbrev AreNone : List (Option LineFault) → Type 0
AreNone lines = (place : ℕ) → at_or lines place None ≡ None

-- then no target leads to one
led_none : (lines : List (Option LineFault)) → AreNone lines → (led : Option ℕ) → line_led_to lines led ≡ None
led_none lines none None = refl
led_none lines none (Some place) = none place

-- and no rules do
rules_none : (lines : List (Option LineFault)) → AreNone lines → (rules : List (ListRule (List Span)))
    → earliest lines None rules ≡ None
rules_none lines none [] = refl
rules_none lines none (rule ∷ rules) =
    ap (λ line. earliest lines line rules) (led_none lines none (led_to rule.target)) ∙ rules_none lines none rules

-- a chain of itself
own_none : (line : Option LineFault) → not (is_some line) ≡ true → line ≡ None
own_none None e = refl
own_none (Some line) e = absurd (false≢true e)

-- each chain
chains_none : (lines : List (Option LineFault)) → AreNone lines → (chains : List ListedChain)
    → list_all is_said chains ≡ true → AreNone (map (chain_unsaid lines) chains)
chains_none lines none [] all place = refl
chains_none lines none (chain ∷ chains) all zero =
    ap (λ line. earliest lines line chain.rules)
    (own_none chain.unsaid (and_parts (is_said chain) (list_all is_said chains) all).0)
    ∙ rules_none lines none chain.rules
chains_none lines none (chain ∷ chains) all (suc place) =
    chains_none lines none chains (and_parts (is_said chain) (list_all is_said chains) all).1 place

-- through so many chains
within_none : (chains : List ListedChain) → list_all is_said chains ≡ true → (depth : ℕ)
    → AreNone (unsaid_within depth chains)
within_none chains all zero place = refl
within_none chains all (suc depth) place =
    chains_none (unsaid_within depth chains) (within_none chains all depth) chains all place

-- so packets come to none
pub said_from : (chains : List ListedChain) → list_all is_said chains ≡ true → (place : Option ℕ)
    → unsaid_at chains place ≡ None
said_from chains all None = refl
said_from chains all (Some place) = within_none chains all (length chains) place

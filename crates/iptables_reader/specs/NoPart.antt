-- The lines that have no part in a chain: those that no rule file says, of chains that its packets
-- don't come to. What stands in such chains changes no answer.
use Rattle.std.specs.Prelude.{◌≡◌, ℕ, Bool, List, map, length, Some, None}
use Rattle.std.specs.List.{AllZip}
use Rattle.list_chains.specs.declared.span.Span.{Span}
use Rattle.list_chains.specs.Chains.{ListRule, decides}
use Rattle.iptables_reader.specs.Chains.{ListedChain}
use Rattle.iptables_reader.specs.Reached.{unsaid_at}

-- rules are those of the chain, if each line of the chain is said
abbrev pub HasRules : ListedChain → List (ListRule (List Span)) → Type 0
HasRules chain rules = chain.unsaid ≡ None → chain.rules ≡ rules

-- Where packets come to no line that no rule file says, any rules may stand in the chains that have
-- such lines: the answer is the same.
abbrev pub UnsaidLinesHaveNoPart : Type 0
UnsaidLinesHaveNoPart =
    (holds : List Span → Bool) (chains : List ListedChain)
    (others : List (List (ListRule (List Span)))) (place policy : ℕ)
    → AllZip HasRules chains others → unsaid_at chains (Some place) ≡ None
    → decides holds (length chains) (map (λ chain. chain.rules) chains) place policy
    ≡ decides holds (length chains) others place policy

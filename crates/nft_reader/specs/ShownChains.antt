-- What examples compare of chains: names, policies, rules and faults. What rules do to packets of
-- other base chains has examples of its own.
use Rattle.std.specs.Prelude.{ℕ, List, map, Option, Result, Ok, Err}
use Rattle.list_chains.specs.declared.span.Span.{Span}
use Rattle.list_chains.specs.Chains.{ListRule}
use Rattle.nft_reader.specs.declared.fault.ObjectFault.{ObjectFault}
use Rattle.nft_reader.specs.declared.fault.RuleFault.{RuleFault}
use Rattle.nft_reader.specs.Chains.{ListedChain, Names}

-- a chain
pub record ShownChain : Type 0 where
  pub owner : Names
  pub policy : Option ℕ
  pub rules : List (ListRule (List Span))
  pub faults : List RuleFault

-- the same of one that was read
abbrev pub shown_chain : ListedChain → ShownChain
shown_chain chain = record {
  owner = chain.owner;
  policy = chain.policy;
  rules = chain.rules;
  faults = chain.faults;
}

-- of all that were read, or the fault
abbrev pub shown : Result (List ListedChain) ObjectFault → Result (List ShownChain) ObjectFault
shown (Ok chains) = Ok (map shown_chain chains)
shown (Err fault) = Err fault

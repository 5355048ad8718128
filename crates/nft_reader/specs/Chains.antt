-- The chains of a ruleset: each stands in a table of a family, and those that packets come to by
-- themselves have a policy (nft(8), "CHAINS").
use Rattle.std.specs.Prelude.{ℕ, Bool, ◌&&◌, not, is_some, List, [], Option, None}
use Rattle.std.specs.List.{position_from}
use Rattle.std.specs.Str.{bytes_eq}
use Rattle.list_chains.specs.declared.span.Span.{Span}
use Rattle.list_chains.specs.Chains.{ListRule}
use Rattle.nft_reader.specs.declared.chain.Lead.{Lead}
use Rattle.nft_reader.specs.declared.fault.RuleFault.{RuleFault}
use Rattle.nft_reader.specs.declared.hooks.Base.{Base}

-- the name of a chain: its family, its table, and its name there
pub record Names : Type 0 where
  pub family : List ℕ
  pub table : List ℕ
  pub name : List ℕ

-- a chain: its name, its handle, what it is and the answer of its policy if it is a base chain, its
-- rules, and those of them that no rule file says; beside these a rule that may drop packets of
-- other base chains, if it has one, and its rules that lead to chains
pub record ListedChain : Type 0 where
  pub owner : Names
  pub handle : ℕ
  pub base : Option Base
  pub policy : Option ℕ
  pub rules : List (ListRule (List Span))
  pub faults : List RuleFault
  pub stops : Option ℕ
  pub leads : List Lead

-- the names are the same
abbrev pub is_same : Names → Names → Bool
is_same one other =
    bytes_eq one.family other.family && bytes_eq one.table other.table
    && bytes_eq one.name other.name

-- the chain has the name, and no policy where one is meant that rules lead to
abbrev pub is_meant : Bool → Names → ListedChain → Bool
is_meant led owner chain = is_same chain.owner owner && not (led && is_some chain.policy)

-- the place of a chain by its name
abbrev pub place_of : Bool → Names → List ListedChain → Option ℕ
place_of led owner chains = position_from (is_meant led owner) 0 chains

-- a chain where there is none
abbrev pub no_chain : ListedChain
no_chain = record {
  owner = record { family = []; table = []; name = [] };
  handle = 0;
  base = None;
  policy = None;
  rules = [];
  faults = [];
  stops = None;
  leads = [];
}

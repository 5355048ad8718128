-- The chains of a table: each has a name, and those that packets come to by themselves have a
-- policy (iptables(8), "TABLES").
use Rattle.std.specs.Prelude.{ℕ, Bool, ◌&&◌, not, is_some, List, Option}
use Rattle.std.specs.List.{position_from}
use Rattle.std.specs.Str.{bytes_eq}
use Rattle.field_defs.specs.declared.field.Family.{Family}
use Rattle.list_chains.specs.declared.span.Span.{Span}
use Rattle.list_chains.specs.Chains.{ListRule}
use Rattle.iptables_reader.specs.declared.fault.LineFault.{LineFault}
use Rattle.iptables_reader.specs.declared.saved_tables.SavedTable.{SavedTable}

-- a chain: its name, the answer of its policy if it has one, its rules, and its first line that no
-- rule file says
pub record ListedChain : Type 0 where
  pub name : List ℕ
  pub policy : Option ℕ
  pub rules : List (ListRule (List Span))
  pub unsaid : Option LineFault

-- the chain has the name, and no policy where one is meant that rules lead to
abbrev pub is_meant : Bool → List ℕ → ListedChain → Bool
is_meant led name chain = bytes_eq chain.name name && not (led && is_some chain.policy)

-- the place of a chain by its name
abbrev pub place_of : Bool → List ℕ → List ListedChain → Option ℕ
place_of led name chains = position_from (is_meant led name) 0 chains

-- where a rule is read: in a list of packets of a family, of which something is assumed, in a table
-- with these chains, in the chain of a name
pub record RuleSetting : Type 0 where
  pub family : Family
  pub assumed : List ℕ
  pub table : SavedTable
  pub chains : List ListedChain
  pub chain : List ℕ

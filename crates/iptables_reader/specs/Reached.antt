-- The lines that packets of a chain may come to, by jumps from it (iptables(8), "TARGETS"): of
-- these the first that no rule file says. In chains that no jump leads to such lines have no part.
use Rattle.std.specs.Prelude.{ℕ, Bool, false, not, is_some, nat_le, if◌then◌else◌, List, [], ◌∷◌}
use Rattle.std.specs.Prelude.{length, map, Option, Some, None}
use Rattle.std.specs.Prelude.{Result, Ok, Err}
use Rattle.std.proofs.Common.{zero, suc}
use Rattle.list_chains.specs.declared.span.Span.{Span}
use Rattle.list_chains.specs.Chains.{ListRule, at_or}
use Rattle.list_chains.specs.Jumps.{led_to}
use Rattle.iptables_reader.specs.declared.fault.LineFault.{LineFault}
use Rattle.iptables_reader.specs.Chains.{ListedChain, place_of}

-- every line of the chain itself is said by a rule file, or does nothing
abbrev pub is_said : ListedChain → Bool
is_said chain = not (is_some chain.unsaid)

-- the earlier of two lines, or the one that is there
abbrev pub earlier : Option LineFault → Option LineFault → Option LineFault
earlier None other = other
earlier (Some one) None = Some one
earlier (Some one) (Some other) = if nat_le one.line other.line then Some one else Some other

-- the line of the chain that is led to, by those of all chains
abbrev pub line_led_to : List (Option LineFault) → Option ℕ → Option LineFault
line_led_to lines None = None
line_led_to lines (Some place) = at_or lines place None

-- the earliest of a line and those of the chains that rules lead to
abbrev pub earliest : List (Option LineFault) → Option LineFault → List (ListRule (List Span)) →
    Option LineFault
earliest lines line [] = line
earliest lines line (rule ∷ rules) =
    earliest lines (earlier line (line_led_to lines (led_to rule.target))) rules

-- the earliest line of a chain and of those that it leads to, by those of all chains
abbrev pub chain_unsaid : List (Option LineFault) → ListedChain → Option LineFault
chain_unsaid lines chain = earliest lines chain.unsaid chain.rules

-- For each chain the first line that no rule file says, where jumps from it lead through so many
-- chains at most, itself counted.
abbrev pub unsaid_within : ℕ → List ListedChain → List (Option LineFault)
unsaid_within zero chains = []
unsaid_within (suc depth) chains = map (chain_unsaid (unsaid_within depth chains)) chains

-- that line of the chain of a place: without a loop no way goes through more chains than there are
abbrev pub unsaid_at : List ListedChain → Option ℕ → Option LineFault
unsaid_at chains None = None
unsaid_at chains (Some place) = at_or (unsaid_within (length chains) chains) place None

-- that of the chain of a name
abbrev pub unsaid_from : List ℕ → List ListedChain → Option LineFault
unsaid_from name chains = unsaid_at chains (place_of false name chains)

-- the chains, unless there is such a line
abbrev pub unless_unsaid : List ListedChain → Option LineFault →
    Result (List ListedChain) LineFault
unless_unsaid chains None = Ok chains
unless_unsaid chains (Some fault) = Err fault

-- Spans of ports, as they are compared; after `eq` and `neq` stand at most 10 (Cisco IOS Security
-- Command Reference, "permit (IP)", operator and port).
use Rattle.std.specs.Prelude.{ℕ, ◌+◌, ◌-◌, ◌==◌, nat_le, if◌then◌else◌, List, [], ◌∷◌, ◌++◌, length}
use Rattle.std.specs.Prelude.{Option, Some, None, Result, Err}
use Rattle.list_chains.specs.declared.span.Span.{Span}
use Rattle.cisco_reader.specs.declared.fault.LineKind.{LineKind}
use Rattle.cisco_reader.specs.declared.fault.LineKind.TheVariants.{BadPort, ManyPorts}
use Rattle.cisco_reader.specs.Names.{max_port, port_of}
use Rattle.cisco_reader.specs.Read.{After, done}

-- the ports from one to another
abbrev pub ports_between : ℕ → ℕ → List Span
ports_between low high = record { low = low; high = high } ∷ []

-- the ports above one
abbrev pub ports_above : ℕ → List Span
ports_above port = if port == max_port then [] else ports_between (port + 1) max_port

-- the ports below one
abbrev pub ports_below : ℕ → List Span
ports_below port = if port == 0 then [] else ports_between 0 (port - 1)

-- how many ports may stand after eq and neq
abbrev pub max_ports : ℕ
max_ports = 10

-- the ports are all where there is one, and the next word is none
abbrev pub ended : List Span → List (List ℕ) → Result (After (List Span)) LineKind
ended ports words = if length ports == 0 then Err BadPort else done ports words

-- these words follow: a port is one more, if there may be, and another word ends the list
abbrev pub listed_then : List Span → List (List ℕ) → Option ℕ
    → (List Span → Result (After (List Span)) LineKind) → Result (After (List Span)) LineKind
listed_then ports words None following = ended ports words
listed_then ports words (Some number) following =
    if nat_le max_ports (length ports) then Err ManyPorts
    else following (ports ++ ports_between number number)

-- some ports, and those that the next words are
abbrev pub listed : List Span → List (List ℕ) → Result (After (List Span)) LineKind
listed ports [] = ended ports []
listed ports (word ∷ words) =
    listed_then ports (word ∷ words) (port_of word) (λ more. listed more words)

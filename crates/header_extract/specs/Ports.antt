-- The ports with which the packets of some protocols begin (RFC 9293, 3.1, RFC 768 and RFC 9260,
-- 3.1).
use Rattle.std.specs.Prelude.{ℕ, ◌==◌, List, [], ◌∷◌, take, Bool, ◌||◌, Result, Ok, if◌then◌else◌}
use Rattle.header_extract.specs.declared.class.Class.{Class}
use Rattle.header_extract.specs.Class.{at_least, ◌>>=◌}

-- TCP, UDP and SCTP begin with two ports of two bytes each
abbrev pub has_ports : ℕ → Bool
has_ports protocol = protocol == 6 || protocol == 17 || protocol == 132

-- the ports of a packet that shows none
abbrev pub no_ports : List ℕ
no_ports = 0 ∷ 0 ∷ 0 ∷ 0 ∷ []

-- source and destination port, where the protocol has ports, which stand after the headers
abbrev pub ports_of : ℕ → List ℕ → Result (List ℕ) Class
ports_of protocol payload = if has_ports protocol then (do
  bytes ← at_least 4 payload
  Ok (take 4 bytes))
    else Ok no_ports

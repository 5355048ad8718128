-- Examples of groups, each checked by evaluation: what groups of networks and of services hold, and
-- the faults of others.
use Rattle.std.specs.Prelude.{◌≡◌, ℕ, ◌++◌, List, [], ◌∷◌, codes, map, true, false}
use Rattle.std.specs.Prelude.{Option, Some, None, Result, Ok, Err, refl}
use Rattle.std.specs.Fmt.{digits}
use Rattle.list_chains.specs.declared.span.Span.{Span}
use Rattle.cisco_reader.specs.declared.entry.Addresses.TheVariants.{Group}
use Rattle.cisco_reader.specs.declared.entry.Services.TheVariants as of
use Rattle.cisco_reader.specs.declared.services.PortPart.{PortPart}
use Rattle.cisco_reader.specs.declared.services.Protocols.{Protocols}
use Rattle.cisco_reader.specs.declared.services.Protocols.TheVariants.{Between, TcpUdp}
use Rattle.cisco_reader.specs.declared.services.Service.{Service}
use Rattle.cisco_reader.specs.declared.fault.LineFault.{LineFault}
use Rattle.cisco_reader.specs.declared.fault.LineKind.{LineKind}
use Rattle.cisco_reader.specs.declared.fault.LineKind.TheVariants as kind
use Rattle.cisco_reader.specs.Groups.{groups_of}
use Rattle.cisco_reader.specs.Held.{address_spans, opened_times, services_of}
use Rattle.cisco_reader.specs.Names.{number_named, port_table, protocol_table}
use Rattle.cisco_reader.specs.Lines.{are_marked, file_lines, is_marked}
use Rattle.cisco_reader.specs.Read.{◌>>=◌}
use Rattle.cisco_reader.specs.Names.{is_among, part_words}

-- the numbers from one to another
infixl 20 ◌to◌
abbrev ◌to◌ : ℕ → ℕ → Span
low to high = record { low = low; high = high }

-- what the first group of a file holds, where line 9 names it
abbrev first_holds : List ℕ → Result (List Span) LineFault
first_holds text = file_lines text >>= λ lines. (groups_of lines.outside >>= λ groups.
    address_spans groups 9 (Group 0))

-- a fault of a line
abbrev faulty : ℕ → LineKind → Result (List Span) LineFault
faulty line kind = Err (record { line = line; kind = kind })

-- a host, a range, and a network with its mask; descriptions and comments say nothing
members : first_holds (codes "object-group network A\n description some\n host 10.1.0.7\n!\n"
    ++ codes " range 10.0.0.3 10.0.0.5\n 10.2.0.0 255.255.0.0\nhostname edge\n any\n")
    ≡ Ok ((167837703 to 167837703) ∷ (167772163 to 167772165) ∷ (167903232 to 167968767) ∷ [])
unfolding is_marked are_marked digits is_among part_words opened_times
members = refl

-- a network with the length of its prefix, in one word or two
lengths : first_holds (codes "object-group network A\n 10.2.3.4/16\n 10.2.0.0 /24\n")
    ≡ Ok ((167903232 to 167968767) ∷ (167903232 to 167903487) ∷ [])
unfolding is_marked are_marked digits is_among part_words opened_times
lengths = refl

-- a group in a group stands for its members, also if it begins later and goes on
inner : first_holds (codes "object-group network A\n group-object B\n host 10.0.0.1\n"
    ++ codes "object-group network B\n host 10.0.0.2\nobject-group network A\n host 10.0.0.3\n"
    ++ codes "object-group network B\n host 10.0.0.4\n")
    ≡ Ok ((167772162 to 167772162) ∷ (167772164 to 167772164) ∷ (167772161 to 167772161)
    ∷ (167772163 to 167772163) ∷ [])
unfolding is_marked are_marked digits is_among part_words opened_times
inner = refl

-- files whose first group has a fault
abbrev are_unheld : List (List ℕ × ℕ × LineKind) → Type 0
are_unheld rows = map (λ row. first_holds row.0) rows ≡ map (λ row. faulty row.1 row.2) rows

unheld : are_unheld ((
  codes "object-group network A\n group-object B\n"
      ++ codes "object-group network B\n group-object A\n",
  2,
  kind.GroupLoop,
)
    ∷ (codes "object-group network A\n group-object B\n", 2, kind.NoGroup)
    ∷ (
      codes "object-group network A\n group-object B\n"
          ++ codes "object-group service B\n tcp\n",
      2,
      kind.OtherKind,
    )
    ∷ (codes "object-group network A\n description none\n", 9, kind.EmptyGroup)
    ∷ (codes "object-group network A\n host 10.0.0.1\n no host 10.0.0.1\n", 3, kind.TakenOut)
    ∷ (codes "object-group network A\n 10.0.0.0 0.0.0.255\n", 2, kind.BadNetworkMask)
    ∷ (codes "object-group network A\n 10.0.0.1 255.255.255.0\n", 2, kind.BadNetworkMask)
    ∷ (codes "object-group network\n", 1, kind.BadGroup)
    ∷ (codes "object-group network A\nobject-group service A\n", 2, kind.KindTwice)
    ∷ [])
unfolding is_marked are_marked digits is_among part_words opened_times
unheld = refl

-- ---- services

-- what the first group of a file serves, where line 9 names it
abbrev first_serves : List ℕ → Result (List Service) LineFault
first_serves text = file_lines text >>= λ lines. (groups_of lines.outside >>= λ groups.
    services_of groups 9 (of.Group 0))

-- protocols, with ports of the source and of the destination
abbrev service : Protocols → Option PortPart → Option PortPart → Service
service protocols source destination =
    record { protocols = protocols; source = source; destination = destination }

-- ports, and all ports but one
abbrev ports : List Span → Option PortPart
ports spans = Some (record { negated = false; ports = spans })

-- all ports but some
abbrev but : List Span → Option PortPart
but spans = Some (record { negated = true; ports = spans })

-- a fault of a line
abbrev unserved : ℕ → LineKind → Result (List Service) LineFault
unserved line kind = Err (record { line = line; kind = kind })

-- a port alone or after a comparison, those of the source after `source`, and two protocols in one
services : first_serves (codes "object-group service S\n description some\n tcp www\n"
    ++ codes " udp source gt 1023 range 53 80\n tcp-udp eq domain\n tcp source neq 22\n 132 lt 9\n")
    ≡ Ok (service (Between (6 to 6)) None (ports ((80 to 80) ∷ []))
    ∷ service (Between (17 to 17)) (ports ((1024 to 65535) ∷ [])) (ports ((53 to 80) ∷ []))
    ∷ service TcpUdp None (ports ((53 to 53) ∷ []))
    ∷ service (Between (6 to 6)) (but ((22 to 22) ∷ [])) None
    ∷ service (Between (132 to 132)) None (ports ((0 to 8) ∷ [])) ∷ [])
unfolding is_marked are_marked digits is_among part_words opened_times
    number_named port_table protocol_table
services = refl

-- protocols without ports, and a group in the group
protocols : first_serves (codes "object-group service S\n ip\n group-object T\n 50\n"
    ++ codes "object-group service T\n icmp\n esp\n")
    ≡ Ok (service (Between (0 to 255)) None None ∷ service (Between (1 to 1)) None None
    ∷ service (Between (50 to 50)) None None ∷ service (Between (50 to 50)) None None ∷ [])
unfolding is_marked are_marked digits is_among part_words opened_times
    number_named port_table protocol_table
protocols = refl

-- the same of groups of services
abbrev are_refused : List (List ℕ × ℕ × LineKind) → Type 0
are_refused rows = map (λ row. first_serves row.0) rows ≡ map (λ row. unserved row.1 row.2) rows

refused : are_refused (
    (codes "object-group service S\n icmp echo\n", 2, kind.IcmpType)
    ∷ (codes "object-group service S\n tcp\n tcp eq 80 443\n", 3, kind.UnknownWord)
    ∷ (codes "object-group service S\n esp 80\n", 2, kind.NeedsProtocol)
    ∷ (codes "object-group service S\n tcp source\n", 2, kind.MissingWord)
    ∷ (
      codes "object-group service S\n group-object T\n"
          ++ codes "object-group network T\n any\n",
      2,
      kind.OtherKind,
    )
    ∷ (codes "object-group service S\n tcp\n group-object S\n", 3, kind.GroupLoop)
    ∷ [])
unfolding is_marked are_marked digits is_among part_words opened_times
    number_named port_table protocol_table
refused = refl

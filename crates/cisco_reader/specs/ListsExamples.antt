-- Examples of configurations, each checked by evaluation: lists as devices write them, what their
-- entries say, and the faults of others. Masks have examples of their own.
use Rattle.std.specs.Prelude.{◌≡◌, ℕ, ◌++◌, List, [], ◌∷◌, codes, map, true, false}
use Rattle.std.specs.Prelude.{Some, None, Result, Ok, Err, refl}
use Rattle.std.specs.Fmt.{digits}
use Rattle.list_chains.specs.declared.span.Span.{Span}
use Rattle.cisco_reader.specs.declared.entry.Addresses.TheVariants.{Under}
use Rattle.cisco_reader.specs.declared.entry.Services.TheVariants.{Group, Own}
use Rattle.cisco_reader.specs.declared.entry.Side.{Side}
use Rattle.cisco_reader.specs.declared.entry.Verdict.{Verdict}
use Rattle.cisco_reader.specs.declared.entry.Verdict.TheVariants.{Permit, Deny}
use Rattle.cisco_reader.specs.declared.fault.LineFault.{LineFault}
use Rattle.cisco_reader.specs.declared.fault.LineKind.{LineKind}
use Rattle.cisco_reader.specs.declared.fault.LineKind.TheVariants as kind
use Rattle.cisco_reader.specs.declared.services.Protocols.TheVariants.{Between}
use Rattle.cisco_reader.specs.declared.list.Placed.{Placed}
use Rattle.cisco_reader.specs.Groups.{groups_of}
use Rattle.cisco_reader.specs.Lines.{are_marked, file_lines, is_marked}
use Rattle.cisco_reader.specs.Lists.{entries_of}
use Rattle.cisco_reader.specs.Names.{number_named, port_table, protocol_table}
use Rattle.cisco_reader.specs.Read.{◌>>=◌}
use Rattle.cisco_reader.specs.Names.{compared_words, entry_words, is_among, log_words, part_words}

-- the numbers from one to another
infixl 20 ◌to◌
abbrev ◌to◌ : ℕ → ℕ → Span
low to high = record { low = low; high = high }

-- all addresses
abbrev any : Side
any = record { addresses = Under (record { base = 0; free = 4294967295 }); ports = None }

-- one address
abbrev host : ℕ → Side
host address = record { addresses = Under (record { base = address; free = 0 }); ports = None }

-- the same with ports
abbrev ported : Side → List Span → Side
ported side ports = record side { ports = Some (record { negated = false; ports = ports }) }

-- all ports but some
abbrev but : Side → List Span → Side
but side ports = record side { ports = Some (record { negated = true; ports = ports }) }

-- an entry by its number, its line, and what it says
abbrev entry : ℕ → ℕ → Verdict → Span → Side → Side → Placed
entry sequence line verdict protocol source destination = record {
  sequence = sequence;
  line = line;
  entry = record {
    verdict = verdict;
    services = Own (record {
      protocols = Between protocol;
      source = source.ports;
      destination = destination.ports;
    });
    source = source.addresses;
    destination = destination.addresses;
  };
}

-- what the list of a name says
abbrev said_of : List ℕ → List ℕ → Result (List Placed) LineFault
said_of name text = file_lines text >>= λ lines. (groups_of lines.outside >>= λ groups.
    entries_of groups name lines)

-- a file whose list A has an entry in its second line
abbrev in_list : List ℕ → List ℕ
in_list line = codes "ip access-list extended A\n " ++ line ++ codes "\n"

-- a fault of a line
abbrev faulty : ℕ → LineKind → Result (List Placed) LineFault
faulty line kind = Err (record { line = line; kind = kind })

-- files, the list that is asked for, and what it says
abbrev are_said : List (List ℕ × List ℕ × List Placed) → Type 0
are_said rows = map (λ row. said_of row.0 row.1) rows ≡ map (λ row. Ok row.2) rows

lists : are_said (
    -- numbered: the entries are those of list 101 alone
    (
      codes "101",
      codes "access-list 101 permit tcp host 10.1.0.7 any eq 22\n"
          ++ codes "access-list 102 deny ip any any\naccess-list 101 remark the rest is refused\n"
          ++ codes "access-list 101 deny   udp any any eq ntp\n",
      entry 10 1 Permit (6 to 6) (host 167837703) (ported any ((22 to 22) ∷ []))
          ∷ entry 20 4 Deny (17 to 17) any (ported any ((123 to 123) ∷ [])) ∷ [],
    )
    -- named: entries stand in the order of their numbers, and one without comes last
    ∷ (
      codes "A",
      codes "ip access-list extended A\n20 permit tcp any any\n"
          ++ codes "10 permit udp any any\n permit gre any any\n",
      entry 10 3 Permit (17 to 17) any any ∷ entry 20 2 Permit (6 to 6) any any
          ∷ entry 30 4 Permit (47 to 47) any any ∷ [],
    )
    -- comments and other parts say nothing
    ∷ (
      codes "A",
      codes "hostname edge\r\n!\r\ninterface Gi0/0\r\n ip access-group A in\r\n"
          ++ codes "ip access-list extended A\r\n!\r\n permit ip any any\r\nend\r\n",
      entry 10 7 Permit (0 to 255) any any ∷ [],
    )
    -- a banner says nothing, up to where its mark stands again, nor does a macro
    ∷ (
      codes "A",
      codes "banner motd ^C\n some text #\nhostname edge ^Cend\nbanner login #one line#\n"
          ++ codes "macro name ports\nswitchport mode access\n@\n"
          ++ codes "ip access-list extended A\n permit gre any any\n",
      entry 10 9 Permit (47 to 47) any any ∷ [],
    )
    -- ports by name and by number after eq
    ∷ (
      codes "A",
      in_list (codes "permit tcp any host 192.0.2.10 eq www 443"),
      entry 10 2 Permit (6 to 6) any
          (ported (host 3221225994) ((80 to 80) ∷ (443 to 443) ∷ [])) ∷ [],
    )
    -- the ports after neq are left out
    ∷ (
      codes "A",
      in_list (codes "permit tcp any neq telnet any log-input Cookie"),
      entry 10 2 Permit (6 to 6) (but any ((23 to 23) ∷ [])) any ∷ [],
    )
    -- ports above, below and between others
    ∷ (
      codes "A",
      in_list (codes "permit udp any gt 1023 any range 53 80"),
      entry 10 2 Permit (17 to 17) (ported any ((1024 to 65535) ∷ []))
          (ported any ((53 to 80) ∷ [])) ∷ [],
    )
    -- no port is below 0
    ∷ (
      codes "A",
      in_list (codes "deny tcp any lt 1024 any lt 0"),
      entry 10 2 Deny (6 to 6) (ported any ((0 to 1023) ∷ [])) (ported any []) ∷ [],
    )
    -- the services are those of a group
    ∷ (
      codes "A",
      codes "object-group service S\n tcp www\nip access-list extended A\n"
          ++ codes " permit object-group S any host 10.1.0.7 log\n",
      record {
        sequence = 10;
        line = 4;
        entry = record {
          verdict = Permit;
          services = Group 0;
          source = any.addresses;
          destination = (host 167837703).addresses;
        };
      } ∷ [],
    )
    ∷ [])
unfolding is_marked are_marked digits is_among number_named port_table protocol_table
    compared_words log_words entry_words part_words
lists = refl

-- ---- faults

-- files with a fault, and the list that is asked for
abbrev are_faulty_files : List (List ℕ × List ℕ × ℕ × LineKind) → Type 0
are_faulty_files rows = map (λ row. said_of row.0 row.1) rows ≡ map (λ row. faulty row.2 row.3) rows

faulty_files : are_faulty_files (
    (codes "A", in_list (codes "permit tcp any any established"), 2, kind.Compares)
    ∷ (codes "A", in_list (codes "permit icmp any any log 8"), 2, kind.IcmpType)
    ∷ (codes "A", in_list (codes "permit ip 10.0.0.1 any"), 2, kind.BadMask)
    ∷ (codes "A", in_list (codes "permit tcp any any eq 65536"), 2, kind.BadPort)
    ∷ (codes "A", in_list (codes "permit ip any any eq 80"), 2, kind.NeedsProtocol)
    ∷ (
      codes "A",
      in_list (codes "10 permit tcp any any\n 10 deny ip any any"),
      3,
      kind.SequenceTwice,
    )
    ∷ (
      codes "A",
      in_list (codes "permit tcp any any\nno ip access-list extended A"),
      3,
      kind.TakenOut,
    )
    ∷ (
      codes "A",
      codes "object-group service S\n tcp\nip access-list extended A\n"
          ++ codes " permit object-group S any any eq 80\n",
      4,
      kind.Group,
    )
    ∷ (
      codes "A",
      codes "object-group network N\n any\nip access-list extended A\n"
          ++ codes " permit object-group N any any\n",
      4,
      kind.OtherKind,
    )
    ∷ (codes "A", codes "ip access-list standard A\n permit 10.0.0.1\n", 1, kind.NotExtended)
    ∷ (codes "A", codes "ip access-list extended A\nexit\n permit ip any any\n", 3, kind.StrayEntry)
    ∷ (codes "A", codes "some text\n", 1, kind.UnknownLine)
    ∷ (codes "A", codes "banner motd #\ntext\n permit ip any any\n#\n", 3, kind.BadText)
    ∷ (codes "A", codes "hostname edge\nbanner exec @ text\nend\n", 2, kind.BadText)
    ∷ (codes "101", codes "macro name m\naccess-list 101 permit ip any any\n@\n", 2, kind.BadText)
    ∷ (codes "A", codes "ip access-list extended B\n permit ip any any\n", 2, kind.NoList)
    ∷ (codes "101", codes "access-list 101 permit tcp any any\n eq 443\n", 2, kind.Wrapped)
    ∷ (codes "OUT", codes "access-list OUT extended permit ip any any\n", 1, kind.BadList)
    ∷ [])
unfolding is_marked are_marked digits is_among number_named port_table protocol_table
    compared_words log_words entry_words part_words
faulty_files = refl

-- Examples at each limit of a configuration, each checked by evaluation.
use Rattle.std.specs.Prelude.{◌≡◌, ℕ, ◌+◌, ◌++◌, List, [], ◌∷◌, codes, nat_lt, true, false, is_ok}
use Rattle.std.specs.Prelude.{Result, Ok, Err, refl, replicate}
use Rattle.std.specs.Fmt.{decimal, digits}
use Rattle.std.specs.List.{flat_map, range_with_len}
use Rattle.list_chains.specs.declared.span.Span.{Span}
use Rattle.cisco_reader.specs.declared.entry.Addresses.TheVariants.{Group}
use Rattle.cisco_reader.specs.declared.fault.LineFault.{LineFault}
use Rattle.cisco_reader.specs.declared.fault.LineKind.TheVariants.{GroupLoop, LargeGroup, ManyPorts}
use Rattle.cisco_reader.specs.Groups.{groups_of}
use Rattle.cisco_reader.specs.Held.{address_spans, few, opened_times}
use Rattle.cisco_reader.specs.Lines.{are_marked, file_lines, is_marked, no_line}
use Rattle.cisco_reader.specs.Names.{is_among, number_named, part_words, port_table}
use Rattle.cisco_reader.specs.Packets.{max_list}
use Rattle.cisco_reader.specs.PortList.{listed, ports_between}
use Rattle.cisco_reader.specs.Read.{◌>>=◌, done}

-- ---- ports after `eq` and `neq`: at most 10

ten_ports : listed [] (replicate 10 (codes "7"))
    ≡ done (flat_map (λ _. ports_between 7 7) (range_with_len 0 10)) []
unfolding digits number_named port_table
ten_ports = refl

eleven_ports : listed [] (replicate 11 (codes "7")) ≡ Err ManyPorts
unfolding digits number_named port_table
eleven_ports = refl

-- ---- members that a group holds: at most 65,536

so_many_members : is_ok (few 9 (replicate 65536 no_line)) ≡ true
so_many_members = refl

one_member_more : few 9 (replicate 65537 no_line) ≡ Err (record { line = 9; kind = LargeGroup })
one_member_more = refl

-- ---- groups in groups: at most 100 deep

-- groups of which each lies in the one before, the last of which holds a host
chained : ℕ → List ℕ
chained deep =
    flat_map (λ place. codes "object-group network G" ++ decimal place ++ codes "\n group-object G"
    ++ decimal (place + 1) ++ codes "\n") (range_with_len 0 deep)
    ++ codes "object-group network G" ++ decimal deep ++ codes "\n host 10.0.0.1\n"

-- what the first group of these holds, where line 9 names it
abbrev chained_hold : ℕ → Result (List Span) LineFault
chained_hold deep = file_lines (chained deep) >>= λ lines. (groups_of lines.outside >>= λ groups.
    address_spans groups 9 (Group 0))

a_hundred_deep : chained_hold 100 ≡ Ok (record { low = 167772161; high = 167772161 } ∷ [])
unfolding chained is_marked are_marked digits is_among part_words opened_times
a_hundred_deep = refl

one_deeper : chained_hold 101 ≡ Err (record { line = 202; kind = GroupLoop })
unfolding chained is_marked are_marked digits is_among part_words opened_times
one_deeper = refl

-- ---- bytes of a configuration: at most 16,777,216

so_many_bytes : nat_lt max_list 16777216 ≡ false
so_many_bytes = refl

one_byte_more : nat_lt max_list 16777217 ≡ true
one_byte_more = refl

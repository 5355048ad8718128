-- Sets of addresses as spans of their two halves of 64 bits.
use Rattle.std.specs.Prelude.{ℕ, ◌+◌, ◌-◌, ◌/◌, ◌%◌, ◌^◌, ◌==◌, ◌||◌, nat_lt, if◌then◌else◌}
use Rattle.std.specs.Prelude.{List, [], ◌∷◌, ◌++◌, Option, Some, None}
use Rattle.std.specs.Option.{option_to_list}
use Rattle.text_scan.specs.Parts.{parts_of}
use Rattle.field_defs.specs.declared.field.Family.{Family}
use Rattle.list_packets.specs.declared.address_sets.AddressSet.{AddressSet}
use Rattle.list_packets.specs.declared.address_sets.AddressSet.TheVariants as set
use Rattle.list_packets.specs.declared.values.AddressRange.{AddressRange}
use Rattle.list_packets.specs.declared.values.AddressSpans.{AddressSpans}
use Rattle.list_packets.specs.Assumed.{locals_in, loopback}
use Rattle.list_packets.specs.Values.{comma, ip4_spans, max_count}

-- the addresses of a high half whose low half is from one to another
abbrev pub only : ℕ → ℕ → ℕ → AddressSpans
only half low high = record {
  high = record { low = half; high = half };
  low = record { low = low; high = high };
}

-- the addresses whose high half lies between two others, if there are any
abbrev pub between : ℕ → ℕ → Option AddressSpans
between first last =
    if nat_lt last 2 || nat_lt (last - 2) first then None
    else Some (record {
      high = record { low = first + 1; high = last - 1 };
      low = record { low = 0; high = max_count };
    })

-- The addresses of a range: one box of halves where the high halves are the same. Else those with
-- the first high half, those with one between, and those with the last.
abbrev pub range_spans : AddressRange → List AddressSpans
range_spans range =
    let first = range.low / 2 ^ 64 in
    let last = range.high / 2 ^ 64 in
    if first == last then only first (range.low % 2 ^ 64) (range.high % 2 ^ 64) ∷ []
    else only first (range.low % 2 ^ 64) max_count
    ∷ option_to_list (between first last) ++ only last 0 (range.high % 2 ^ 64) ∷ []

-- 224.0.0.0/4
abbrev pub multicast_spans : AddressSpans
multicast_spans = ip4_spans 3758096384 4

-- the spans of a set, under what is assumed
abbrev pub set_spans : Family → List ℕ → AddressSet → List AddressSpans
set_spans family assumed (set.Network spans) = spans ∷ []
set_spans family assumed (set.Range range) = range_spans range
set_spans family assumed set.Local = loopback family ∷ locals_in family (parts_of comma assumed)
set_spans family assumed set.Multicast = multicast_spans ∷ []
set_spans family assumed set.Unsaid = []

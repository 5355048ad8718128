-- What a group holds: the lines of its members, in which a group is replaced by its own lines, over
-- and over; and what they stand for. A group that is still there after so many times lies within
-- itself, or in more groups than are read. A member of a group of networks is `any`, a host, a
-- range, or a network with the length of its prefix or its mask (Cisco IOS Security Command
-- Reference, "object-group network"). Set bits of that mask stand at the left and count, other than
-- those of a wildcard mask.
use Rattle.std.specs.Prelude.{ℕ, ◌+◌, ◌-◌, ◌*◌, ◌/◌, ◌^◌, ◌==◌, Bool, not, ◌&&◌, nat_le, nat_lt, if◌then◌else◌, codes, bit_and}
use Rattle.std.specs.Prelude.{List, [], ◌∷◌, ◌++◌, length, slice_index_or, Option, Some, None, Result, Ok, Err}
use Rattle.std.proofs.Common.{zero, suc}
use Rattle.std.specs.List.{position}
use Rattle.std.specs.Str.{bytes_eq}
use Rattle.text_scan.specs.Parts.{slash, cut_at}
use Rattle.list_chains.specs.declared.span.Span.{Span}
use Rattle.cisco_reader.specs.declared.entry.Addresses.{Addresses}
use Rattle.cisco_reader.specs.declared.entry.Addresses.TheVariants as addresses
use Rattle.cisco_reader.specs.declared.entry.Services.{Services}
use Rattle.cisco_reader.specs.declared.entry.Services.TheVariants as services
use Rattle.cisco_reader.specs.declared.services.Service.{Service}
use Rattle.cisco_reader.specs.declared.fault.LineFault.{LineFault}
use Rattle.cisco_reader.specs.declared.fault.LineKind.{LineKind}
use Rattle.cisco_reader.specs.declared.fault.LineKind.TheVariants as fault
use Rattle.cisco_reader.specs.Entry.{address_word, all_ones}
use Rattle.cisco_reader.specs.Groups.{ListedGroup, no_group, place_for}
use Rattle.cisco_reader.specs.Lines.{TextLine, no_line, words_in}
use Rattle.cisco_reader.specs.Names.{number_of}
use Rattle.cisco_reader.specs.Read.{After, ◌>>=◌, ◌>>-◌, all_after, alone, done, found, in_line, is_next, required, rest_of}
use Rattle.cisco_reader.specs.Services.{service_of_words}
use Rattle.cisco_reader.specs.Wildcard.{ip4_plain, spans_under}

-- how many members a group may hold, with those of the groups in it
abbrev pub max_held : ℕ
max_held = 65536

-- in how many others a group may lie
abbrev pub max_depth : ℕ
max_depth = 100

-- ---- lines

-- a group that is named has members
abbrev pub filled : List TextLine → Result (List TextLine) LineKind
filled [] = Err fault.EmptyGroup
filled (line ∷ lines) = Ok (line ∷ lines)

-- the lines of the group of a place
abbrev pub lines_at : List ListedGroup → ℕ → Result (List TextLine) LineKind
lines_at groups place = filled (slice_index_or groups place no_group).lines

-- the lines of the group that one word names, which is of the same kind
abbrev pub inner_lines : List ListedGroup → List ℕ → List (List ℕ)
    → Result (List TextLine) LineKind
inner_lines groups kind words = required words >>- λ name rest. (alone rest name >>=
    place_for groups kind >>= lines_at groups)

-- a line, or those of the group that it names
abbrev pub opened : List ListedGroup → List ℕ → TextLine → Result (List TextLine) LineFault
opened groups kind line =
    if is_next (codes "group-object") (words_in line)
    then in_line line.number (inner_lines groups kind (rest_of (words_in line)))
    else Ok (line ∷ [])

-- some lines, if they aren't too many
abbrev pub few : ℕ → List TextLine → Result (List TextLine) LineFault
few number lines =
    if nat_lt max_held (length lines) then Err (record { line = number; kind = fault.LargeGroup })
    else Ok lines

-- the lines so far with those of a line
abbrev pub with_opened : List ListedGroup → List ℕ → ℕ → List TextLine → TextLine
    → Result (List TextLine) LineFault
with_opened groups kind number so_far line =
    opened groups kind line >>= λ more. few number (so_far ++ more)

-- lines, each replaced by those of the group that it names
abbrev pub all_opened : List ListedGroup → List ℕ → ℕ → List TextLine
    → Result (List TextLine) LineFault
all_opened groups kind number lines = all_after (with_opened groups kind number) [] lines

-- the place of the first line that names a group
abbrev pub first_naming : List TextLine → Option ℕ
first_naming lines =
    position (λ (line : TextLine). is_next (codes "group-object") (words_in line)) lines

-- the number of the line of a place
abbrev pub number_at : List TextLine → ℕ → ℕ
number_at lines place = (slice_index_or lines place no_line).number

-- lines, unless one of them names a group: then what follows
abbrev pub unless_naming : List TextLine → Option ℕ
    → (ℕ → Result (List TextLine) LineFault) → Result (List TextLine) LineFault
unless_naming lines None following = Ok lines
unless_naming lines (Some place) following = following place

-- lines in which groups were replaced so many times at most
unfoldable pub opened_times : ℕ → List ListedGroup → List ℕ → ℕ → List TextLine
    → Result (List TextLine) LineFault
opened_times zero groups kind number lines = unless_naming lines (first_naming lines)
    (λ place. Err (record { line = number_at lines place; kind = fault.GroupLoop }))
opened_times (suc times) groups kind number lines = unless_naming lines (first_naming lines)
    (λ place. all_opened groups kind number lines >>= opened_times times groups kind number)

-- the lines of all members that a group holds, which a line names
abbrev pub held : List ListedGroup → List ℕ → ℕ → ℕ → Result (List TextLine) LineFault
held groups kind number place =
    in_line number (lines_at groups place) >>= opened_times max_depth groups kind number

-- ---- members of groups of networks

-- the addresses from one to another
abbrev pub addresses_between : ℕ → ℕ → Span
addresses_between low high = record { low = low; high = high }

-- the addresses that agree with one in all but their last bits
abbrev pub prefix_span : ℕ → ℕ → Span
prefix_span address free = addresses_between
    (address / 2 ^ free * 2 ^ free) (address / 2 ^ free * 2 ^ free + (2 ^ free - 1))

-- the bits that a mask of a network leaves: those that it hasn't stand at the right, and aren't all
abbrev pub is_network_mask : ℕ → Bool
is_network_mask mask = bit_and (all_ones - mask) (all_ones - mask + 1) == 0 && not (mask == 0)

-- the addresses of a network, in which the bits after the mask are 0
abbrev pub masked_span : ℕ → ℕ → Result Span LineKind
masked_span address mask =
    if is_network_mask mask && bit_and address (all_ones - mask) == 0
    then Ok (addresses_between address (address + (all_ones - mask))) else Err fault.BadNetworkMask

-- the length of a prefix after its slash
abbrev pub prefixed : ℕ → List ℕ → Result Span LineKind
prefixed address text = found fault.BadNetworkMask (number_of 32 text) >>= λ bits.
    Ok (prefix_span address (32 - bits))

-- what may stand after an address: the length of its prefix after a slash, or its mask
abbrev pub length_or_mask : ℕ → List ℕ → Result Span LineKind
length_or_mask address [] = Err fault.BadNetworkMask
length_or_mask address (c ∷ cs) =
    if c == slash then prefixed address cs
    else (found fault.BadNetworkMask (ip4_plain (c ∷ cs)) >>= masked_span address)

-- an address and what stands after it, or nothing
abbrev pub network_of : ℕ → List (List ℕ) → Result (After Span) LineKind
network_of address [] = done (addresses_between address address) []
network_of address (word ∷ words) = length_or_mask address word >>= λ span. done span words

-- an address with the length of its prefix in one word, or one that another word may follow
abbrev pub plain_member : List ℕ → List (List ℕ) → Option (List ℕ × List ℕ)
    → Result (After Span) LineKind
plain_member word words None =
    found fault.BadAddress (ip4_plain word) >>= λ address. network_of address words
plain_member word words (Some cut) = found fault.BadAddress (ip4_plain cut.0) >>= λ address.
    (prefixed address cut.1 >>= λ span. done span words)

-- both addresses of a range
abbrev pub range_of : List (List ℕ) → Result (After Span) LineKind
range_of words = required words >>- λ low rest. (required rest >>- λ high left.
    (found fault.BadAddress (ip4_plain low) >>= λ first.
    (found fault.BadAddress (ip4_plain high) >>= λ last.
    (if nat_le first last then done (addresses_between first last) left
    else Err fault.BadAddress))))

-- the addresses of a member of a group of networks that begins with a word
abbrev pub network_member : List ℕ → List (List ℕ) → Result (After Span) LineKind
network_member word words =
    if bytes_eq word (codes "any") then done (addresses_between 0 all_ones) words
    else (if bytes_eq word (codes "host")
    then (address_word fault.BadAddress words >>- λ address rest.
    done (addresses_between address address) rest)
    else (if bytes_eq word (codes "range") then range_of words
    else plain_member word words (cut_at slash word)))

-- the addresses of a member, after which nothing stands
abbrev pub network_of_words : List (List ℕ) → Result Span LineKind
network_of_words words = required words >>- λ word rest.
    (network_member word rest >>- λ span left. alone left span)

-- ---- what members stand for

-- what was read of members so far, and of one more, each by its words
abbrev pub with_member : {A : Type 0} → (List (List ℕ) → Result A LineKind) → List A → TextLine
    → Result (List A) LineFault
with_member read so_far line =
    in_line line.number (read (words_in line)) >>= λ it. Ok (so_far ++ it ∷ [])

-- what is read of members
abbrev pub members : {A : Type 0} → (List (List ℕ) → Result A LineKind) → List TextLine
    → Result (List A) LineFault
members read lines = all_after (with_member read) [] lines

-- the addresses of an entry's side, which stands in a line
abbrev pub address_spans : List ListedGroup → ℕ → Addresses → Result (List Span) LineFault
address_spans groups number (addresses.Under it) = Ok (spans_under it)
address_spans groups number (addresses.Group place) =
    held groups (codes "network") number place >>= members network_of_words

-- the services of an entry, which stands in a line
abbrev pub services_of : List ListedGroup → ℕ → Services → Result (List Service) LineFault
services_of groups number (services.Own it) = Ok (it ∷ [])
services_of groups number (services.Group place) =
    held groups (codes "service") number place >>= members service_of_words

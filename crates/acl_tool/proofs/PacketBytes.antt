-- The packets of a capture of bytes are of bytes, and as long as their classes say.
use Rattle.std.proofs.Common.{◌≡◌, ℕ, zero, suc, ◌+◌, ◌*◌, ◌==◌, ◌<◌, ◌≤◌, List, [], ◌∷◌, ◌++◌, length, take}
use Rattle.std.proofs.Common.{drop, map, Bool, true, false, Result, Ok, Err, All, refl, sym, ap}
use Rattle.std.proofs.Common.{arith, length-append, subst}
use Rattle.std.specs.Prelude.{⊤, nat_le, nat_lt, slice_index, if◌then◌else◌}
use Rattle.std.specs.List.{AllByRecursion}
use Rattle.std.proofs.lemmas.Bool.{leb-true}
use Rattle.std.proofs.lemmas.List.{length-take-le, length-drop}
use Rattle.std.proofs.lemmas.List.Elements.{All-append, All-cons, All-drop, All-from_recursion, All-nil, All-take}
use Rattle.byte_numbers.specs.Number.{number_at}
use Rattle.pcap_reader.specs.declared.capture_fault.CaptureFault.{CaptureFault}
use Rattle.pcap_reader.specs.declared.link.Link.{Link}
use Rattle.pcap_reader.specs.declared.link.Link.TheVariants as links
use Rattle.pcap_reader.specs.declared.state.CaptureState.{CaptureState}
use Rattle.pcap_reader.specs.State.{CaptureRecord}
use Rattle.pcap_reader.specs.Headers.{record_header_of}
use Rattle.pcap_reader.specs.Capture as savefile
use Rattle.pcapng_reader.specs.declared.front.Front.{Front}
use Rattle.pcapng_reader.specs.declared.said.Said.{Said}
use Rattle.pcapng_reader.specs.declared.said.Said.TheVariants as said
use Rattle.pcapng_reader.specs.Block.{Block, BlockState, block_at, block_by, block_in, block_of, block_said}
use Rattle.pcapng_reader.specs.Block.{front_of, said_in}
use Rattle.pcapng_reader.specs.Block as block
use Rattle.pcapng_reader.specs.Capture.{AnyState, Savefile, Blocks, Next, End, Record, Fault, Recorded}
use Rattle.pcapng_reader.specs.Capture.{first_of, next_of, next_within, onward, past_block, records_in}
use Rattle.pcapng_reader.specs.Capture.{records_within, size_of, whole_records, with_state}
use Rattle.pcapng_reader.specs.Reader.{start_len, start_of}
use Rattle.pcapng_reader.proofs.Offered.{capture-start, start-fault, start-left}
use Rattle.header_extract.specs.declared.class.Class.{Class}
use Rattle.header_extract.specs.declared.ip6.Upper.{Upper}
use Rattle.header_extract.specs.Class.{FrameClass, at_least, settled, ◌>>=◌}
use Rattle.header_extract.specs.Extracted.{key_len}
use Rattle.header_extract.specs.Ports.{has_ports, no_ports, ports_of}
use Rattle.header_extract.specs.Ip4.{header_words, ip4_class, ip4_key, ip4_ports, version_of}
use Rattle.header_extract.specs.Ip4 as ip4
use Rattle.header_extract.specs.Ip6.{Ends, Leads, Step, chain_of, followed, fragment, fragment_step, header_step}
use Rattle.header_extract.specs.Ip6.{ip6_class, ip6_key, is_options, next_of as next_header, options_len, upper_within}
use Rattle.header_extract.specs.Ip6 as ip6
use Rattle.header_extract.specs.Link.{after_tags, class_by_type, frame_class, is_tag, raw_class}
use Rattle.header_extract.specs.Link.{typed_class}
use Rattle.capture_report.specs.Packet.{IsPacket}
use Rattle.capture_report.specs.Shown.{packet_of}

-- a number is a byte
abbrev IsByte : ℕ → Type 0
IsByte byte = byte < 256

-- each of some numbers is a byte
abbrev pub AreBytes : List ℕ → Type 0
AreBytes bytes = All IsByte bytes

-- What a layer gives is so, or it ends the work with a class that has no key.
abbrev Fine : {A : Type 0} → (A → Type 0) → Result A Class → Type 0
Fine P (Ok value) = P value
Fine P (Err class) = key_len class ≡ 0

-- if a layer is fine and so is each one after it, both together are fine
fine_then : {A B : Type 0} (P : A → Type 0) (Q : B → Type 0) (result : Result A Class) (f : A → Result B Class) →
    Fine P result → ((value : A) → P value → Fine Q (f value)) → Fine Q (result >>= f)
fine_then P Q (Ok value) f is next = next value is
fine_then P Q (Err class) f is next = is

-- a choice of two layers is fine if each is under its test
fine_if : {A : Type 0} (P : A → Type 0) (test : Bool) (one other : Result A Class) → (test ≡ true → Fine P one) →
    (test ≡ false → Fine P other) → Fine P (if test then one else other)
fine_if P true one other yes_is no_is = yes_is refl
fine_if P false one other yes_is no_is = no_is refl

-- bytes, at least so many
abbrev HasBytes : ℕ → List ℕ → Type 0
HasBytes n bytes = AreBytes bytes × (n ≤ length bytes)

-- bytes are at least as many as are asked for, or the class has no key
at_least_fine : (n : ℕ) (bytes : List ℕ) → AreBytes bytes → Fine (HasBytes n) (at_least n bytes)
at_least_fine n bytes all =
    fine_if (HasBytes n) (nat_le n (length bytes)) (Ok bytes) (Err _)
    (λ e. (all, leb-true n (length bytes) e)) (λ e. refl)

-- a byte at a place
byte_at : (bytes : List ℕ) (i n : ℕ) → HasBytes n bytes → i < n → IsByte (slice_index bytes i)
byte_at bytes i n has within = has.0 i 0 (omega (arith, has.1, within))

-- so many bytes from a place on
part : (bytes : List ℕ) (at len n : ℕ) → HasBytes n bytes → at + len ≤ n →
    AreBytes (take len (drop at bytes)) × (length (take len (drop at bytes)) ≡ len)
part bytes at len n has within = (
  All-take IsByte len (drop at bytes) (All-drop IsByte at bytes has.0),
  length-take-le len (drop at bytes) (omega (arith, length-drop at bytes, has.1, within)),
)

-- ports
abbrev ArePorts : List ℕ → Type 0
ArePorts ports = AreBytes ports × (length ports ≡ 4)

-- the ports of a packet without ports are ports
none_are : ArePorts no_ports
none_are =
    (All-from_recursion IsByte no_ports (omega arith, (omega arith, (omega arith, (omega arith, tt)))), refl)

-- the ports of a payload of bytes are ports
ports_fine : (protocol : ℕ) (payload : List ℕ) → AreBytes payload → Fine ArePorts (ports_of protocol payload)
ports_fine protocol payload all =
    fine_if ArePorts (has_ports protocol) (at_least 4 payload >>= λ bytes. Ok (take 4 bytes)) (Ok no_ports)
    (λ e. fine_then (HasBytes 4) ArePorts (at_least 4 payload) (λ bytes. Ok (take 4 bytes))
    (at_least_fine 4 payload all) (λ bytes has. (All-take IsByte 4 bytes has.0, length-take-le 4 bytes has.1)))
    (λ e. none_are)

-- a key of these parts
key_is : (protocol : ℕ) (source destination ports : List ℕ) (n : ℕ) → IsByte protocol →
    AreBytes source × (length source ≡ n) → AreBytes destination × (length destination ≡ n) → ArePorts ports →
    AreBytes (protocol ∷ (source ++ destination ++ ports))
    × (length (protocol ∷ (source ++ destination ++ ports)) ≡ 5 + n + n)
key_is protocol source destination ports n is one two last = (
  All-cons IsByte protocol (source ++ destination ++ ports) is
      (All-append IsByte (source ++ destination) ports (All-append IsByte source destination one.0 two.0) last.0),
  omega (
    arith,
    length-append (source ++ destination) ports,
    length-append source destination,
    one.1,
    two.1,
    last.1,
  ),
)

-- a header's length is read, or the class has no key
words_fine : (header : List ℕ) → Fine (λ words. ⊤) (header_words header)
words_fine header = fine_if (λ words. ⊤) _ (Ok _) (Err _) (λ e. tt) (λ e. refl)

-- an IPv4 packet of bytes has a key of bytes
ip4_fine : (packet : List ℕ) → AreBytes packet → Fine IsPacket (ip4_class packet)
ip4_fine packet all =
    fine_then (HasBytes 20) IsPacket (at_least 20 packet) _ (at_least_fine 20 packet all)
    (λ header has. fine_then (λ words. ⊤) IsPacket (header_words header) _ (words_fine header)
    (λ words any. fine_then (HasBytes (4 * words)) IsPacket (at_least (4 * words) packet) _
    (at_least_fine (4 * words) packet all)
    (λ whole long. fine_then ArePorts IsPacket (ip4_ports header (drop (4 * words) packet)) _
    (fine_if ArePorts (ip4.is_first_part header) (ports_of (ip4.protocol_of header) (drop (4 * words) packet))
    (Ok no_ports)
    (λ e. ports_fine (ip4.protocol_of header) (drop (4 * words) packet) (All-drop IsByte (4 * words) packet all))
    (λ e. none_are))
    (λ ports are.
    let key = key_is (ip4.protocol_of header) (take 4 (drop 12 header)) (take 4 (drop 16 header)) ports 4
    (byte_at header 9 20 has (omega arith)) (part header 12 4 20 has (omega arith))
    (part header 16 4 20 has (omega arith)) are in
    record { bytes = key.0; len = key.1 }))))

-- what a chain of headers leads to
abbrev IsUpper : Upper → Type 0
IsUpper upper = IsByte upper.protocol × ArePorts upper.ports

-- a step through the headers leads on to bytes, or to what their chain ends in
abbrev IsStep : Step → Type 0
IsStep (Leads next left) = IsByte next × AreBytes left
IsStep (Ends upper) = IsUpper upper

-- a fragment's header leads on if it is of the first one, and else ends the chain
fragment_fine : (header : List ℕ) → HasBytes 8 header → (first : Bool) →
    IsStep (if first then Leads (next_header header) (drop 8 header)
    else Ends (record { protocol = next_header header; ports = no_ports }))
fragment_fine header has true = (byte_at header 0 8 has (omega arith), All-drop IsByte 8 header has.0)
fragment_fine header has false = (byte_at header 0 8 has (omega arith), none_are)

-- each step through headers of bytes is such
step_fine : (next : ℕ) (left : List ℕ) → IsByte next → AreBytes left → Fine IsStep (header_step next left)
step_fine next left is all =
    fine_if IsStep (is_options next) _ _
    (λ e. fine_then (HasBytes 8) IsStep (at_least 8 left) _ (at_least_fine 8 left all)
    (λ front has. fine_then (HasBytes (options_len front)) IsStep (at_least (options_len front) left) _
    (at_least_fine (options_len front) left all)
    (λ header long. (
      byte_at header 0 8 (long.0, omega (arith, long.1)) (omega arith),
      All-drop IsByte (options_len header) left all,
    ))))
    (λ e. fine_if IsStep (next == fragment) _ _
    (λ f. fine_then (HasBytes 8) IsStep (at_least 8 left) _ (at_least_fine 8 left all)
    (λ header has. fragment_fine header has (ip6.is_first_part header)))
    (λ f. fine_then ArePorts IsStep (ports_of next left) _ (ports_fine next left all) (λ ports are. (is, are))))

-- what a step leads to
followed_fine : (step : Step) (rest : ℕ → List ℕ → Result Upper Class) → IsStep step →
    ((next : ℕ) (left : List ℕ) → IsByte next → AreBytes left → Fine IsUpper (rest next left)) →
    Fine IsUpper (followed step rest)
followed_fine (Leads next left) rest are each = each next left are.0 are.1
followed_fine (Ends upper) rest are each = are

-- a chain of headers of bytes ends in a protocol and ports of bytes
upper_fine : (fuel next : ℕ) (left : List ℕ) → IsByte next → AreBytes left → Fine IsUpper (upper_within fuel next left)
upper_fine zero next left is all = refl
upper_fine (suc fuel) next left is all =
    fine_then IsStep IsUpper (header_step next left) _ (step_fine next left is all)
    (λ step are. followed_fine step (λ after rest. upper_within fuel after rest) are
    (λ after rest one two. upper_fine fuel after rest one two))

-- an IPv6 packet of bytes has a key of bytes
ip6_fine : (packet : List ℕ) → AreBytes packet → Fine IsPacket (ip6_class packet)
ip6_fine packet all =
    fine_then (HasBytes 40) IsPacket (at_least 40 packet) _ (at_least_fine 40 packet all)
    (λ header has. fine_then IsUpper IsPacket (chain_of header (drop 40 packet)) _
    (fine_if IsUpper (version_of header == 6) _ (Err _)
    (λ e. upper_fine (suc (length (drop 40 packet))) (slice_index header 6) (drop 40 packet)
    (byte_at header 6 40 has (omega arith)) (All-drop IsByte 40 packet all)) (λ e. refl))
    (λ upper is.
    let key = key_is upper.protocol (take 16 (drop 8 header)) (take 16 (drop 24 header)) upper.ports 16 is.0
    (part header 8 16 40 has (omega arith)) (part header 24 16 40 has (omega arith)) is.1 in
    record { bytes = key.0; len = key.1 }))

-- what follows the tags of a frame of bytes is of bytes
tags_fine : (tags ethertype : ℕ) (payload : List ℕ) → AreBytes payload →
    Fine (λ (typed : ℕ × List ℕ). AreBytes typed.1) (after_tags tags ethertype payload)
tags_fine zero ethertype payload all = all
tags_fine (suc tags) ethertype payload all =
    fine_if (λ (typed : ℕ × List ℕ). AreBytes typed.1) (is_tag ethertype) _ (Ok (ethertype, payload))
    (λ e. fine_then (HasBytes 4) (λ (typed : ℕ × List ℕ). AreBytes typed.1) (at_least 4 payload) _
    (at_least_fine 4 payload all)
    (λ tag has. tags_fine tags (number_at tag 2 2) (drop 4 payload) (All-drop IsByte 4 payload all)))
    (λ e. all)

-- a frame of bytes with an ethertype has a key of bytes
typed_fine : (header_len type_at : ℕ) (frame : List ℕ) → AreBytes frame →
    Fine IsPacket (typed_class header_len type_at frame)
typed_fine header_len type_at frame all =
    fine_then (HasBytes header_len) IsPacket (at_least header_len frame) _ (at_least_fine header_len frame all)
    (λ header has. fine_then (λ (typed : ℕ × List ℕ). AreBytes typed.1) IsPacket
    (after_tags 2 (number_at header type_at 2) (drop header_len frame)) class_by_type
    (tags_fine 2 (number_at header type_at 2) (drop header_len frame) (All-drop IsByte header_len frame all))
    (λ typed is. fine_if IsPacket (typed.0 == 0x0800) _ _ (λ e. ip4_fine typed.1 is)
    (λ e. fine_if IsPacket (typed.0 == 0x86DD) _ (Err _) (λ f. ip6_fine typed.1 is) (λ f. refl))))

-- a frame of bytes that is a packet has a key of bytes
raw_fine : (frame : List ℕ) → AreBytes frame → Fine IsPacket (raw_class frame)
raw_fine frame all =
    fine_then (HasBytes 1) IsPacket (at_least 1 frame) _ (at_least_fine 1 frame all)
    (λ front has. fine_if IsPacket (version_of front == 4) _ _ (λ e. ip4_fine frame all)
    (λ e. fine_if IsPacket (version_of front == 6) _ (Err _) (λ f. ip6_fine frame all) (λ f. refl)))

-- a frame of bytes of any link type has a key of bytes
frame_fine : (link : Link) (frame : List ℕ) → AreBytes frame → Fine IsPacket (frame_class link frame)
frame_fine links.Ethernet frame all = typed_fine 14 12 frame all
frame_fine links.Cooked frame all = typed_fine 16 14 frame all
frame_fine links.CookedV2 frame all = typed_fine 20 0 frame all
frame_fine links.Raw frame all = raw_fine frame all
frame_fine links.Ip4 frame all = ip4_fine frame all
frame_fine links.Ip6 frame all = ip6_fine frame all

-- what a frame comes to is a packet, also if it has no key
settled_packet : (result : Result FrameClass Class) → Fine IsPacket result → IsPacket (settled result)
settled_packet (Ok packet) is = is
settled_packet (Err class) is = record { bytes = All-nil IsByte; len = sym is }

-- what stands next in a savefile of bytes is of bytes
abbrev IsOfBytes : savefile.Next → Type 0
IsOfBytes savefile.End = ⊤
IsOfBytes (savefile.Record captured after) = AreBytes captured.bytes × AreBytes after
IsOfBytes (savefile.Fault fault) = ⊤

-- a fault or what is of bytes is of bytes
next_if : (test : Bool) (fault : CaptureFault) (other : savefile.Next) → IsOfBytes other →
    IsOfBytes (if test then savefile.Fault fault else other)
next_if true fault other is = tt
next_if false fault other is = is

-- what stands next in each state of a savefile is of bytes if the rest is
savefile_bytes : (state : CaptureState) (left : List ℕ) → AreBytes left → IsOfBytes (savefile.next_of state left)
savefile_bytes state left all = go (length left == 0)
  where
    len : ℕ
    len = (record_header_of state.start.order left).captured

    go : (none : Bool) → IsOfBytes (if none then savefile.End else savefile.next_record state left)
    go true = tt
    go false =
        next_if (nat_lt savefile.max_records (state.count + 1)) _ _
        (next_if (nat_lt (length left) savefile.record_header_len) _ _
        (next_if (nat_lt savefile.max_captured len) _ _
        (next_if (nat_lt (length left) (savefile.record_header_len + len)) _ _ (
          All-take IsByte len (drop savefile.record_header_len left)
              (All-drop IsByte savefile.record_header_len left all),
          All-drop IsByte (savefile.record_header_len + len) left all,
        ))))

-- what a block of bytes is, and the bytes after it, are of bytes
abbrev IsBlockOfBytes : Block → Type 0
IsBlockOfBytes block.End = ⊤
IsBlockOfBytes (block.Passed state after) = (state.first ≡ []) × AreBytes after
IsBlockOfBytes (block.Given captured state after) = (state.first ≡ []) × AreBytes captured.bytes × AreBytes after
IsBlockOfBytes (block.Fault fault) = ⊤

-- a block is of bytes by what it says
said_bytes : (x : Said) (state : BlockState) (front : Front) (left : List ℕ) → AreBytes left →
    IsBlockOfBytes (block_said state front x left)
said_bytes said.Section state front left all = (refl, All-drop IsByte front.total left all)
said_bytes (said.Interface link) state front left all = (refl, All-drop IsByte front.total left all)
said_bytes (said.Packet link captured) state front left all = (
  refl,
  All-take IsByte captured (drop 28 left) (All-drop IsByte 28 left all),
  All-drop IsByte front.total left all,
)
said_bytes said.Other state front left all = (refl, All-drop IsByte front.total left all)

-- a block is of bytes whether it says something or has a fault
block_in_bytes : (state : BlockState) (front : Front) (left : List ℕ) (said : Result Said CaptureFault) →
    AreBytes left → IsBlockOfBytes (block_in state front left said)
block_in_bytes state front left (Ok x) all = said_bytes x state front left all
block_in_bytes state front left (Err fault) all = tt

-- a block is of bytes whether its front was read or has a fault
block_by_bytes : (state : BlockState) (left : List ℕ) (front : Result Front CaptureFault) → AreBytes left →
    IsBlockOfBytes (block_by state left front)
block_by_bytes state left (Ok front) all = block_in_bytes state front left (said_in state front left) all
block_by_bytes state left (Err fault) all = tt

-- the block that stands at the front of bytes is of bytes
block_bytes : (state : BlockState) (bytes : List ℕ) → AreBytes bytes → IsBlockOfBytes (block_at state bytes)
block_bytes state bytes all = go (length bytes == 0)
  where
    go : (none : Bool) →
        IsBlockOfBytes (if none then block.End else block_by state bytes (front_of state bytes))
    go true = tt
    go false = block_by_bytes state bytes (front_of state bytes) all

-- what stands next in a capture of either format, with the bytes that were read ahead, is of bytes
abbrev IsNextOfBytes : Next → Type 0
IsNextOfBytes (End state) = ⊤
IsNextOfBytes (Record captured state after) = AreBytes captured.bytes × AreBytes (first_of state ++ after)
IsNextOfBytes (Fault fault) = ⊤

-- what stands after a block is of bytes if it is so after any bytes
past_bytes : (state : BlockState) (read : Block) (rest : BlockState → List ℕ → Next) → IsBlockOfBytes read →
    ((now : BlockState) (after : List ℕ) → AreBytes (now.first ++ after) → IsNextOfBytes (rest now after)) →
    IsNextOfBytes (past_block state read rest)
past_bytes state block.End rest is each = tt
past_bytes state (block.Passed now after) rest is each =
    each now after (subst (λ (l : List ℕ). AreBytes (l ++ after)) (sym is.0) is.1)
past_bytes state (block.Given captured now after) rest is each =
    (is.1, subst (λ (l : List ℕ). AreBytes (l ++ after)) (sym is.0) is.2)
past_bytes state (block.Fault fault) rest is each = tt

-- what stands next among the blocks is of bytes
within_bytes : (fuel : ℕ) (state : BlockState) (left : List ℕ) → AreBytes (state.first ++ left) →
    IsNextOfBytes (next_within fuel state left)
within_bytes zero state left all = tt
within_bytes (suc fuel) state left all =
    past_bytes state (block_of state left) (λ now after. next_within fuel now after)
    (block_bytes state (state.first ++ left) all) (λ now after are. within_bytes fuel now after are)

-- what stands next in a savefile of bytes stands next in a capture of bytes
with_state_bytes : (state : CaptureState) (next : savefile.Next) → IsOfBytes next →
    IsNextOfBytes (with_state state next)
with_state_bytes state savefile.End is = tt
with_state_bytes state (savefile.Record captured after) is = is
with_state_bytes state (savefile.Fault fault) is = tt

-- what stands next in each state of a capture is of bytes if the rest is
next_bytes : (state : AnyState) (left : List ℕ) → AreBytes (first_of state ++ left) →
    IsNextOfBytes (next_of state left)
next_bytes (Savefile state) left all =
    with_state_bytes state (savefile.next_of state left) (savefile_bytes state left all)
next_bytes (Blocks state) left all = within_bytes (suc (length (state.first ++ left))) state left all

-- each record is of bytes
abbrev AreRecords : List CaptureRecord → Type 0
AreRecords records = AllByRecursion (λ (captured : CaptureRecord). AreBytes captured.bytes) records

-- the records of what stands next, and of what comes after it
onward_bytes : (next : Next) (rest : AnyState → List ℕ → Recorded) → IsNextOfBytes next →
    ((now : AnyState) (after : List ℕ) → AreBytes (first_of now ++ after) → AreRecords (rest now after).records) →
    AreRecords (onward next rest).records
onward_bytes (End state) rest is each = tt
onward_bytes (Record captured now after) rest is each = (is.0, each now after is.1)
onward_bytes (Fault fault) rest is each = tt

-- all records of bytes are of bytes
records_bytes : (fuel : ℕ) (state : AnyState) (left : List ℕ) → AreBytes (first_of state ++ left) →
    AreRecords (records_within fuel state left).records
records_bytes zero state left all = tt
records_bytes (suc fuel) state left all =
    onward_bytes (next_of state left) (λ now after. records_within fuel now after) (next_bytes state left all)
    (λ now after is. records_bytes fuel now after is)

-- the packets of records of bytes have keys of bytes
packets_are : (records : List CaptureRecord) → AreRecords records →
    AllByRecursion IsPacket (map packet_of records)
packets_are [] all = tt
packets_are (captured ∷ records) all = (
  settled_packet (frame_class captured.link captured.bytes) (frame_fine captured.link captured.bytes all.0),
  packets_are records all.1,
)

-- the bytes that were read ahead, and what is left
ahead_bytes : (bytes : List ℕ) (state : AnyState) → AreBytes bytes → start_of bytes ≡ Ok state →
    AreBytes (first_of state ++ drop (start_len state) bytes)
ahead_bytes bytes state all says =
    let left = start-left bytes state says in
    subst AreBytes (sym left.1) (All-drop IsByte left.0 bytes all)

-- the packets of the whole records of bytes
pub packets_of_bytes : (bytes : List ℕ) → AreBytes bytes → All IsPacket (map packet_of (whole_records bytes))
packets_of_bytes bytes all = go (start_of bytes) refl
  where
    go : (start : Result AnyState CaptureFault) → start_of bytes ≡ start →
        All IsPacket (map packet_of (whole_records bytes))
    go (Ok state) is =
        let left : List ℕ = drop (start_len state) bytes in
        let records = ap records_in (capture-start bytes state is) in
        subst (λ (l : List CaptureRecord). All IsPacket (map packet_of l)) (sym records)
        (All-from_recursion IsPacket _ (packets_are _
        (records_bytes (size_of state left) state left (ahead_bytes bytes state all is))))
    go (Err fault) is =
        subst (λ (l : List CaptureRecord). All IsPacket (map packet_of l))
        (sym (ap records_in (start-fault bytes fault is))) (All-nil IsPacket)

-- What the next block is, test by test, and that bytes after what decides change nothing.
use Rattle.std.proofs.Common.{◌≡◌, ℕ, ◌+◌, ◌-◌, ◌%◌, ◌<◌, ◌≤◌, List, ◌++◌, length, take, drop}
use Rattle.std.proofs.Common.{true, false}
use Rattle.std.proofs.Common.{Option, Some, None, Result, Ok, Err, inl, inr, refl, sym, subst, ap, ◌∙◌, arith}
use Rattle.std.proofs.Common.{length-append}
use Rattle.std.specs.Prelude.{◌==◌, ⊤, Bool, not, nat_lt, slice_get}
use Rattle.std.proofs.lemmas.Bool.{cases_eq, cases_lt, lt-ltb, le-ltb, ne_eqb, eq-eqb, false≢true, or_parts}
use Rattle.std.proofs.lemmas.List.{drop-append-le}
use Rattle.pcap_reader.specs.declared.capture_fault.CaptureFault.{CaptureFault}
use Rattle.pcap_reader.specs.declared.capture_fault.CaptureFault.TheVariants.{RecordCut, RecordTooLong}
use Rattle.pcap_reader.specs.declared.capture_fault.CaptureFault.TheVariants.{TooManyRecords}
use Rattle.pcap_reader.specs.declared.capture_fault.CaptureFault.TheVariants.{PngCut, PngLength, PngOrder, PngVersion}
use Rattle.pcap_reader.specs.declared.capture_fault.CaptureFault.TheVariants.{PngInterface, PngLink, PngTooMany}
use Rattle.pcap_reader.specs.declared.start.Order.{Order}
use Rattle.pcap_reader.specs.declared.start.Order.TheVariants.{Big, Little}
use Rattle.pcap_reader.specs.Capture.{max_captured}
use Rattle.pcap_reader.specs.Headers.{number_in}
use Rattle.pcap_reader.specs.Start.{◌>>=◌, or_fault, link_in, link_types}
use Rattle.pcap_reader.proofs.Offered.{number_in-append, part-append}
use Rattle.pcapng_reader.specs.Block.{BlockState, Block, End, Passed, Given, Fault}
use Rattle.pcapng_reader.specs.Block.{max_interfaces, front_len, kind_of, least_len, order_in}
use Rattle.pcapng_reader.specs.Block.{refuse, is_last, is_no_len, front_with, front_of, padded, captured_in}
use Rattle.pcapng_reader.specs.Block.{said_by, has_other_end, said_in}
use Rattle.pcapng_reader.specs.Block.{state_said, block_said, block_in, block_by, block_at}
use Rattle.pcapng_reader.specs.declared.front.Front.{Front}
use Rattle.pcapng_reader.specs.declared.kind.Kind.{Kind}
use Rattle.pcapng_reader.specs.declared.kind.Kind.TheVariants.{Section, Interface, Packet, Other}
use Rattle.pcapng_reader.specs.declared.said.Said.{Said}
use Rattle.pcapng_reader.specs.declared.said.Said.TheVariants as said
use Rattle.pcapng_reader.specs.BlockReading.{HasRoom}
use Rattle.pcapng_reader.proofs.Steps.{refuse-no, refuse-stops, bind_ok, refuse_ok}

-- no bytes are the end
pub block-none : (state : BlockState) (bytes : List ℕ) → length bytes ≡ 0 → block_at state bytes ≡ End
block-none state bytes none = rw (eq-eqb (length bytes) 0 none) refl

-- some bytes are a block, as their front says
pub block-some : (state : BlockState) (bytes : List ℕ) → 0 < length bytes →
    block_at state bytes ≡ block_by state bytes (front_of state bytes)
block-some state bytes some = rw (ne_eqb (length bytes) 0 (λ e. omega (arith, e, some))) refl

-- after the last block there may be no more
pub front-last : (state : BlockState) (bytes : List ℕ) → is_last state ≡ true →
    front_of state bytes ≡ Err TooManyRecords
front-last state bytes last = refuse-stops (is_last state) TooManyRecords _ last

-- fewer bytes than a front has
pub front-cut : (state : BlockState) (bytes : List ℕ) → is_last state ≡ false → length bytes < front_len →
    front_of state bytes ≡ Err (PngCut (state.count + 1))
front-cut state bytes few cut =
    refuse-no (is_last state) TooManyRecords _ few
    ∙ refuse-stops (nat_lt (length bytes) front_len) (PngCut (state.count + 1)) _ (lt-ltb (length bytes) front_len cut)

-- what a whole front says
pub front-whole : (state : BlockState) (bytes : List ℕ) → is_last state ≡ false → front_len ≤ length bytes →
    (kind : Kind) → kind ≡ kind_of (number_in state.order bytes 0 4) →
    front_of state bytes
    ≡ (or_fault (PngOrder (state.count + 1)) (order_in state kind bytes)
    >>= λ order. front_with state kind order (number_in order bytes 4 4))
front-whole state bytes few there kind is =
    rw is (
    refuse-no (is_last state) TooManyRecords _ few
    ∙ refuse-no (nat_lt (length bytes) front_len) (PngCut (state.count + 1)) _
    (le-ltb (length bytes) front_len there))

-- What a front says that isn't refused.
pub record HasFront (state : BlockState) (bytes : List ℕ) (front : Front) : Type 0 where
  pub few : is_last state ≡ false
  pub there : front_len ≤ length bytes
  pub total : front.total ≡ number_in front.order bytes 4 4
  pub least : least_len front.kind ≤ front.total
  pub multiple : front.total % 4 ≡ 0

-- what isn't less is at least as much
not_less : (a b : ℕ) → nat_lt a b ≡ false → b ≤ a
not_less a b is = elim (cases_lt a b) [
  | inl less ↦ absurd (false≢true (sym is ∙ lt-ltb a b less))
  | inr more ↦ more
]

-- a test that a number is no multiple of 4 failed
multiple_of_4 : (n : ℕ) → not (n % 4 == 0) ≡ false → n % 4 ≡ 0
multiple_of_4 n is = elim (cases_eq (n % 4) 0) [
  | inl multiple ↦ multiple
  | inr other ↦ absurd (false≢true (sym is ∙ ap not (ne_eqb (n % 4) 0 other)))
]

-- a front that isn't refused says all this
pub HasFront-from : (state : BlockState) (bytes : List ℕ) (front : Front) → front_of state bytes ≡ Ok front →
    HasFront state bytes front
HasFront-from state bytes front is =
    let few = bind_ok (refuse (is_last state) TooManyRecords) _ front is in
    let there = bind_ok (refuse (nat_lt (length bytes) front_len) (PngCut (state.count + 1))) _ front few.2 in
    let kind = kind_of (number_in state.order bytes 0 4) in
    let ordered = bind_ok (or_fault (PngOrder (state.count + 1)) (order_in state kind bytes)) _ front there.2 in
    let total = number_in ordered.0 bytes 4 4 in
    let long = bind_ok (refuse (is_no_len kind total) (PngLength (state.count + 1))) _ front ordered.2 in
    let same : (let f : Front = record { kind = kind; order = ordered.0; total = total } in f) ≡ front =
    (let e = long.2 in cc) in
    subst (HasFront state bytes) same
    record {
      few = refuse_ok (is_last state) TooManyRecords few.0 few.1;
      there = not_less (length bytes) front_len
          (refuse_ok (nat_lt (length bytes) front_len) (PngCut (state.count + 1)) there.0 there.1);
      total = refl;
      least = not_less total (least_len kind)
          (or_parts (not (total % 4 == 0)) (nat_lt total (least_len kind))
          (refuse_ok (is_no_len kind total) (PngLength (state.count + 1)) long.0 long.1)).1;
      multiple = multiple_of_4 total
          (or_parts (not (total % 4 == 0)) (nat_lt total (least_len kind))
          (refuse_ok (is_no_len kind total) (PngLength (state.count + 1)) long.0 long.1)).0;
    }

-- a front is at least as long as any block
pub front_least : (kind : Kind) → front_len ≤ least_len kind
front_least Section = omega arith
front_least Interface = omega arith
front_least Packet = omega arith
front_least Other = omega arith

-- a front is said by its own bytes
pub front-append : (state : BlockState) (bytes more : List ℕ) → is_last state ≡ false → front_len ≤ length bytes →
    front_of state (bytes ++ more) ≡ front_of state bytes
front-append state bytes more few there =
    let kind = kind_of (number_in state.order bytes 0 4) in
    let same : kind ≡ kind_of (number_in state.order (bytes ++ more) 0 4) =
    sym (ap kind_of (number_in-append state.order 0 4 bytes more (omega (arith, there)))) in
    front-whole state (bytes ++ more) few (omega (arith, there, length-append bytes more)) kind same
    ∙ ap (λ found. or_fault (PngOrder (state.count + 1)) found
    >>= λ order. front_with state kind order (number_in order (bytes ++ more) 4 4)) (same_order kind)
    ∙ same_front kind (order_in state kind bytes)
    ∙ sym (front-whole state bytes few there kind refl)
  where
    same_order : (kind : Kind) → order_in state kind (bytes ++ more) ≡ order_in state kind bytes
    same_order Section =
        rw (
          number_in-append Big 8 4 bytes more (omega (arith, there)),
          number_in-append Little 8 4 bytes more (omega (arith, there)),
        ) refl
    same_order Interface = refl
    same_order Packet = refl
    same_order Other = refl

    same_front : (kind : Kind) (found : Option Order) →
        (or_fault (PngOrder (state.count + 1)) found
        >>= λ order. front_with state kind order (number_in order (bytes ++ more) 4 4))
        ≡ (or_fault (PngOrder (state.count + 1)) found
        >>= λ order. front_with state kind order (number_in order bytes 4 4))
    same_front kind None = refl
    same_front kind (Some order) =
        ap (front_with state kind order) (number_in-append order 4 4 bytes more (omega (arith, there)))

-- and what a block says by its bytes but the last four of the shortest
pub said-append : (kind : Kind) (state : BlockState) (front : Front) (bytes more : List ℕ) →
    least_len kind - 4 ≤ length bytes →
    said_by kind state front (bytes ++ more) ≡ said_by kind state front bytes
said-append Section state front bytes more there =
    rw (number_in-append front.order 12 2 bytes more (omega (arith, there))) refl
said-append Interface state front bytes more there =
    rw (number_in-append front.order 8 2 bytes more (omega (arith, there))) refl
said-append Packet state front bytes more there =
    rw (
      number_in-append front.order 8 4 bytes more (omega (arith, there)),
      number_in-append front.order 20 4 bytes more (omega (arith, there)),
    ) refl
said-append Other state front bytes more there = refl

-- the bytes up to the last four of the shortest block aren't there
pub said-cut_head : (state : BlockState) (front : Front) (bytes : List ℕ) →
    length bytes < least_len front.kind - 4 → said_in state front bytes ≡ Err (PngCut (state.count + 1))
said-cut_head state front bytes cut =
    refuse-stops (nat_lt (length bytes) (least_len front.kind - 4)) (PngCut (state.count + 1)) _
    (lt-ltb (length bytes) (least_len front.kind - 4) cut)

-- what follows once they are
said_next : (state : BlockState) (front : Front) (bytes : List ℕ) → Said → Result Said CaptureFault
said_next state front bytes x =
    refuse (nat_lt (length bytes) front.total) (PngCut (state.count + 1))
    >>= λ whole. refuse (has_other_end front bytes) (PngLength (state.count + 1))
    >>= λ same. Ok x

-- a block with enough bytes for its kind says what the kind says, and then its end is tested
said-there : (state : BlockState) (front : Front) (bytes : List ℕ) →
    least_len front.kind - 4 ≤ length bytes →
    said_in state front bytes ≡ (said_by front.kind state front bytes >>= said_next state front bytes)
unfolding said_next
said-there state front bytes there =
    refuse-no (nat_lt (length bytes) (least_len front.kind - 4)) (PngCut (state.count + 1)) _
    (le-ltb (length bytes) (least_len front.kind - 4) there)

-- what the block says is refused
pub said-fault : (state : BlockState) (front : Front) (bytes : List ℕ) (fault : CaptureFault) →
    least_len front.kind - 4 ≤ length bytes → said_by front.kind state front bytes ≡ Err fault →
    said_in state front bytes ≡ Err fault
said-fault state front bytes fault there is =
    said-there state front bytes there ∙ ap (λ r. r >>= said_next state front bytes) is

-- the rest of the block isn't there
pub said-cut : (state : BlockState) (front : Front) (bytes : List ℕ) (x : Said) →
    least_len front.kind - 4 ≤ length bytes → said_by front.kind state front bytes ≡ Ok x →
    length bytes < front.total → said_in state front bytes ≡ Err (PngCut (state.count + 1))
unfolding said_next
said-cut state front bytes x there is cut =
    said-there state front bytes there ∙ ap (λ r. r >>= said_next state front bytes) is
    ∙ refuse-stops (nat_lt (length bytes) front.total) (PngCut (state.count + 1)) _
    (lt-ltb (length bytes) front.total cut)

-- it ends in another length
pub said-other_end : (state : BlockState) (front : Front) (bytes : List ℕ) (x : Said) →
    least_len front.kind - 4 ≤ length bytes → said_by front.kind state front bytes ≡ Ok x →
    front.total ≤ length bytes → has_other_end front bytes ≡ true →
    said_in state front bytes ≡ Err (PngLength (state.count + 1))
unfolding said_next
said-other_end state front bytes x there is whole other =
    said-there state front bytes there ∙ ap (λ r. r >>= said_next state front bytes) is
    ∙ refuse-no (nat_lt (length bytes) front.total) (PngCut (state.count + 1)) _
    (le-ltb (length bytes) front.total whole)
    ∙ refuse-stops (has_other_end front bytes) (PngLength (state.count + 1)) _ other

-- it is whole
pub said-whole : (state : BlockState) (front : Front) (bytes : List ℕ) (x : Said) →
    least_len front.kind - 4 ≤ length bytes → said_by front.kind state front bytes ≡ Ok x →
    front.total ≤ length bytes → has_other_end front bytes ≡ false →
    said_in state front bytes ≡ Ok x
unfolding said_next
said-whole state front bytes x there is whole same =
    said-there state front bytes there ∙ ap (λ r. r >>= said_next state front bytes) is
    ∙ refuse-no (nat_lt (length bytes) front.total) (PngCut (state.count + 1)) _
    (le-ltb (length bytes) front.total whole)
    ∙ refuse-no (has_other_end front bytes) (PngLength (state.count + 1)) _ same

-- the block of a front that isn't refused
pub block-front : (state : BlockState) (bytes : List ℕ) (front : Front) → front_of state bytes ≡ Ok front →
    block_at state bytes ≡ block_in state front bytes (said_in state front bytes)
block-front state bytes front is =
    let facts = HasFront-from state bytes front is in
    block-some state bytes (omega (arith, facts.there)) ∙ ap (block_by state bytes) is

-- the fault of a front
pub block-front_fault : (state : BlockState) (bytes : List ℕ) (fault : CaptureFault) → 0 < length bytes →
    front_of state bytes ≡ Err fault → block_at state bytes ≡ Fault fault
block-front_fault state bytes fault some is = block-some state bytes some ∙ ap (block_by state bytes) is

-- the fault of what it says
pub block-said_fault : (state : BlockState) (bytes : List ℕ) (front : Front) (fault : CaptureFault) →
    front_of state bytes ≡ Ok front → said_in state front bytes ≡ Err fault → block_at state bytes ≡ Fault fault
block-said_fault state bytes front fault is said =
    block-front state bytes front is ∙ ap (block_in state front bytes) said

-- a whole block
pub block-whole : (state : BlockState) (bytes : List ℕ) (front : Front) (x : Said) →
    front_of state bytes ≡ Ok front → said_in state front bytes ≡ Ok x →
    block_at state bytes ≡ block_said state front x bytes
block-whole state bytes front x is said =
    block-front state bytes front is ∙ ap (block_in state front bytes) said

-- What a packet says leaves room for its captured bytes.
padded_more : (len : ℕ) → len ≤ padded len
padded_more len = omega arith

-- there is room for what a block says
pub said-room : (kind : Kind) (state : BlockState) (front : Front) (bytes : List ℕ) (x : Said) →
    said_by kind state front bytes ≡ Ok x → HasRoom state front x
said-room Section state front bytes x is =
    let one = bind_ok (refuse (not (number_in front.order bytes 12 2 == 1)) (PngVersion (state.count + 1))) _ x is in
    subst (HasRoom state front) (let e : said.Section ≡ x = (let f = one.2 in cc) in e) tt
said-room Interface state front bytes x is =
    let full = not (nat_lt (length state.interfaces) max_interfaces) in
    let room = bind_ok (refuse full (PngTooMany (state.count + 1))) _ x is in
    let link = link_in link_types (number_in front.order bytes 8 2) in
    subst (HasRoom state front) (let e : said.Interface link ≡ x = (let f = room.2 in cc) in e)
    (not_full (length state.interfaces) (refuse_ok full (PngTooMany (state.count + 1)) room.0 room.1))
  where
    not_full : (len : ℕ) → not (nat_lt len max_interfaces) ≡ false → len < max_interfaces
    not_full len some = elim (cases_lt len max_interfaces) [
      | inl less ↦ less
      | inr more ↦ absurd (false≢true (sym some ∙ ap not (le-ltb len max_interfaces more)))
    ]
said-room Packet state front bytes x is =
    let n = state.count + 1 in
    let captured = captured_in front bytes in
    let found = slice_get state.interfaces (number_in front.order bytes 8 4) in
    let interface = bind_ok (or_fault (PngInterface n) found) _ x is in
    let link = bind_ok (or_fault (PngLink n) interface.0) _ x interface.2 in
    let long = nat_lt max_captured captured in
    let short = bind_ok (refuse long (RecordTooLong n)) _ x link.2 in
    let full = nat_lt front.total (padded captured + least_len Packet) in
    let room = bind_ok (refuse full (PngLength n)) _ x short.2 in
    let fits = not_less front.total (padded captured + least_len Packet)
    (refuse_ok full (PngLength n) room.0 room.1) in
    subst (HasRoom state front) (let e : said.Packet link.0 captured ≡ x = (let f = room.2 in cc) in e) (
      not_less max_captured captured (refuse_ok long (RecordTooLong n) short.0 short.1),
      omega (arith, fits, padded_more captured),
    )
said-room Other state front bytes x is =
    subst (HasRoom state front) (let e : said.Other ≡ x = cc in e) tt

-- what decides is there: more bytes change nothing but what stands after the block
abbrev pub IsDecidedFault : CaptureFault → Type 0
IsDecidedFault (PngCut number) = ⊥
IsDecidedFault (RecordCut number) = ⊥
IsDecidedFault fault = ⊤

-- the block isn't the end, and if it has a fault, that is decided
abbrev pub IsDecidedBlock : Block → Type 0
IsDecidedBlock End = ⊥
IsDecidedBlock (Passed state after) = ⊤
IsDecidedBlock (Given captured state after) = ⊤
IsDecidedBlock (Fault fault) = IsDecidedFault fault

-- a block with more bytes after it
abbrev pub block_more : Block → List ℕ → Block
block_more End more = End
block_more (Passed state after) more = Passed state (after ++ more)
block_more (Given captured state after) more = Given captured state (after ++ more)
block_more (Fault fault) more = Fault fault

-- what a whole block says, with more bytes after it
said-more : (x : Said) (state : BlockState) (front : Front) (bytes more : List ℕ) → HasRoom state front x →
    front.total ≤ length bytes →
    block_said state front x (bytes ++ more) ≡ block_more (block_said state front x bytes) more
said-more said.Section state front bytes more room whole =
    ap (Passed (state_said state front said.Section)) (drop-append-le front.total bytes more whole)
said-more (said.Interface link) state front bytes more room whole =
    ap (Passed (state_said state front (said.Interface link))) (drop-append-le front.total bytes more whole)
said-more (said.Packet link captured) state front bytes more room whole =
    let now = state_said state front (said.Packet link captured) in
    ap (λ (l : List ℕ). Given (record { link = link; bytes = l }) now (drop front.total (bytes ++ more)))
    (part-append 28 captured bytes more (omega (arith, room.1, whole)))
    ∙ ap (Given (record { link = link; bytes = take captured (drop 28 bytes) }) now)
    (drop-append-le front.total bytes more whole)
said-more said.Other state front bytes more room whole =
    ap (Passed (state_said state front said.Other)) (drop-append-le front.total bytes more whole)

-- the end of the block stands where it stood
same_end : (front : Front) (bytes more : List ℕ) → front_len ≤ front.total → front.total ≤ length bytes →
    has_other_end front (bytes ++ more) ≡ has_other_end front bytes
same_end front bytes more least whole =
    ap (λ n. not (n == front.total))
    (number_in-append front.order (front.total - 4) 4 bytes more (omega (arith, least, whole)))

-- a block whose front isn't refused
front_more : (state : BlockState) (front : Front) (bytes more : List ℕ) → front_of state bytes ≡ Ok front →
    IsDecidedBlock (block_at state bytes) →
    block_at state (bytes ++ more) ≡ block_more (block_at state bytes) more
front_more state front bytes more is decided =
    elim (cases_lt (length bytes) (least_len front.kind - 4)) [
      | inl cut ↦ absurd (undecided (said-cut_head state front bytes cut))
      | inr there ↦ said_more there (said_by front.kind state front bytes) refl
    ]
  where
    facts : HasFront state bytes front
    facts = HasFront-from state bytes front is

    longer : front_of state (bytes ++ more) ≡ Ok front
    longer = front-append state bytes more facts.few facts.there ∙ is

    undecided : said_in state front bytes ≡ Err (PngCut (state.count + 1)) → ⊥
    undecided cut = subst IsDecidedBlock (block-said_fault state bytes front _ is cut) decided

    both_faults : (fault : CaptureFault) → said_in state front bytes ≡ Err fault →
        said_in state front (bytes ++ more) ≡ Err fault →
        block_at state (bytes ++ more) ≡ block_more (block_at state bytes) more
    both_faults fault alone all =
        block-said_fault state (bytes ++ more) front fault longer all
        ∙ sym (ap (λ b. block_more b more) (block-said_fault state bytes front fault is alone))

    least : front_len ≤ front.total
    least = omega (arith, facts.least, front_least front.kind)

    whole_more : (x : Said) → least_len front.kind - 4 ≤ length bytes → said_by front.kind state front bytes ≡ Ok x →
        least_len front.kind - 4 ≤ length (bytes ++ more) →
        said_by front.kind state front (bytes ++ more) ≡ Ok x → front.total ≤ length bytes → (other : Bool) →
        has_other_end front bytes ≡ other →
        block_at state (bytes ++ more) ≡ block_more (block_at state bytes) more
    whole_more x there says there_too says_too whole true other =
        both_faults (PngLength (state.count + 1)) (said-other_end state front bytes x there says whole other)
        (said-other_end state front (bytes ++ more) x there_too says_too
        (omega (arith, whole, length-append bytes more)) (same_end front bytes more least whole ∙ other))
    whole_more x there says there_too says_too whole false other =
        block-whole state (bytes ++ more) front x longer
        (said-whole state front (bytes ++ more) x there_too says_too (omega (arith, whole, length-append bytes more))
        (same_end front bytes more least whole ∙ other))
        ∙ said-more x state front bytes more (said-room front.kind state front bytes x says) whole
        ∙ sym (ap (λ b. block_more b more)
        (block-whole state bytes front x is (said-whole state front bytes x there says whole other)))

    said_more : least_len front.kind - 4 ≤ length bytes → (r : Result Said CaptureFault) →
        said_by front.kind state front bytes ≡ r →
        block_at state (bytes ++ more) ≡ block_more (block_at state bytes) more
    said_more there (Err fault) says =
        both_faults fault (said-fault state front bytes fault there says)
        (said-fault state front (bytes ++ more) fault (omega (arith, there, length-append bytes more))
        (said-append front.kind state front bytes more there ∙ says))
    said_more there (Ok x) says = elim (cases_lt (length bytes) front.total) [
      | inl cut ↦ absurd (undecided (said-cut state front bytes x there says cut))
      | inr whole ↦ whole_more x there says (omega (arith, there, length-append bytes more))
          (said-append front.kind state front bytes more there ∙ says) whole (has_other_end front bytes) refl
    ]

-- where what decides is there, more bytes after it change nothing
pub block-append : (state : BlockState) (bytes more : List ℕ) → IsDecidedBlock (block_at state bytes) →
    block_at state (bytes ++ more) ≡ block_more (block_at state bytes) more
block-append state bytes more decided =
    elim (cases_eq (length bytes) 0) [
      | inl none ↦ absurd (subst IsDecidedBlock (block-none state bytes none) decided)
      | inr some ↦ by_last (omega (arith, some)) (is_last state) refl
    ]
  where
    same_fault : (fault : CaptureFault) → 0 < length bytes → front_of state bytes ≡ Err fault →
        front_of state (bytes ++ more) ≡ Err fault →
        block_at state (bytes ++ more) ≡ block_more (block_at state bytes) more
    same_fault fault some alone all =
        block-front_fault state (bytes ++ more) fault (omega (arith, some, length-append bytes more)) all
        ∙ sym (ap (λ b. block_more b more) (block-front_fault state bytes fault some alone))

    by_front : 0 < length bytes → is_last state ≡ false → front_len ≤ length bytes → (r : Result Front CaptureFault) →
        front_of state bytes ≡ r →
        block_at state (bytes ++ more) ≡ block_more (block_at state bytes) more
    by_front some few there (Ok front) is = front_more state front bytes more is decided
    by_front some few there (Err fault) is =
        same_fault fault some is (front-append state bytes more few there ∙ is)

    by_last : 0 < length bytes → (last : Bool) → is_last state ≡ last →
        block_at state (bytes ++ more) ≡ block_more (block_at state bytes) more
    by_last some true last =
        same_fault TooManyRecords some (front-last state bytes last) (front-last state (bytes ++ more) last)
    by_last some false few = elim (cases_lt (length bytes) front_len) [
      | inl cut ↦ absurd (subst IsDecidedBlock
          (block-front_fault state bytes _ some (front-cut state bytes few cut)) decided)
      | inr there ↦ by_front some few there (front_of state bytes) refl
    ]

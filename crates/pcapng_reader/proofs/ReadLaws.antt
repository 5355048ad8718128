-- What was read of a block, part by part, and what it comes to.
use Rattle.std.proofs.Common.{◌≡◌, ◌≢◌, ℕ, ◌+◌, ◌<◌, ◌≤◌, List, [], ◌++◌, length, take, Option, Some, None}
use Rattle.std.proofs.Common.{Result, Ok, Err}
use Rattle.std.proofs.Common.{inl, inr, refl, sym, subst, ap, ◌∙◌, append_assoc, append-nil, length-append}
use Rattle.std.proofs.Common.{arith}
use Rattle.std.proofs.lemmas.Bool.{cases_lt}
use Rattle.std.proofs.Math.Seq.{take-append-add}
use Rattle.std.proofs.lemmas.List.{take_all}
use Rattle.acl_outside.specs.Desk.{DeskView}
use Rattle.acl_outside.specs.Heard.{Ending, GoesOn, Ended, BrokenOff}
use Rattle.acl_outside.specs.DeskReading.{ReadsOn}
use Rattle.acl_outside.proofs.Offered.{ReadsOn-none, ReadsOn-then}
use Rattle.pcap_reader.specs.declared.capture_fault.CaptureFault.{CaptureFault}
use Rattle.std.specs.Prelude.{◌⊎◌, ⊤, Bool, ◌==◌, true, false, not, nat_lt, slice_get}
use Rattle.pcap_reader.specs.declared.capture_fault.CaptureFault.TheVariants.{HeaderCut, RecordCut, RecordTooLong}
use Rattle.pcap_reader.specs.declared.capture_fault.CaptureFault.TheVariants.{ReadFault}
use Rattle.pcap_reader.specs.declared.capture_fault.CaptureFault.TheVariants.{PngCut, PngLength, PngOrder, PngVersion}
use Rattle.pcap_reader.specs.declared.capture_fault.CaptureFault.TheVariants.{PngInterface, PngLink, PngTooMany}
use Rattle.pcap_reader.specs.Headers.{number_in}
use Rattle.pcap_reader.specs.Start.{◌>>=◌, or_fault}
use Rattle.pcap_reader.specs.Fill.{KeepsReading, IsAtEnd, Fills}
use Rattle.pcap_reader.proofs.Offered.{KeepsReading-same, KeepsReading-join, Rose-later, reads-full, reads-short}
use Rattle.pcapng_reader.specs.Block.{BlockState, Block, End, Passed, Given, Fault, block_at, block_of}
use Rattle.pcap_reader.specs.Capture.{max_captured}
use Rattle.pcap_reader.specs.Start.{link_in, link_types}
use Rattle.pcap_reader.specs.declared.link.Link.{Link}
use Rattle.pcap_reader.specs.declared.start.Order.{Order}
use Rattle.pcapng_reader.specs.Block.{front_len, front_of, front_with, is_last, is_no_len, kind_of, least_len}
use Rattle.pcapng_reader.specs.Block.{max_interfaces, order_in, padded, captured_in, refuse, said_by}
use Rattle.pcapng_reader.specs.declared.said.Said.{Said}
use Rattle.pcapng_reader.specs.declared.said.Said.TheVariants as said
use Rattle.pcapng_reader.specs.declared.front.Front.{Front}
use Rattle.pcapng_reader.specs.declared.kind.Kind.{Kind}
use Rattle.pcapng_reader.specs.declared.kind.Kind.TheVariants.{Section, Interface, Packet, Other}
use Rattle.pcapng_reader.proofs.BlockLaws.{front-whole}
use Rattle.pcapng_reader.specs.BlockReading.{HasRead, HasBroken, ReadsPart, ReadsMore, HasNoBlock, BlockStands}
use Rattle.pcapng_reader.specs.BlockReading.{FaultStands}
use Rattle.pcapng_reader.specs.BlockReading.{IsBlock, ReadsBlock, block_read, stands}
use Rattle.pcapng_reader.specs.BlockReading.{AnswersBlock, HasRoom, StandsWithin, Stays, captured_by, read_of}
use Rattle.pcapng_reader.specs.declared.blocks.BlockRead.{BlockRead}
use Rattle.pcapng_reader.specs.declared.blocks.BlockRead.TheVariants as read

-- nothing was read yet but what was read before
pub HasRead-none : (state : BlockState) (view : DeskView) → HasRead state state.first GoesOn view view
HasRead-none state view = record {
  given = [];
  parts = append-nil state.first;
  reads = ReadsOn-none view;
  end = λ e. absurd (cc);
  keeps = KeepsReading-same view;
}

-- some was read, and then more
HasRead-then : (state : BlockState) (part more : List ℕ) (ending : Ending) (old mid new : DeskView) →
    HasRead state part GoesOn old mid → ReadsOn (stands ending) more mid new → (ending ≡ Ended → IsAtEnd new) →
    KeepsReading mid new → HasRead state (part ++ more) ending old new
HasRead-then state part more ending old mid new read reads end keeps = record {
  given = read.given ++ more;
  parts = sym (append_assoc state.first read.given more) ∙ ap (λ (l : List ℕ). l ++ more) read.parts;
  reads = ReadsOn-then (stands ending) read.given more old mid new read.reads reads;
  end = end;
  keeps = KeepsReading-join old mid new read.keeps keeps;
}

-- a slice was filled
pub HasRead-full : {E : Type 0} (state : BlockState) (part before more : List ℕ) (old mid new : DeskView) →
    HasRead state part GoesOn old mid → length more ≡ length before →
    Fills {E = E} before more mid new (Ok (length before)) → HasRead state (part ++ more) GoesOn old new
HasRead-full state part before more old mid new read fits filled =
    HasRead-then state part more GoesOn old mid new read
    (rw (take_all (length before) more (omega (arith, fits))) at
    (reads-full (length before) (length before) (take (length before) more) mid new (omega arith) filled.reads))
    (λ e. absurd (cc)) filled.keeps

-- the end of the file was met before it was full
pub HasRead-short : {E : Type 0} (state : BlockState) (part before more : List ℕ) (count : ℕ) (old mid new : DeskView) →
    HasRead state part GoesOn old mid → count < length before →
    Fills {E = E} before more mid new (Ok count) → HasRead state (part ++ take count more) Ended old new
HasRead-short state part before more count old mid new read less filled =
    HasRead-then state part (take count more) Ended old mid new read
    (reads-short (length before) count (take count more) mid new less filled.reads) (λ e. filled.end less) filled.keeps

-- a read failed before it was full
pub HasBroken-from : {E : Type 0} (state : BlockState) (part before more : List ℕ) (fault : E) (old mid new :
    DeskView) →
    HasRead state part GoesOn old mid → Fills before more mid new (Err fault) →
    HasBroken state part (length part + length before) old new
HasBroken-from state part before more fault old mid new read filled =
    let broken = filled.breaks_off in
    record {
      rest = broken.bytes;
      read = HasRead-then state part broken.bytes BrokenOff old mid new read broken.reads (λ e. absurd (cc))
          filled.keeps;
      few = omega (arith, broken.few, length-append part broken.bytes);
      rose = Rose-later old mid new read.keeps filled.cause;
    }

-- the slice is full or the end was met
pub HasRead-either : {E : Type 0} (state : BlockState) (part before more : List ℕ) (count : ℕ) (old mid new :
    DeskView) →
    HasRead state part GoesOn old mid → length more ≡ length before → count ≤ length before →
    Fills {E = E} before more mid new (Ok count) →
    (ending : Ending) × ((ending ≡ GoesOn) ⊎ (ending ≡ Ended)) × HasRead state (part ++ take count more) ending old new
HasRead-either {E} state part before more count old mid new read fits within filled =
    elim (cases_lt count (length before)) [
      | inl less ↦ (Ended, inr refl, HasRead-short state part before more count old mid new read less filled)
      | inr full ↦
          let all : count ≡ length before = omega (arith, within, full) in (
            GoesOn,
            inl refl,
            rw (take_all count more (omega (arith, fits, full)))
                (HasRead-full {E = E} state part before more old mid new read fits (rw all at filled)),
          )
    ]

-- a block that is no read fault
IsBlock-is : (b : Block) (state : BlockState) (given : List ℕ) → b ≢ Fault ReadFault → block_of state given ≡ b →
    IsBlock state given b
IsBlock-is End state given isnt is = is
IsBlock-is (Passed now after) state given isnt is = is
IsBlock-is (Given captured now after) state given isnt is = is
IsBlock-is (Fault ReadFault) state given isnt is = absurd (isnt refl)
IsBlock-is (Fault fault) state given isnt is = is

-- what was read is this block
pub ReadsBlock-is : (state : BlockState) (part : List ℕ) (ending : Ending) (old new : DeskView) (b : Block) →
    HasRead state part ending old new → block_at state part ≡ b → BlockStands b ending → b ≢ Fault ReadFault →
    ReadsBlock state old new b
ReadsBlock-is state part ending old new b read is stood isnt = record {
  given = read.given;
  ending = ending;
  stood = stood;
  reads = read.reads;
  is = IsBlock-is b state read.given isnt (ap (block_at state) read.parts ∙ is);
  end = read.end;
  read_fault = λ e. absurd (isnt e);
  keeps = read.keeps;
}

-- a read failed before there was a block
pub ReadsBlock-broken : (state : BlockState) (part : List ℕ) (room : ℕ) (old new : DeskView) →
    HasBroken state part room old new →
    ((rest : List ℕ) → length (part ++ rest) < room → HasNoBlock (block_at state (part ++ rest))) →
    ReadsBlock state old new (Fault ReadFault)
ReadsBlock-broken state part room old new broken none = record {
  given = broken.read.given;
  ending = BrokenOff;
  stood = refl;
  reads = broken.read.reads;
  is = subst (λ l. HasNoBlock (block_at state l)) (sym broken.read.parts) (none broken.rest broken.few);
  end = λ e. absurd (cc);
  read_fault = λ e. broken.rose;
  keeps = broken.read.keeps;
}

-- a fault that the bytes say, whatever stands after them
abbrev pub IsPlain : CaptureFault → Type 0
IsPlain HeaderCut = ⊥
IsPlain (RecordCut number) = ⊥
IsPlain (PngCut number) = ⊥
IsPlain ReadFault = ⊥
IsPlain fault = ⊤

-- it stands where the reading goes on, and where it met the end
pub stands-plain : (fault : CaptureFault) (ending : Ending) → IsPlain fault → (ending ≡ GoesOn) ⊎ (ending ≡ Ended) →
    FaultStands fault ending
stands-plain HeaderCut ending plain or = absurd plain
stands-plain (RecordCut number) ending plain or = absurd plain
stands-plain (PngCut number) ending plain or = absurd plain
stands-plain ReadFault ending plain or = absurd plain
stands-plain fault ending plain or = or

-- such a fault is no read fault
plain_no_read : (fault : CaptureFault) → IsPlain fault → Fault fault ≢ Fault ReadFault
plain_no_read fault plain is = subst IsPlain (let e : fault ≡ ReadFault = cc in e) plain

-- what was read is such a fault
pub ReadsBlock-plain : (state : BlockState) (part : List ℕ) (ending : Ending) (old new : DeskView)
    (fault : CaptureFault) → HasRead state part ending old new → (ending ≡ GoesOn) ⊎ (ending ≡ Ended) →
    block_at state part ≡ Fault fault → IsPlain fault → ReadsBlock state old new (Fault fault)
ReadsBlock-plain state part ending old new fault read or is plain =
    ReadsBlock-is state part ending old new (Fault fault) read is (stands-plain fault ending plain or)
    (plain_no_read fault plain)

-- a step passes, or has such a fault
abbrev IsJudged : {A : Type 0} → Result A CaptureFault → Type 0
IsJudged (Ok x) = ⊤
IsJudged (Err fault) = IsPlain fault

-- a test passes or has such a fault, and then what follows does
judged_refused : {B : Type 0} (test : Bool) (fault : CaptureFault) (next : Bool → Result B CaptureFault) →
    IsPlain fault → ((x : Bool) → IsJudged (next x)) → IsJudged (refuse test fault >>= next)
judged_refused true fault next plain each = plain
judged_refused false fault next plain each = each false

-- a value is there or has such a fault, and then what follows does
judged_found : {A B : Type 0} (fault : CaptureFault) (found : Option A) (next : A → Result B CaptureFault) →
    IsPlain fault → ((x : A) → IsJudged (next x)) → IsJudged (or_fault fault found >>= next)
judged_found fault None next plain each = plain
judged_found fault (Some x) next plain each = each x

-- what a block says by its kind passes or has such a fault
said_judged : (kind : Kind) (state : BlockState) (front : Front) (bytes : List ℕ) →
    IsJudged (said_by kind state front bytes)
said_judged Section state front bytes =
    judged_refused (not (number_in front.order bytes 12 2 == 1)) (PngVersion (state.count + 1)) (λ one. Ok said.Section)
    tt (λ x. tt)
said_judged Interface state front bytes =
    judged_refused (not (nat_lt (length state.interfaces) max_interfaces)) (PngTooMany (state.count + 1))
    (λ room. Ok (said.Interface (link_in link_types (number_in front.order bytes 8 2)))) tt (λ x. tt)
said_judged Packet state front bytes =
    judged_found (PngInterface n) (slice_get state.interfaces (number_in front.order bytes 8 4)) linked tt
    (λ interface. judged_found (PngLink n) interface sized tt
    (λ link. judged_refused (nat_lt max_captured captured) (RecordTooLong n) (roomy link) tt
    (λ short. judged_refused (nat_lt front.total (padded captured + least_len Packet)) (PngLength n)
    (λ room. Ok (said.Packet link captured)) tt (λ x. tt))))
  where
    n : ℕ
    n = state.count + 1

    captured : ℕ
    captured = captured_in front bytes

    roomy : Link → Bool → Result Said CaptureFault
    roomy link short =
        refuse (nat_lt front.total (padded captured + least_len Packet)) (PngLength n)
        >>= λ room. Ok (said.Packet link captured)

    sized : Link → Result Said CaptureFault
    sized link = refuse (nat_lt max_captured captured) (RecordTooLong n) >>= roomy link

    linked : Option Link → Result Said CaptureFault
    linked interface = or_fault (PngLink n) interface >>= sized
said_judged Other state front bytes = tt

-- what a block says is refused by such a fault
pub said-plain : (kind : Kind) (state : BlockState) (front : Front) (bytes : List ℕ) (fault : CaptureFault) →
    said_by kind state front bytes ≡ Err fault → IsPlain fault
said-plain kind state front bytes fault is = subst IsJudged is (said_judged kind state front bytes)

-- and so is a front, where it is whole
pub front-plain : (state : BlockState) (bytes : List ℕ) (fault : CaptureFault) → is_last state ≡ false →
    front_len ≤ length bytes → front_of state bytes ≡ Err fault → IsPlain fault
front-plain state bytes fault few there is =
    let kind = kind_of (number_in state.order bytes 0 4) in
    subst IsJudged (sym (front-whole state bytes few there kind refl) ∙ is) (judged kind (order_in state kind bytes))
  where
    judged : (kind : Kind) (found : Option Order) →
        IsJudged (or_fault (PngOrder (state.count + 1)) found
        >>= λ order. front_with state kind order (number_in order bytes 4 4))
    judged kind None = tt
    judged kind (Some order) =
        judged_refused (is_no_len kind (number_in order bytes 4 4)) (PngLength (state.count + 1))
        (λ long. Ok (record { kind = kind; order = order; total = number_in order bytes 4 4 })) tt (λ x. tt)

-- so many bytes were read after the first, which were there before
pub ReadsPart-ok : {E : Type 0} (state : BlockState) (first before more : List ℕ) (count : ℕ) (old new : DeskView) →
    state.first ≡ first → length more ≡ length before → Fills {E = E} before more old new (Ok count) →
    ReadsPart {E = E} state (first ++ more) old new (Ok (length first + count))
ReadsPart-ok {E} state first before more count old new is fits filled =
    let none : HasRead state first GoesOn old old = subst (λ l. HasRead state l GoesOn old old) is (HasRead-none state
    old) in (
      omega (arith, filled.within, fits, length-append first more),
      (λ all.
          let full : count ≡ length before = omega (arith, all, fits, length-append first more) in
          HasRead-full {E = E} state first before more old old new none fits (rw full at filled)),
      λ less. rw (take-append-add first more count)
          (HasRead-short state first before more count old old new none
          (omega (arith, less, fits, length-append first more)) filled),
    )

-- a read that failed broke the part off
pub ReadsPart-failed : {E : Type 0} (state : BlockState) (first before more : List ℕ) (fault : E) (old new : DeskView) →
    state.first ≡ first → length more ≡ length before → Fills before more old new (Err fault) →
    HasBroken state state.first (length (first ++ more)) old new
ReadsPart-failed state first before more fault old new is fits filled =
    let none : HasRead state first GoesOn old old = subst (λ l. HasRead state l GoesOn old old) is (HasRead-none state
    old) in
    subst (λ l. HasBroken state l (length (first ++ more)) old new) (sym is)
    (subst (λ n. HasBroken state first n old new) (omega (arith, fits, length-append first more))
    (HasBroken-from state first before more fault old old new none filled))

-- the same where no byte was there before
pub ReadsPart-none : {E : Type 0} (state : BlockState) (before more : List ℕ) (result : Result ℕ E)
    (old new : DeskView) → state.first ≡ [] → length more ≡ length before → Fills {E = E} before more old new result →
    ReadsPart {E = E} state more old new result
ReadsPart-none {E} state before more (Ok count) old new is fits filled =
    let same : 0 + count ≡ count = omega arith in
    subst (λ (n : ℕ). ReadsPart {E = E} state more old new (Ok n)) same
    (ReadsPart-ok {E = E} state [] before more count old new is fits filled)
ReadsPart-none {E} state before more (Err fault) old new is fits filled =
    ReadsPart-failed {E = E} state [] before more fault old new is fits filled

-- a block that is refused leaves the reader as it was
pub answers_fault : {state : BlockState} {buffer : List ℕ} {old new : DeskView} {fault : CaptureFault} →
    ReadsBlock state old new (Fault fault) → AnswersBlock state state buffer old new (Err fault)
answers_fault read = record { block = read; within = tt; stays = refl }

-- and so does the end of the file
pub answers_end : {state : BlockState} {buffer : List ℕ} {old new : DeskView} →
    ReadsBlock state old new End → AnswersBlock state state buffer old new (Ok read.End)
answers_end read = record { block = read; within = tt; stays = refl }

-- a block was read, which changes what the reader knows
stays_read : (x : Said) (at : ℕ) (state now : BlockState) → Stays state now (Ok (read_of x at))
stays_read said.Section at state now = tt
stays_read (said.Interface link) at state now = tt
stays_read (said.Packet link captured) at state now = tt
stays_read said.Other at state now = tt

-- the captured bytes of a packet have room after its first 28 bytes
pub within_block : (x : Said) (state : BlockState) (front : Front) (len : ℕ) → HasRoom state front x →
    front.total ≤ len → StandsWithin len (Ok (read_of x 28))
within_block said.Section state front len room fits = tt
within_block (said.Interface link) state front len room fits = tt
within_block (said.Packet link captured) state front len room fits = omega (arith, room.1, fits)
within_block said.Other state front len room fits = tt

-- or they alone stand in the buffer
pub within_front : (x : Said) (len : ℕ) → captured_by x ≤ len → StandsWithin len (Ok (read_of x 0))
within_front said.Section len fits = tt
within_front (said.Interface link) len fits = tt
within_front (said.Packet link captured) len fits = omega (arith, fits)
within_front said.Other len fits = tt

-- the block that was read, by what the code has in place of its parts
pub answers_read : {state : BlockState} {old new : DeskView} {bytes buffer : List ℕ} {says now : BlockState}
    {s : BlockRead} (x : Said) (at : ℕ) → buffer ≡ bytes → now ≡ says → s ≡ read_of x at →
    StandsWithin (length buffer) (Ok (read_of x at)) →
    ReadsBlock state old new (block_read says bytes (Ok (read_of x at))) →
    AnswersBlock state now buffer old new (Ok s)
answers_read {state} {old} {new} {bytes} {buffer} {says} {now} {s} x at is_bytes is_said is_read within reads =
    subst (λ r. AnswersBlock state now buffer old new (Ok r)) (sym is_read)
    record {
      block = subst (λ b. ReadsBlock state old new (block_read now b (Ok (read_of x at)))) (sym is_bytes)
          (subst (λ k. ReadsBlock state old new (block_read k bytes (Ok (read_of x at)))) (sym is_said) reads);
      within = within;
      stays = stays_read x at state now;
    }

-- So many bytes more were read.
pub record Passes (state : BlockState) (part : List ℕ) (count : ℕ) (old new : DeskView) : Type 0 where
  pub more : List ℕ
  pub len : length more ≡ count
  pub read : HasRead state (part ++ more) GoesOn old new

-- After these bytes of a block more were asked for.
module _ (state : BlockState) (part : List ℕ) (number : ℕ) (old new : DeskView) where
  -- where fewer were read, the block is cut or a read failed
  pub ReadsMore-refused : {T : Type 0} (Are : T → List ℕ → Type 0) (fault : CaptureFault) (count : ℕ) →
      ReadsMore Are state part count number old new (Err fault) →
      ((more : List ℕ) → length more < count → HasRead state (part ++ more) Ended old new →
      ReadsBlock state old new (Fault (PngCut number))) →
      (HasBroken state part (length part + count) old new → ReadsBlock state old new (Fault ReadFault)) →
      ReadsBlock state old new (Fault fault)
  ReadsMore-refused Are ReadFault count more cut broken = broken more
  ReadsMore-refused Are fault count more cut broken =
      subst (λ f. ReadsBlock state old new (Fault f)) (sym more.0) (cut more.1.0 more.1.1 more.1.2)

  -- where fewer were read after the first of them, fewer were read in all
  pub ReadsMore-later : {T U : Type 0} (Are : T → List ℕ → Type 0) (Before : U → List ℕ → Type 0)
      (fault : CaptureFault) (first : List ℕ) (few count : ℕ) → length first + few ≤ count →
      ReadsMore Before state (part ++ first) few number old new (Err fault) →
      ReadsMore Are state part count number old new (Err fault)
  ReadsMore-later Are Before ReadFault first few count within more = record {
    rest = first ++ more.rest;
    read = subst (λ l. HasRead state l BrokenOff old new) (append_assoc part first more.rest) more.read;
    few = omega (
      arith,
      within,
      more.few,
      length-append part (first ++ more.rest),
      length-append first more.rest,
      length-append (part ++ first) more.rest,
      length-append part first,
    );
    rose = more.rose;
  }
  ReadsMore-later Are Before fault first few count within more = (
    more.0,
    (
      first ++ more.1.0,
      omega (arith, within, more.1.1, length-append first more.1.0),
      subst (λ l. HasRead state l Ended old new) (append_assoc part first more.1.0) more.1.2,
    ),
  )

  -- the same of fewer words about what was read
  pub ReadsMore-weaker : {T : Type 0} (Are Less : T → List ℕ → Type 0) (result : Result T CaptureFault) (count : ℕ) →
      ((x : T) (more : List ℕ) → Are x more → Less x more) →
      ReadsMore Are state part count number old new result → ReadsMore Less state part count number old new result
  ReadsMore-weaker Are Less (Ok x) count weaker more = (more.0, weaker x more.0 more.1, more.2)
  ReadsMore-weaker Are Less (Err ReadFault) count weaker more = more
  ReadsMore-weaker Are Less (Err fault) count weaker more = more

-- What the reader of a capture comes to: the next record, the first bytes of a file, and their records. These are the
-- only lemmas that know the formats of captures.
use Rattle.std.proofs.Common.{◌≡◌, ◌≢◌, ℕ, zero, suc, ◌<◌, List, [], ◌∷◌, ◌++◌, length, map, drop, All}
use Rattle.std.proofs.Common.{Option, Some, None, Result, Ok, Err, inl, inr, refl, sym, subst, ap, ◌∙◌, append-nil}
use Rattle.std.proofs.Common.{arith}
use Rattle.std.specs.Bool.{⊤}
use Rattle.std.proofs.lemmas.List.{drop-append-le}
use Rattle.acl_outside.specs.Fault.{Rose}
use Rattle.acl_outside.specs.Desk.{DeskView}
use Rattle.acl_outside.specs.Heard.{Ending, Ended, GoesOn, BrokenOff}
use Rattle.acl_outside.specs.DeskReading.{ReadsOn, and_goes_on}
use Rattle.header_extract.specs.Class.{FrameClass}
use Rattle.pcap_reader.specs.declared.capture_fault.CaptureFault.{CaptureFault}
use Rattle.pcap_reader.specs.declared.capture_fault.CaptureFault.TheVariants.{HeaderCut, RecordCut, PngCut, ReadFault}
use Rattle.pcap_reader.specs.State.{Answer, CaptureRecord}
use Rattle.pcap_reader.specs.Fill.{KeepsReading, IsAtEnd}
use Rattle.pcapng_reader.specs.Capture.{AnyState, Next, End as NoMore, Record, Fault as Failing, capture_of}
use Rattle.pcapng_reader.specs.Capture.{next_of, records_from, records_in, size_of, whole_records}
use Rattle.pcapng_reader.specs.Reader.{IsEnd, ReadsNext, ReadsStart, start_len, start_of}
use Rattle.pcapng_reader.specs.BlockReading.{stands}
use Rattle.pcapng_reader.proofs.Offered.{IsDecidedNext, next_more, next-append, CountsNext, next-counts}
use Rattle.pcapng_reader.proofs.Offered.{IsShorterNext, next-shorter, next_cases, FirstNone, next-first}
use Rattle.pcapng_reader.proofs.Offered.{records-record, records-end, records-fault, records-none, records-nothing}
use Rattle.pcapng_reader.proofs.Offered.{unanswered, start-append, start-begun, start-first, len_cases}
use Rattle.pcapng_reader.proofs.Offered.{capture-read, capture-start, start-fault, whole-none}
use Rattle.capture_report.specs.declared.batch.BatchEnd.{BatchEnd}
use Rattle.capture_report.specs.declared.batch.BatchEnd.TheVariants.{More, End, Fault}
use Rattle.capture_report.specs.NextRecord.{IsBegun, MayGoOn, record_in}
use Rattle.capture_report.specs.Packet.{IsPacket}
use Rattle.capture_report.specs.Shown.{packet_of}
use Rattle.capture_report.specs.Streams.{IsUnbroken}
use Rattle.capture_report.specs.Taken.{AreAll, Took, TakesRecord, end_of}

-- a reader that has read the first bytes gave no record, and may be asked
pub begun-from : (state : AnyState) (old new : DeskView) → ReadsStart old new (Ok state) → IsBegun state
begun-from state old new reads =
    let begun = start-begun reads.given state reads.answer.0 in
    (record { reading = begun.1; ahead = start-first reads.given state reads.answer.0 }, begun.0)

-- no bytes have no records
pub records-of_none : (state : AnyState) → MayGoOn state → (records_from state []).records ≡ []
records-of_none state may = records-nothing state may.ahead

-- the state after a record
past_record : (before now : AnyState) (given : List ℕ) (captured : CaptureRecord) →
    next_of before given ≡ Record captured now [] → MayGoOn before → MayGoOn now
past_record before now given captured next may =
    let counts = subst (CountsNext before) next (next-counts before given) in
    let first = subst FirstNone next (next-first before given) in
    record { reading = counts.2 ∙ may.reading; ahead = omega (arith, ap length first) }

-- one record was taken
Took-record : (before now : AnyState) (captured : CaptureRecord) (old new : DeskView) →
    (reads : ReadsNext before now old new (Ok (Some captured))) →
    Took before now (captured ∷ []) reads.given old new More
Took-record before now captured old new reads =
    let counts = subst (CountsNext before) reads.next (next-counts before reads.given) in
    record {
      ending = reads.ending;
      stood = reads.stood;
      bytes = λ later.
          let next : next_of before (reads.given ++ later) ≡ Record captured now later =
          next-append before reads.given later (subst IsDecidedNext (sym reads.next) tt)
          ∙ ap (λ n. next_more n later) reads.next in
          records-record before (reads.given ++ later) captured now later next;
      reads = reads.reads;
      at_end = reads.end;
      read_fault = λ e. absurd (cc);
      keeps = reads.keeps;
      goes_on = λ full may. past_record before now reads.given captured reads.next may;
      count = reads.state.1;
      few = λ below. omega (arith, counts.0, counts.1);
    }

-- nothing stands next
at_end : (state : AnyState) (left : List ℕ) → IsEnd (next_of state left) →
    records_from state left ≡ record { records = []; fault = None }
at_end state left ends = go (next_of state left) refl
  where
    go : (n : Next) → next_of state left ≡ n → records_from state left ≡ record { records = []; fault = None }
    go (NoMore later) is = records-end state left later is
    go (Record captured now after) is = absurd (subst IsEnd is ends)
    go (Failing fault) is = absurd (subst IsEnd is ends)

-- where the end of the file was met, there is no more of it
only_given : (given more : List ℕ) (ending : Ending) → ending ≡ Ended → (ending ≡ Ended → more ≡ []) →
    given ++ more ≡ given
only_given given more ending ended none =
    ap (λ (l : List ℕ). given ++ l) (none ended) ∙ append-nil given

-- at the end of the file there are no records if none stands next
AreAll-end : (state : AnyState) (given : List ℕ) (ending : Ending) → ending ≡ Ended → IsEnd (next_of state given) →
    AreAll state given ending [] None
AreAll-end state given ending ended next more none =
    ap (records_from state) (only_given given more ending ended none) ∙ at_end state given next

-- at the end of the file there are no records but a fault if it stands next
AreAll-cut : (state : AnyState) (given : List ℕ) (ending : Ending) (fault : CaptureFault) → ending ≡ Ended →
    next_of state given ≡ Failing fault → AreAll state given ending [] (Some fault)
AreAll-cut state given ending fault ended next more none =
    ap (records_from state) (only_given given more ending ended none) ∙ records-fault state given fault next

-- wherever the file ends there are no records but a fault if that is decided
AreAll-decided : (state : AnyState) (given : List ℕ) (ending : Ending) (fault : CaptureFault) →
    next_of state given ≡ Failing fault → IsDecidedNext (Failing fault) → AreAll state given ending [] (Some fault)
AreAll-decided state given ending fault next decided more none =
    records-fault state (given ++ more) fault
    (next-append state given more (subst IsDecidedNext (sym next) decided)
    ∙ ap (λ n. next_more n more) next)

-- no record was there: the end of the capture
Took-end : (before now : AnyState) (old new : DeskView) → (reads : ReadsNext before now old new (Ok None)) →
    Took before now [] reads.given old new End
Took-end before now old new reads = record {
  ending = reads.ending;
  stood = reads.stood;
  bytes = AreAll-end before reads.given reads.ending reads.stood reads.next.0;
  reads = reads.reads;
  at_end = reads.end;
  read_fault = λ e. absurd (cc);
  keeps = reads.keeps;
  goes_on = λ full. absurd (cc);
  count = omega (arith, reads.state.1);
  few = λ below. omega (arith, reads.state.1);
}

-- The bytes before a fault have no record, and say so.
abbrev FaultSays : AnyState → List ℕ → Ending → CaptureFault → Type 0
FaultSays before given ending ReadFault = (records_from before given).records ≡ []
FaultSays before given ending fault = AreAll before given ending [] (Some fault)

-- the bytes that were read before a fault say so
fault_says : (fault : CaptureFault) (before now : AnyState) (old new : DeskView) →
    (reads : ReadsNext before now old new (Err fault)) → FaultSays before reads.given reads.ending fault
fault_says ReadFault before now old new reads =
    records-none before reads.given (unanswered before now reads.given ReadFault reads.next)
fault_says HeaderCut before now old new reads =
    AreAll-cut before reads.given reads.ending HeaderCut reads.stood reads.next
fault_says (RecordCut n) before now old new reads =
    AreAll-cut before reads.given reads.ending (RecordCut n) reads.stood reads.next
fault_says (PngCut n) before now old new reads =
    AreAll-cut before reads.given reads.ending (PngCut n) reads.stood reads.next
fault_says fault before now old new reads =
    AreAll-decided before reads.given reads.ending fault reads.next tt

-- no record was there: a fault
Took-fault : (fault : CaptureFault) (before now : AnyState) (old new : DeskView) →
    (reads : ReadsNext before now old new (Err fault)) → Took before now [] reads.given old new (Fault fault)
Took-fault ReadFault before now old new reads = record {
  ending = reads.ending;
  stood = reads.stood;
  bytes = fault_says ReadFault before now old new reads;
  reads = reads.reads;
  at_end = reads.end;
  read_fault = λ e. reads.read_fault refl;
  keeps = reads.keeps;
  goes_on = λ full. absurd (cc);
  count = omega (arith, reads.state.1);
  few = λ below. omega (arith, reads.state.1);
}
Took-fault fault before now old new reads = record {
  ending = reads.ending;
  stood = reads.stood;
  bytes = fault_says fault before now old new reads;
  reads = reads.reads;
  at_end = reads.end;
  read_fault = λ e. absurd (cc);
  keeps = reads.keeps;
  goes_on = λ full. absurd (cc);
  count = omega (arith, reads.state.1);
  few = λ below. omega (arith, reads.state.1);
}

-- how a batch of the records of one answer ends
abbrev stop_of : Answer → BatchEnd
stop_of (Ok None) = End
stop_of (Ok (Some captured)) = More
stop_of (Err fault) = Fault fault

-- what an answer says was taken
Took-answer : (answer : Answer) (before now : AnyState) (old new : DeskView) →
    (reads : ReadsNext before now old new answer) →
    Took before now (record_in answer) reads.given old new (stop_of answer)
Took-answer (Ok None) before now old new reads = Took-end before now old new reads
Took-answer (Ok (Some captured)) before now old new reads = Took-record before now captured old new reads
Took-answer (Err fault) before now old new reads = Took-fault fault before now old new reads

-- the same of the end of a batch, if there is one
abbrev pub stop_or_more : Option BatchEnd → BatchEnd
stop_or_more None = More
stop_or_more (Some stop) = stop

-- the end of a batch of one answer is how the answer ends it
stop-is : (answer : Answer) → stop_or_more (end_of answer) ≡ stop_of answer
stop-is (Ok None) = refl
stop-is (Ok (Some captured)) = refl
stop-is (Err fault) = refl

-- no record more comes
abbrev pub IsStop : BatchEnd → Type 0
IsStop More = ⊥
IsStop End = ⊤
IsStop (Fault fault) = ⊤

-- an answer that ends a batch is no record
pub end-is_stop : (answer : Answer) (stop : BatchEnd) → Some stop ≡ end_of answer → IsStop stop
end-is_stop (Ok None) stop is = subst IsStop (let e : End ≡ stop = cc in e) tt
end-is_stop (Ok (Some captured)) stop is = absurd (cc)
end-is_stop (Err fault) stop is = subst IsStop (let e : Fault fault ≡ stop = cc in e) tt

-- how many records an answer gives where a batch of it ends so
abbrev pub records_by : BatchEnd → ℕ
records_by More = 1
records_by End = 0
records_by (Fault fault) = 0

-- a batch that comes to its end gives no record
pub records_by-stop : (stop : BatchEnd) → IsStop stop → records_by stop ≡ 0
records_by-stop More is = absurd is
records_by-stop End is = refl
records_by-stop (Fault fault) is = refl

-- an answer has as many records as its batch gives
one_record : (answer : Answer) → length (record_in answer) ≡ records_by (stop_of answer)
one_record (Ok None) = refl
one_record (Ok (Some captured)) = refl
one_record (Err fault) = refl

-- At most one record was taken, and its packet was put after the others.
pub record TookRecord (before after : AnyState) (packets packets_new : List FrameClass) (old new : DeskView)
    (stop : BatchEnd) : Type 0 where
  pub records : List CaptureRecord
  pub given : List ℕ
  pub took : Took before after records given old new stop
  pub packets_are : packets_new ≡ packets ++ map packet_of records
  pub keys : All IsPacket (map packet_of records)
  pub number : length records ≡ records_by stop

-- what one call of the reader comes to
pub TookRecord-from : (before after : AnyState) (packets packets_new : List FrameClass) (old new : DeskView)
    (result : Option BatchEnd) → TakesRecord before after packets packets_new old new result →
    TookRecord before after packets packets_new old new (stop_or_more result)
TookRecord-from before after packets packets_new old new result t =
    let stop : stop_or_more result ≡ stop_of t.answer = ap stop_or_more t.stop ∙ stop-is t.answer in
    subst (TookRecord before after packets packets_new old new) (sym stop)
    record {
      records = record_in t.answer;
      given = t.takes.given;
      took = Took-answer t.answer before after old new t.takes;
      packets_are = t.packets;
      keys = t.keys;
      number = one_record t.answer;
    }

-- Records begin with others.
pub record AreFirst (front all : List CaptureRecord) : Type 0 where
  pub rest : List CaptureRecord
  pub parts : all ≡ front ++ rest

-- all records begin with none
none_first : (front all : List CaptureRecord) → front ≡ [] → AreFirst front all
none_first front all none = record { rest = all; parts = ap (λ (l : List CaptureRecord). l ++ all) (sym none) }

-- more bytes leave the first records as they are
record_first : (state : AnyState) (left more : List ℕ) (captured : CaptureRecord) (now : AnyState) (later : List ℕ) →
    next_of state left ≡ Record captured now later →
    AreFirst (records_from now later).records (records_from now (later ++ more)).records →
    AreFirst (records_from state left).records (records_from state (left ++ more)).records
record_first state left more captured now later next follow =
    let longer : next_of state (left ++ more) ≡ Record captured now (later ++ more) =
    next-append state left more (subst IsDecidedNext (sym next) tt) ∙ ap (λ n. next_more n more) next in
    record {
      rest = follow.rest;
      parts =
          ap (λ r. r.records) (records-record state (left ++ more) captured now (later ++ more) longer)
          ∙ ap (λ l. captured ∷ l) follow.parts
          ∙ ap (λ (l : List CaptureRecord). l ++ follow.rest)
          (sym (ap (λ r. r.records) (records-record state left captured now later next)));
    }

-- the records of some bytes are the first of those with more bytes
records_more : (fuel : ℕ) (state : AnyState) (left more : List ℕ) → size_of state left < fuel →
    AreFirst (records_from state left).records (records_from state (left ++ more)).records
records_more zero state left more enough = absurd (omega (arith, enough))
records_more (suc fuel) state left more enough =
    elim (next_cases (next_of state left)) [
      | inl ends ↦ none_first _ _ (ap (λ r. r.records) (records-end state left ends.0 ends.1))
      | inr (inl whole) ↦
          let shorter = subst (IsShorterNext (size_of state left)) whole.3 (next-shorter state left) in
          record_first state left more whole.0 whole.1 whole.2 whole.3
          (records_more fuel whole.1 whole.2 more (omega (arith, shorter, enough)))
      | inr (inr fails) ↦ none_first _ _ (ap (λ r. r.records) (records-fault state left fails.0 fails.1))
    ]

-- the whole records of a file's first bytes are the first of the file's, whatever its header says
first_by_start : (bytes more : List ℕ) (result : Result AnyState CaptureFault) → start_of bytes ≡ result →
    AreFirst (whole_records bytes) (whole_records (bytes ++ more))
first_by_start bytes more (Err fault) says =
    none_first (whole_records bytes) (whole_records (bytes ++ more)) (ap records_in (start-fault bytes fault says))
first_by_start bytes more (Ok state) says =
    let len = start_len state in
    let left : List ℕ = drop len bytes in
    let longer : start_of (bytes ++ more) ≡ Ok state =
    start-append bytes more (λ e. absurd (let f = sym e ∙ says in cc)) ∙ says in
    let first = records_more (suc (size_of state left)) state left more (omega arith) in
    let alone : whole_records bytes ≡ (records_from state left).records =
    ap records_in (capture-start bytes state says) in
    let all : whole_records (bytes ++ more) ≡ (records_from state (left ++ more)).records =
    ap records_in (capture-start (bytes ++ more) state longer)
    ∙ ap (λ (l : List ℕ). (records_from state l).records)
    (drop-append-le len bytes more (len_cases state bytes says)) in
    record {
      rest = first.rest;
      parts = all ∙ first.parts ∙ ap (λ (l : List CaptureRecord). l ++ first.rest) (sym alone);
    }

-- the whole records of the first bytes of a capture are the first of its records
pub whole_first : (bytes more : List ℕ) → AreFirst (whole_records bytes) (whole_records (bytes ++ more))
whole_first bytes more = first_by_start bytes more (start_of bytes) refl

-- The first bytes were read, and these records follow from the state, whatever else the file may have.
pub record ReadHeader (state : AnyState) (old new : DeskView) : Type 0 where
  pub given : List ℕ
  pub reads : ReadsOn and_goes_on given old new
  pub keeps : KeepsReading old new
  pub says : (more : List ℕ) → capture_of (given ++ more) ≡ Ok (records_from state more)

-- a file header that was read is one from which the records follow
pub ReadHeader-from : (state : AnyState) (old new : DeskView) → ReadsStart old new (Ok state) →
    ReadHeader state old new
ReadHeader-from state old new reads = record {
  given = reads.given;
  reads = reads.reads;
  keeps = reads.keeps;
  says = λ more. capture-read reads.given more state reads.answer;
}

-- The file header was read, and has this fault, whatever else the file may have.
pub record RefusedHeader (fault : CaptureFault) (old new : DeskView) : Type 0 where
  pub given : List ℕ
  pub ending : Ending
  pub unbroken : IsUnbroken ending
  pub reads : ReadsOn (stands ending) given old new
  pub at_end : ending ≡ Ended → IsAtEnd new
  pub keeps : KeepsReading old new
  pub says : (more : List ℕ) → (ending ≡ Ended → more ≡ []) → capture_of (given ++ more) ≡ Err fault

-- The bytes of a file header that the file cuts are no capture.
header_cut : (fault : CaptureFault) (old new : DeskView) (given : List ℕ) → ReadsOn (stands Ended) given old new →
    IsAtEnd new → KeepsReading old new → start_of given ≡ Err fault → RefusedHeader fault old new
header_cut fault old new given reads end keeps says = record {
  given = given;
  ending = Ended;
  unbroken = tt;
  reads = reads;
  at_end = λ e. end;
  keeps = keeps;
  says = λ more none. ap capture_of (only_given given more Ended refl none) ∙ start-fault given fault says;
}

-- Nor are those of a file header that the first bytes refuse.
header_decided : (fault : CaptureFault) (old new : DeskView) (given : List ℕ) → ReadsOn and_goes_on given old new →
    KeepsReading old new → start_of given ≡ Err fault → fault ≢ HeaderCut → RefusedHeader fault old new
header_decided fault old new given reads keeps says isnt = record {
  given = given;
  ending = GoesOn;
  unbroken = tt;
  reads = reads;
  at_end = λ e. absurd (cc);
  keeps = keeps;
  says = λ more none.
      start-fault (given ++ more) fault
      (start-append given more (λ e. isnt (let f = sym says ∙ e in cc)) ∙ says);
}

-- a file header that was read with a fault is refused
pub RefusedHeader-from : (fault : CaptureFault) (old new : DeskView) → fault ≢ ReadFault →
    (reads : ReadsStart old new (Err fault)) → RefusedHeader fault old new
RefusedHeader-from ReadFault old new isnt reads = absurd (isnt refl)
RefusedHeader-from HeaderCut old new isnt reads =
    header_cut HeaderCut old new reads.given reads.reads (reads.end refl) reads.keeps reads.answer
RefusedHeader-from (RecordCut n) old new isnt reads =
    header_cut (RecordCut n) old new reads.given reads.reads (reads.end refl) reads.keeps reads.answer
RefusedHeader-from (PngCut n) old new isnt reads =
    header_cut (PngCut n) old new reads.given reads.reads (reads.end refl) reads.keeps reads.answer
RefusedHeader-from fault old new isnt reads =
    header_decided fault old new reads.given reads.reads reads.keeps reads.answer (λ e. absurd (cc))

-- The reading broke off in the file header: there is no record.
pub record BrokenHeader (old new : DeskView) : Type 0 where
  pub given : List ℕ
  pub reads : ReadsOn (stands BrokenOff) given old new
  pub keeps : KeepsReading old new
  pub none : whole_records given ≡ []
  pub read_fault : Rose old.read_faults new.read_faults

-- at a read fault the reading broke off in the file header
pub BrokenHeader-from : (old new : DeskView) → ReadsStart old new (Err ReadFault) → BrokenHeader old new
BrokenHeader-from old new reads = record {
  given = reads.given;
  reads = reads.reads;
  keeps = reads.keeps;
  none = whole-none reads.given ReadFault reads.answer;
  read_fault = reads.read_fault refl;
}

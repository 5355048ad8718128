-- What the calls of a reader promise, from what was read.
use Rattle.std.proofs.Common.{Result, IfOk, IfSome, ◌≡◌, ℕ, ◌+◌, ◌<◌, ◌≤◌, List, [], ◌++◌, length, take, Option, Some, None, Ok, Err, refl, inl, inr, sym, subst, ap, ◌∙◌, append-nil, arith, length-take}
use Rattle.std.proofs.lemmas.Bool.{false≢true, cases_eq, cases_lt, eq-eqb}
use Rattle.std.proofs.lemmas.List.{take_all, take-append-le}
use Rattle.acl_outside.specs.Fault.{Rose}
use Rattle.acl_outside.specs.Told.{Changes}
use Rattle.acl_outside.specs.Desk.{Content, DeskView, Gives}
use Rattle.acl_outside.specs.Heard.{BrokenOff, Ended, with_ending}
use Rattle.acl_outside.specs.DeskReading.{ReadsOn, and_goes_on}
use Rattle.acl_outside.proofs.Offered.{Changes-weaker, ReadsOn-then}
use Rattle.pcap_reader.specs.declared.capture_fault.CaptureFault.TheVariants.{RecordCut, RecordTooLong, TooManyRecords, ReadFault}
use Rattle.pcap_reader.specs.declared.capture_fault.CaptureFault.{CaptureFault}
use Rattle.pcap_reader.specs.declared.state.CaptureState.{CaptureState}
use Rattle.pcap_reader.specs.State.{CaptureRecord, record_of}
use Rattle.pcap_reader.specs.Capture.{Next, End, Record, Fault, max_records, max_captured, record_header_len, next_of}
use Rattle.pcap_reader.specs.Fill.{KeepsReading, IsAtEnd, Fills}
use Rattle.pcap_reader.specs.Reader.{HasHeader, HasNoRecord, BreaksOffAt, ReadsNext, answer_in, captured_in}
use Rattle.pcap_reader.proofs.FillLaws.{KeepsReading-join, Rose-later, reads-full, reads-short}
use Rattle.pcap_reader.proofs.NextLaws.{IsDecided, with_more, next_of-append, next_of-whole, next_of-part}
use Rattle.pcap_reader.proofs.NextLaws.{next_of-cut, next_of-too_long, next_of-too_many}

-- what was left began with the record, where it is told
told-record : (state : CaptureState) (given : List ℕ) (captured : CaptureRecord) (old new : Option Content) →
    next_of state given ≡ Record captured [] →
    Changes (Gives given) old new → Changes (λ was now. next_of state was.left ≡ Record captured now.left) old new
told-record state given captured old new whole step =
    Changes-weaker (Gives given) (λ was now. next_of state was.left ≡ Record captured now.left)
    (λ was now gives.
    ap (next_of state) gives.left
    ∙ next_of-append state given now.left (subst IsDecided (sym whole) tt)
    ∙ ap (λ n. with_more n now.left) whole)
    old new step

-- all that was left was given, where it is told
told-end : (state : CaptureState) (given : List ℕ) (next : Next) (old new : Option Content) →
    next_of state given ≡ next →
    ((content : Content) → new ≡ Some content → content.left ≡ []) → Changes (Gives given) old new →
    Changes (λ was now. next_of state was.left ≡ next) old new
told-end state given next None None answer end step = tt
told-end state given next (Some was) (Some now) answer end step =
    ap (next_of state) (step.left ∙ ap (λ (l : List ℕ). given ++ l) (end now refl) ∙ append-nil given) ∙ answer
told-end state given next None (Some now) answer end step = absurd step
told-end state given next (Some was) None answer end step = absurd step

-- as many bytes as the header says
pub ReadsNext-record : (state : CaptureState) (captured : List ℕ) (old mid new : DeskView) →
    HasHeader state (length captured) old mid → ReadsOn and_goes_on captured mid new → KeepsReading mid new →
    ReadsNext state old new (Ok (Some (record_of state captured)))
ReadsNext-record state captured old mid new h reads keeps =
    let header = h.header in
    let whole = next_of-whole state header captured h.few h.whole h.says
    (subst (λ n. n ≤ max_captured) h.says h.lawful) in
    let both = ReadsOn-then and_goes_on header captured old mid new h.reads reads in
    record {
      given = header ++ captured;
      reads = both;
      next = whole;
      told = told-record state (header ++ captured) (record_of state captured) old.content new.content whole both.told;
      end = λ e. absurd (false≢true e);
      read_fault = λ e. absurd (cc);
      keeps = KeepsReading-join old mid new h.keeps keeps;
    }

-- fewer bytes than the header says are a record that is cut
part_of_record : (state : CaptureState) (captured : ℕ) (part : List ℕ) (old mid : DeskView)
    (h : HasHeader state captured old mid) → length part < captured →
    next_of state (h.header ++ part) ≡ Fault (RecordCut (state.count + 1))
part_of_record state captured part old mid h less = next_of-part state h.header part h.few h.whole
    (subst (λ n. length part < n) h.says less) (subst (λ n. n ≤ max_captured) h.says h.lawful)

-- fewer bytes than the header says, and the end of the file
pub ReadsNext-cut : (state : CaptureState) (captured : ℕ) (part : List ℕ) (old mid new : DeskView) →
    HasHeader state captured old mid →
    length part < captured → ReadsOn (with_ending Ended) part mid new → IsAtEnd new → KeepsReading mid new →
    ReadsNext state old new (Err (RecordCut (state.count + 1)))
ReadsNext-cut state captured part old mid new h less reads end keeps =
    let header = h.header in
    let cut = part_of_record state captured part old mid h less in
    let both = ReadsOn-then (with_ending Ended) header part old mid new h.reads reads in
    record {
      given = header ++ part;
      reads = both;
      next = cut;
      told = told-end state (header ++ part)
          (Fault (RecordCut (state.count + 1))) old.content new.content cut end both.told;
      end = λ e. end;
      read_fault = λ e. absurd (cc);
      keeps = KeepsReading-join old mid new h.keeps keeps;
    }

-- bytes that begin with no whole record, and a read that failed
broken_off : (state : CaptureState) (front : List ℕ) (old new : DeskView) → HasNoRecord (next_of state front) →
    ReadsOn (with_ending BrokenOff) front old new → Rose old.read_faults new.read_faults → KeepsReading old new →
    ReadsNext state old new (Err ReadFault)
broken_off state front old new no_whole reads rose keeps = record {
  given = front;
  reads = reads;
  next = record { front = front; parts = sym (append-nil front); no_whole = no_whole };
  told = Changes-weaker (Gives front)
      (λ was now. BreaksOffAt (λ begun. HasNoRecord (next_of state begun)) was.left now.left)
      (λ was now gives. record { front = front; parts = gives.left; no_whole = no_whole }) old.content
      new.content reads.told;
  end = λ e. absurd (false≢true e);
  read_fault = λ e. rose;
  keeps = keeps;
}

-- fewer bytes than the header says, and a read that failed
pub ReadsNext-broken : (state : CaptureState) (captured : ℕ) (part : List ℕ) (old mid new : DeskView) →
    HasHeader state captured old mid →
    length part < captured → ReadsOn (with_ending BrokenOff) part mid new →
    Rose mid.read_faults new.read_faults → KeepsReading mid new →
    ReadsNext state old new (Err ReadFault)
ReadsNext-broken state captured part old mid new h less reads rose keeps =
    let header = h.header in
    let cut = part_of_record state captured part old mid h less in
    broken_off state (header ++ part) old new (subst HasNoRecord (sym cut) tt)
    (ReadsOn-then (with_ending BrokenOff) header part old mid new h.reads reads) (Rose-later old mid new h.keeps rose)
    (KeepsReading-join old mid new h.keeps keeps)

-- nothing was left, where it is told
told-none : (state : CaptureState) (old new : Option Content) →
    ((content : Content) → new ≡ Some content → content.left ≡ []) → Changes (Gives []) old new →
    Changes (λ was now. (next_of state was.left ≡ End) × (now.left ≡ was.left)) old new
told-none state None None end step = tt
told-none state (Some was) (Some now) end step =
    let none : was.left ≡ [] = step.left ∙ end now refl in
    (ap (next_of state) none, end now refl ∙ sym none)
told-none state None (Some now) end step = absurd step
told-none state (Some was) None end step = absurd step

-- the end of the file where a record may begin
pub ReadsNext-end : {E : Type 0} (state : CaptureState) (room into : List ℕ) (old new : DeskView) →
    0 < length room → Fills {E = E} room into old new (Ok 0) → ReadsNext state old new (Ok None)
ReadsNext-end state room into old new some filled =
    let reads = reads-short (length room) 0 [] old new some filled.reads in
    record {
      given = [];
      reads = reads;
      next = (refl, refl);
      told = told-none state old.content new.content (filled.end some) reads.told;
      end = λ e. filled.end some;
      read_fault = λ e. absurd (cc);
      keeps = filled.keeps;
    }

-- the end of the file within a header
pub ReadsNext-cut_header : {E : Type 0} (state : CaptureState) (room into : List ℕ) (count : ℕ) (old new : DeskView) →
    state.count < max_records → length room ≡ record_header_len → length into ≡ length room → 0 < count →
    count < record_header_len → Fills {E = E} room into old new (Ok count) →
    ReadsNext state old new (Err (RecordCut (state.count + 1)))
ReadsNext-cut_header state room into count old new few header fits some short filled =
    let given : List ℕ = take count into in
    let size : length given ≡ count = omega (arith, header, fits, short, length-take count into) in
    let less : count < length room = omega (arith, header, short) in
    let cut = next_of-cut state given (record { some = omega (arith, some, size); few = few })
    (omega (arith, short, size)) in
    let reads = reads-short (length room) count given old new less filled.reads in
    record {
      given = given;
      reads = reads;
      next = cut;
      told = told-end state given (Fault (RecordCut (state.count + 1))) old.content new.content cut
          (filled.end less) reads.told;
      end = λ e. filled.end less;
      read_fault = λ e. absurd (cc);
      keeps = filled.keeps;
    }

-- fewer bytes than a header has begin with no whole record
no_record : (state : CaptureState) (front : List ℕ) → length front < record_header_len →
    HasNoRecord (next_of state front)
no_record state front short = elim (cases_eq (length front) 0) [
  | inl none ↦ rw (eq-eqb (length front) 0 none) tt
  | inr some ↦ elim (cases_lt state.count max_records) [
    | inr many ↦ subst HasNoRecord (sym (next_of-too_many state front (omega arith) many)) tt
    | inl few ↦ subst HasNoRecord
        (sym (next_of-cut state front (record { some = omega arith; few = few }) short)) tt
  ]
]

-- a read that failed within a header
pub ReadsNext-broken_header : {E : Type 0} (fault : E) (state : CaptureState) (room into : List ℕ)
    (old new : DeskView) → length room ≤ record_header_len → Fills {E = E} room into old new (Err fault) →
    ReadsNext state old new (Err ReadFault)
ReadsNext-broken_header fault state room into old new few filled =
    let broken = filled.breaks_off in
    broken_off state broken.bytes old new (no_record state broken.bytes (omega (arith, few, broken.few))) broken.reads
    filled.cause filled.keeps

-- what was left began with the fault, where it is told
told-fault : (state : CaptureState) (given : List ℕ) (fault : CaptureFault) (old new : Option Content) →
    IsDecided (Fault fault) → next_of state given ≡ Fault fault → Changes (Gives given) old new →
    Changes (λ was now. next_of state was.left ≡ Fault fault) old new
told-fault state given fault old new decided is step =
    Changes-weaker (Gives given) (λ was now. next_of state was.left ≡ Fault fault)
    (λ was now gives.
    ap (next_of state) gives.left
    ∙ next_of-append state given now.left (subst IsDecided (sym is) decided)
    ∙ ap (λ n. with_more n now.left) is)
    old new step

-- a whole header of a record that is too long
pub ReadsNext-too_long : {E : Type 0} (state : CaptureState) (room into : List ℕ) (captured : ℕ) (old new : DeskView) →
    state.count < max_records → length room ≡ record_header_len → length into ≡ length room →
    captured ≡ captured_in state into → max_captured < captured →
    Fills {E = E} room into old new (Ok record_header_len) →
    ReadsNext state old new (Err (RecordTooLong (state.count + 1)))
ReadsNext-too_long state room into captured old new few header fits says long filled =
    let size : length into ≡ record_header_len = fits ∙ header in
    let reads = rw (take_all record_header_len into (omega (arith, size))) at
    (reads-full (length room) record_header_len (take record_header_len into) old new
    (omega (arith, header)) filled.reads) in
    let is = next_of-too_long state into (record { some = omega (arith, size); few = few })
    (omega (arith, size)) (omega (arith, says, long)) in
    record {
      given = into;
      reads = reads;
      next = is;
      told = told-fault state into (RecordTooLong (state.count + 1)) old.content new.content tt is reads.told;
      end = λ e. absurd (false≢true e);
      read_fault = λ e. absurd (cc);
      keeps = filled.keeps;
    }

-- a byte after the last record that a capture may have
pub ReadsNext-too_many : {E : Type 0} (state : CaptureState) (room into : List ℕ) (count : ℕ) (old new : DeskView) →
    max_records ≤ state.count → length room ≡ 1 → length into ≡ length room → 0 < count →
    Fills {E = E} room into old new (Ok count) → ReadsNext state old new (Err TooManyRecords)
ReadsNext-too_many state room into count old new many one fits some filled =
    let given : List ℕ = take count into in
    let reads = reads-full (length room) count given old new (omega (arith, one, some)) filled.reads in
    let is = next_of-too_many state given (omega (arith, one, fits, some, length-take count into)) many in
    record {
      given = given;
      reads = reads;
      next = is;
      told = told-fault state given TooManyRecords old.content new.content tt is reads.told;
      end = λ e. absurd (false≢true e);
      read_fault = λ e. absurd (cc);
      keeps = filled.keeps;
    }

-- a header that fills its room, and what it says
pub HasHeader-from : {E : Type 0} (state : CaptureState) (before header : List ℕ) (captured : ℕ) (old mid : DeskView) →
    state.count < max_records →
    length before ≡ record_header_len → length header ≡ record_header_len → captured ≡ captured_in state header →
    captured ≤ max_captured → Fills {E = E} before header old mid (Ok record_header_len) →
    HasHeader state captured old mid
HasHeader-from state before header captured old mid few room whole says lawful filled = record {
  header = header;
  few = few;
  whole = whole;
  says = says;
  lawful = lawful;
  reads =
      rw (take_all record_header_len header (omega (arith, whole))) at
      (reads-full (length before) record_header_len (take record_header_len header) old mid
      (omega (arith, room)) filled.reads);
  keeps = filled.keeps;
}

-- an answer by what was read to the front of a buffer is the one by the buffer
pub answer_in-front : (state : CaptureState) (room front rest : List ℕ) (result : Result (Option ℕ) CaptureFault) →
    length front ≡ length room → IfOk result (λ len. IfSome len (λ n. n ≤ length room)) →
    answer_in state front result ≡ answer_in state (front ++ rest) result
answer_in-front state room front rest (Ok None) same within = refl
answer_in-front state room front rest (Ok (Some n)) same within =
    ap (λ bytes. Ok (Some (record_of state bytes))) (sym (take-append-le n front rest (omega (arith, same, within))))
answer_in-front state room front rest (Err fault) same within = refl

-- The printing of a capture, batch by batch.
use Rattle.std.proofs.Common.{◌≡◌, ◌≢◌, ◌⊎◌, ℕ, ◌+◌, ◌≤◌, List, [], ◌++◌, length, map, All, Some, None, Result, Ok, Err, inl}
use Rattle.std.proofs.Common.{inr, refl, sym, subst, ap, ◌∙◌, append_assoc, append-nil, length-append, arith}
use Rattle.std.proofs.lemmas.List.{length-map, map-append}
use Rattle.std.proofs.lemmas.List.Elements.{All-nil, All-append}
use Rattle.acl_outside.specs.Heard.{Ending, NotOpened, GoesOn, Ended, BrokenOff}
use Rattle.acl_outside.specs.Sink.{Gains, Puts}
use Rattle.acl_outside.proofs.Offered.{Gains-then}
use Rattle.header_extract.specs.Class.{FrameClass}
use Rattle.pcap_reader.specs.declared.capture_fault.CaptureFault.{CaptureFault}
use Rattle.pcap_reader.specs.declared.capture_fault.CaptureFault.TheVariants.{HeaderCut, RecordCut, PngCut, ReadFault as CannotRead}
use Rattle.pcap_reader.specs.State.{CaptureRecord}
use Rattle.pcapng_reader.specs.Capture.{AnyState, max_records}
use Rattle.pcapng_reader.specs.BlockReading.{FaultStands}
use Rattle.acl_report.specs.declared.counts.Counts.{Counts}
use Rattle.capture_report.specs.declared.batch.BatchEnd.{BatchEnd}
use Rattle.capture_report.specs.declared.batch.BatchEnd.TheVariants.{More, End, Fault}
use Rattle.command_ending.specs.declared.status.Status.{Status}
use Rattle.command_ending.specs.declared.status.Status.TheVariants.{CaptureRefused, WriteFault}
use Rattle.capture_report.specs.NextRecord.{IsBegun}
use Rattle.capture_report.specs.Packet.{IsPacket}
use Rattle.capture_report.specs.Shown.{counts_of_records, packet_of}
use Rattle.capture_report.specs.ReportForm.{ReportForm}
use Rattle.capture_report.specs.Report.{counted_all, lines_of_packets, lines_of_records}
use Rattle.capture_report.specs.Report.{transitions_of_packets, transitions_of_records}
use Rattle.capture_report.specs.Taken.{BatchStands, AreAll, Took, TakesBatch}
use Rattle.capture_report.specs.CaptureOutcome.{last_lines, last_text, refusal}
use Rattle.command_ending.specs.Follow.{IsOpened}
use Rattle.command_ending.specs.StepEffects.{Outside, PutsLast}
use Rattle.capture_report.specs.Streams.{Whole, Part, IsUnbroken, Streams}
use Rattle.capture_report.proofs.Taking.{Took-none, Took-then, AreOfBatch-part}
use Rattle.capture_report.proofs.LineLaws.{transitions_of_records-append, lines_of_records-append}
use Rattle.capture_report.proofs.LineLaws.{counts_of_records-append, packets_counted, lines_in-records}
use Rattle.command_ending.proofs.Offered.{Gains-none}

-- how far the printing of a capture is: the reader's state, what was counted, and the outside
pub record Standing : Type 0 where
  pub state : AnyState
  pub counts : Counts
  pub transitions : ℕ
  pub outside : Outside

-- one that stands so
abbrev pub standing : AnyState → Counts → ℕ → Outside → Standing
standing state counts transitions outside =
    record { state = state; counts = counts; transitions = transitions; outside = outside }

-- Some records were taken from the state, and their lines were put.
pub record HasPrinted (form : ReportForm) (state : AnyState) (old : Outside) (now : Standing) (stop : BatchEnd)
    : Type 0 where
  pub records : List CaptureRecord
  pub given : List ℕ
  pub took : Took state now.state records given old.desk now.outside.desk stop
  pub printed : Gains (lines_of_records form records) old.out now.outside.out
  pub counted : now.counts ≡ counts_of_records records
  pub packets : All IsPacket (map packet_of records)
  pub transitions_are : now.transitions ≡ transitions_of_records form.tables records
  pub steps : now.outside.steps ≡ old.steps + transitions_of_records form.tables records
  pub count : old.out.faults ≤ now.outside.out.faults

-- no record was taken yet
pub HasPrinted-none : (form : ReportForm) (state : AnyState) (counts : Counts) (view : Outside) →
    counts ≡ counts_of_records [] →
    HasPrinted form state view
    (standing state counts 0 view) More
HasPrinted-none form state counts view none = record {
  records = [];
  given = [];
  took = Took-none state view.desk;
  printed = Gains-none view.out;
  counted = none;
  packets = All-nil IsPacket;
  transitions_are = refl;
  steps = omega arith;
  count = omega arith;
}

-- What the lines of a batch came to: they were put, and its packets and their transitions were counted.
pub record PutsBatch {T E : Type 0} (form : ReportForm) (packets : List FrameClass) (old new : Standing)
    (result : Result T E) : Type 0 where
  pub puts : Puts (lines_of_packets form (old.counts.packets + 1) packets) old.outside.out new.outside.out result
  pub counted : new.counts ≡ counted_all packets old.counts
  pub transitions_more : new.transitions ≡ old.transitions + transitions_of_packets form.tables packets
  pub steps : new.outside.steps ≡ old.outside.steps + transitions_of_packets form.tables packets

-- Some records were printed, and a batch more is there.
module _ (form : ReportForm) (state : AnyState) (old : Outside) (now : Standing) (next : AnyState)
    (packets : List FrameClass) (new : Outside) (stop : BatchEnd) (h : HasPrinted form state old now More)
    (batch : TakesBatch now.state next packets now.outside.desk new.desk stop) where
  -- there is room to count it
  pub packets_few : IsBegun state → now.counts.packets + length packets ≤ max_records
  packets_few begun =
      let none = begun.1 in
      let so_far = h.took.few (omega (arith, none)) in
      omega (
        arith,
        none,
        batch.took.few so_far,
        h.took.count,
        batch.took.count,
        ap (λ c. c.packets) h.counted,
        packets_counted h.records,
        ap length batch.packets_are,
        length-map batch.records packet_of,
      )

  -- what was taken with it
  all_taken : Took state next (h.records ++ batch.records) (h.given ++ batch.given) old.desk new.desk stop
  all_taken = Took-then h.took batch.took

  -- the lines with its lines
  all_lines : lines_of_records form (h.records ++ batch.records)
      ≡ lines_of_records form h.records ++ lines_of_packets form (now.counts.packets + 1) packets
  all_lines =
      lines_of_records-append form h.records batch.records (now.counts.packets + 1)
      (omega (arith, ap (λ c. c.packets) h.counted, packets_counted h.records))
      ∙ ap (λ (l : List FrameClass). lines_of_records form h.records
      ++ lines_of_packets form (now.counts.packets + 1) l) (sym batch.packets_are)

  -- the packets with its packets
  all_packets : All IsPacket (map packet_of (h.records ++ batch.records))
  all_packets =
      subst (All IsPacket) (sym (map-append packet_of h.records batch.records))
      (All-append IsPacket (map packet_of h.records) (map packet_of batch.records) h.packets
      (subst (All IsPacket) batch.packets_are batch.keys))

  -- the transitions with its transitions
  all_transitions : transitions_of_records form.tables (h.records ++ batch.records)
      ≡ transitions_of_records form.tables h.records + transitions_of_packets form.tables packets
  all_transitions =
      transitions_of_records-append form.tables h.records batch.records
      ∙ ap (λ (l : List FrameClass). transitions_of_records form.tables h.records
      + transitions_of_packets form.tables l) (sym batch.packets_are)

-- a batch more was taken and printed
pub HasPrinted-batch : {T E : Type 0} (form : ReportForm) (state : AnyState) (old : Outside) (now new : Standing)
    (packets : List FrameClass) (stop : BatchEnd) (x : T) →
    HasPrinted form state old now More →
    TakesBatch now.state new.state packets now.outside.desk new.outside.desk stop →
    PutsBatch {E = E} form packets now new (Ok x) → HasPrinted form state old new stop
HasPrinted-batch form state old now new packets stop x h batch put =
    let more = all_transitions form state old now new.state packets new.outside stop h batch in
    record {
      records = h.records ++ batch.records;
      given = h.given ++ batch.given;
      took = all_taken form state old now new.state packets new.outside stop h batch;
      printed =
          rw (all_lines form state old now new.state packets new.outside stop h batch)
          (Gains-then (lines_of_records form h.records) (lines_of_packets form (now.counts.packets + 1) packets)
          old.out now.outside.out new.outside.out h.printed put.puts.whole);
      counted =
          put.counted ∙ ap (λ (l : List FrameClass). counted_all l now.counts) batch.packets_are
          ∙ ap (counted_all (map packet_of batch.records)) h.counted
          ∙ counts_of_records-append h.records batch.records;
      packets = all_packets form state old now new.state packets new.outside stop h batch;
      transitions_are = omega (arith, put.transitions_more, h.transitions_are, more);
      steps = omega (arith, put.steps, h.steps, more);
      count = omega (arith, h.count, put.puts.count);
    }

-- a file whose reading is unbroken was opened
unbroken_opened : (ending : Ending) → IsUnbroken ending → IsOpened ending
unbroken_opened NotOpened unbroken = absurd unbroken
unbroken_opened GoesOn unbroken = tt
unbroken_opened Ended unbroken = tt
unbroken_opened BrokenOff unbroken = tt

-- the reading of a file that goes on or has ended is unbroken
on_or_ended : (ending : Ending) → (ending ≡ GoesOn) ⊎ (ending ≡ Ended) → IsUnbroken ending
on_or_ended ending (inl on) = subst IsUnbroken (sym on) tt
on_or_ended ending (inr ended) = subst IsUnbroken (sym ended) tt

-- a fault of the capture breaks no reading off
fault_unbroken : (fault : CaptureFault) (ending : Ending) → fault ≢ CannotRead → FaultStands fault ending →
    IsUnbroken ending
fault_unbroken CannotRead ending isnt stood = absurd (isnt refl)
fault_unbroken HeaderCut ending isnt stood = subst IsUnbroken (sym stood) tt
fault_unbroken (RecordCut n) ending isnt stood = subst IsUnbroken (sym stood) tt
fault_unbroken (PngCut n) ending isnt stood = subst IsUnbroken (sym stood) tt
fault_unbroken fault ending isnt stood = on_or_ended ending stood

-- a file of which a fault was read was opened
fault_opened : (fault : CaptureFault) (ending : Ending) → FaultStands fault ending → IsOpened ending
fault_opened CannotRead ending stood = subst IsOpened (sym stood) tt
fault_opened fault ending stood =
    unbroken_opened ending (fault_unbroken fault ending (λ e. absurd (cc)) stood)

-- a file of which a batch was read was opened
batch_opened : (stop : BatchEnd) (ending : Ending) → BatchStands stop ending → IsOpened ending
batch_opened More ending stood = subst IsOpened (sym stood) tt
batch_opened End ending stood = subst IsOpened (sym stood) tt
batch_opened (Fault fault) ending stood = fault_opened fault ending stood

-- where the lines of a batch couldn't be put
pub Streams-failed : {T E : Type 0} (form : ReportForm) (state : AnyState) (old : Outside) (now new : Standing)
    (packets : List FrameClass) (stop : BatchEnd) (e : E) → IsBegun state →
    HasPrinted form state old now More →
    TakesBatch now.state new.state packets now.outside.desk new.outside.desk stop →
    PutsBatch {T = T} form packets now new (Err e) → Streams form state old new.outside WriteFault
Streams-failed form state old now new packets stop e begun h batch put =
    let took = all_taken form state old now new.state packets new.outside stop h batch in
    let more = all_transitions form state old now new.state packets new.outside stop h batch in
    let lines = lines_of_records form h.records in
    let prefix = put.puts.prefix in
    record {
      given = h.given ++ batch.given;
      ending = took.ending;
      opened = batch_opened stop took.ending took.stood;
      read = Part (h.records ++ batch.records);
      reads = took.reads;
      at_end = took.at_end;
      keeps = took.keeps;
      bytes = AreOfBatch-part stop state new.state (h.given ++ batch.given) took.ending (h.records ++ batch.records)
          (λ full. took.goes_on full begun.0) took.bytes;
      packets = all_packets form state old now new.state packets new.outside stop h batch;
      answer = inr (
        refl,
        record {
          put = lines ++ prefix.prefix;
          rest = prefix.rest;
          parts =
              all_lines form state old now new.state packets new.outside stop h batch
              ∙ ap (λ l. lines ++ l) prefix.parts
              ∙ sym (append_assoc lines prefix.prefix prefix.rest);
          gains = Gains-then lines prefix.prefix old.out now.outside.out new.outside.out h.printed prefix.gains;
          few = omega (
            arith,
            lines_in-records form h.records prefix.prefix,
            length-append h.records batch.records,
            batch.few,
            ap length batch.packets_are,
            length-map batch.records packet_of,
          );
          rose = omega (arith, h.count, put.puts.cause);
        },
      );
      read_fault = λ e. absurd (cc);
      steps = omega (arith, put.steps, h.steps, more);
      count = omega (arith, h.count, put.puts.count);
    }

-- the capture ended, and the last lines were put or not
pub Streams-ended : (form : ReportForm) (state : AnyState) (old : Outside) (now : Standing) (new : Outside)
    (status : Status) →
    HasPrinted form state old now End → new.desk ≡ now.outside.desk → new.steps ≡ now.outside.steps →
    PutsLast (last_text form now.counts now.transitions) now.outside.out new.out status →
    Streams form state old new status
Streams-ended form state old now new status h same same_steps puts = record {
  given = h.given;
  ending = h.took.ending;
  opened = batch_opened End h.took.ending h.took.stood;
  read = Whole h.records None;
  reads = rw same h.took.reads;
  at_end = rw same h.took.at_end;
  keeps = rw same h.took.keeps;
  bytes = (subst IsUnbroken (sym h.took.stood) tt, h.took.bytes);
  packets = h.packets;
  answer = elim puts.puts [
    | inl done ↦ inl (
      done.0,
      Gains-then (lines_of_records form h.records) line old.out now.outside.out new.out h.printed
          (rw is_line at done.1),
    )
    | inr failed ↦ inr (
      failed.0,
      record {
        put = lines_of_records form h.records ++ failed.1.prefix;
        rest = failed.1.rest;
        parts =
            ap (λ l. lines_of_records form h.records ++ l) (sym is_line ∙ failed.1.parts)
            ∙ sym (append_assoc (lines_of_records form h.records) failed.1.prefix failed.1.rest);
        gains = Gains-then (lines_of_records form h.records) failed.1.prefix old.out now.outside.out new.out h.printed
            failed.1.gains;
        few = omega (arith, lines_in-records form h.records failed.1.prefix);
        rose = omega (arith, h.count, failed.2);
      },
    )
  ];
  read_fault = λ e. elim puts.puts [ inl done ↦ absurd (cc) | inr failed ↦ absurd (cc) ];
  steps = same_steps ∙ h.steps;
  count = omega (arith, h.count, puts.count);
}
  where
    line : List ℕ
    line = last_lines form h.records None

    is_line : last_text form now.counts now.transitions ≡ line
    is_line =
        ap (λ (c : Counts). last_text form c now.transitions) h.counted
        ∙ ap (last_text form (counts_of_records h.records)) h.transitions_are

-- a fault of the capture, after all lines
fault_whole : (form : ReportForm) (state : AnyState) (old : Outside) (now : Standing) (fault : CaptureFault)
    (status : Status) (h : HasPrinted form state old now (Fault fault)) → IsUnbroken h.took.ending →
    AreAll state h.given h.took.ending h.records (Some fault) → status ≡ CaptureRefused fault →
    Streams form state old now.outside status
fault_whole form state old now fault status h unbroken all is = record {
  given = h.given;
  ending = h.took.ending;
  opened = unbroken_opened h.took.ending unbroken;
  read = Whole h.records (Some fault);
  reads = h.took.reads;
  at_end = h.took.at_end;
  keeps = h.took.keeps;
  bytes = (unbroken, all);
  packets = h.packets;
  answer = inl (is, rw (append-nil (lines_of_records form h.records)) h.printed);
  read_fault = λ e. absurd (cc);
  steps = h.steps;
  count = h.count;
}

-- a fault after some printed records ends the stream with its status
pub Streams-fault : (fault : CaptureFault) (form : ReportForm) (state : AnyState) (old : Outside)
    (now : Standing) (status : Status) →
    HasPrinted form state old now (Fault fault) → status ≡ refusal fault → Streams form state old now.outside status
Streams-fault CannotRead form state old now status h is = record {
  given = h.given;
  ending = h.took.ending;
  opened = batch_opened (Fault CannotRead) h.took.ending h.took.stood;
  read = Part h.records;
  reads = h.took.reads;
  at_end = h.took.at_end;
  keeps = h.took.keeps;
  bytes = h.took.bytes;
  packets = h.packets;
  answer = inl ((is, h.took.stood), h.printed);
  read_fault = λ e. h.took.read_fault refl;
  steps = h.steps;
  count = h.count;
}
Streams-fault fault form state old now status h is =
    fault_whole form state old now fault status h
    (fault_unbroken fault h.took.ending (λ e. absurd (cc)) h.took.stood) h.took.bytes is

-- What answers as the tables do prints the same.
use Rattle.std.proofs.Common.{◌≡◌, ℕ, zero, suc, ◌+◌, ◌<◌, ◌≤◌, List, [], ◌∷◌, ◌++◌, map, All, Option, Some, None, Result, Ok, Err}
use Rattle.std.proofs.Common.{refl, sym, ap, ◌∙◌, arith}
use Rattle.std.specs.Bool.{IsTrue}
use Rattle.std.specs.List.{range_with_len}
use Rattle.std.proofs.lemmas.Bool.Decides.{nat_tests}
use Rattle.std.proofs.lemmas.Bool.{false≢true}
use Rattle.std.proofs.lemmas.List.Elements.{All-head, All-tail}
use Rattle.field_defs.specs.declared.field.Family.{Family}
use Rattle.field_defs.specs.declared.field.Family.TheVariants as family
use Rattle.rule_set.specs.Categories.{is_count_of_categories}
use Rattle.header_extract.specs.declared.class.Class.{Class}
use Rattle.header_extract.specs.declared.class.Class.TheVariants.{Ip4, Ip6, Other, Short}
use Rattle.header_extract.specs.Class.{FrameClass}
use Rattle.acl_report.specs.declared.packet.TheConstants.{MAX_VERDICTS}
use Rattle.acl_report.specs.Packet.{packet_text}
use Rattle.acl_outside.specs.Desk.{File}
use Rattle.pcap_reader.specs.declared.capture_fault.CaptureFault.{CaptureFault}
use Rattle.pcap_reader.specs.State.{CaptureRecord}
use Rattle.pcapng_reader.specs.Capture.{AnyState, Recorded, capture_of, records_in, whole_records}
use Rattle.capture_report.specs.declared.form.PrintOptions.{PrintOptions}
use Rattle.command_ending.specs.declared.status.Status.{Status}
use Rattle.capture_report.specs.Packet.{IsPacket}
use Rattle.capture_report.specs.Shown.{packet_of, shown, status_of_fault}
use Rattle.capture_report.specs.Classifier.{Classifier, ByTables, Tables, AnswersAs, IsKey, answer_of}
use Rattle.capture_report.specs.ReportForm.{ReportForm, form_by}
use Rattle.capture_report.specs.Report.{answers_of, answers_on, line_of_packet, lines_of_packets}
use Rattle.capture_report.specs.Report.{lines_of_records, transitions_of_records}
use Rattle.capture_report.specs.CaptureOutcome.{last_lines, report, report_of_capture, reported}
use Rattle.command_ending.specs.declared.status.Status.TheVariants.{OutOfMemory}
use Rattle.command_ending.specs.Plan.{printed}
use Rattle.command_ending.specs.StepEffects.{Outside}
use Rattle.capture_report.specs.PrintsCapture.{Reports, PrintsCapture}
use Rattle.command_ending.proofs.Offered.{Ends-full, Ends-told, Ends-complete, IsFaithful}
use Rattle.capture_report.specs.Streams.{Reading, Whole, Part, records_read, text_of, Streams}
use Rattle.capture_report.proofs.Bounds.{rise_bound}
use Rattle.capture_report.proofs.WholeRecords.{report-begins}

-- functions that agree below a limit
map_below : {X : Type 0} (f g : ℕ → X) (limit : ℕ) → ((k : ℕ) → k < limit → f k ≡ g k) → (a n : ℕ) → a + n ≤ limit →
    map f (range_with_len a n) ≡ map g (range_with_len a n)
map_below f g limit same a zero within = refl
map_below f g limit same a (suc n) within =
    ap (λ l. f a ∷ l) (map_below f g limit same (a + 1) n (omega (arith, within)))
    ∙ ap (λ x. x ∷ map g (range_with_len (a + 1) n)) (same a (omega (arith, within)))

module _ (classifier : Classifier) (tables : Tables) (options : PrintOptions) (answers : AnswersAs classifier tables)
    (few : options.cats.count ≤ MAX_VERDICTS) where
  -- the form that answers by the classifier
  alike : ReportForm
  alike = form_by classifier tables options

  -- the form that answers by the tables
  by_tables : ReportForm
  by_tables = form_by (ByTables tables) tables options

  -- both forms have the same answers for a key
  answers_same : (family : Family) (key : List ℕ) → IsKey family key →
      answers_of (form_by classifier tables options) family key
      ≡ answers_of (form_by (ByTables tables) tables options) family key
  answers_same family key is =
      map_below (λ category. shown options.marks (answer_of classifier family key category))
      (λ category. shown options.marks (answer_of (ByTables tables) family key category)) MAX_VERDICTS
      (λ category below. ap (shown options.marks) (answers family key category is below)) 0 options.cats.count
      (omega (arith, few))

  -- both forms have the same answers for a packet
  answers_on_same : (class : Class) (packet : FrameClass) → packet.class ≡ class → IsPacket packet →
      answers_on class (form_by classifier tables options) packet.key
      ≡ answers_on class (form_by (ByTables tables) tables options) packet.key
  answers_on_same Ip4 packet is packet_is =
      answers_same family.Ip4 packet.key (record { bytes = packet_is.bytes; len = rw is at packet_is.len })
  answers_on_same Ip6 packet is packet_is =
      answers_same family.Ip6 packet.key (record { bytes = packet_is.bytes; len = rw is at packet_is.len })
  answers_on_same Other packet is packet_is = refl
  answers_on_same Short packet is packet_is = refl

  -- both forms have the same lines of packets
  lines_same : (number : ℕ) (packets : List FrameClass) → All IsPacket packets →
      lines_of_packets (form_by classifier tables options) number packets
      ≡ lines_of_packets (form_by (ByTables tables) tables options) number packets
  lines_same number [] all = refl
  lines_same number (p ∷ ps) all =
      ap (λ l. line_of_packet (form_by classifier tables options) number p ++ l)
      (lines_same (number + 1) ps (All-tail IsPacket p ps all))
      ∙ ap (λ a. packet_text number p.class a ++ lines_of_packets (form_by (ByTables tables) tables options)
      (number + 1) ps)
      (answers_on_same p.class p refl (All-head IsPacket p ps all))

  -- both forms have the same last lines
  last_same : (records : List CaptureRecord) (fault : Option CaptureFault) →
      last_lines (form_by classifier tables options) records fault
      ≡ last_lines (form_by (ByTables tables) tables options) records fault
  last_same records None = refl
  last_same records (Some fault) = refl

  -- both forms have the same text of what was read
  text_same : (read : Reading) → All IsPacket (map packet_of (records_read read)) →
      text_of (form_by (ByTables tables) tables options) read
      ≡ text_of (form_by classifier tables options) read
  text_same (Whole records fault) all =
      sym (ap (λ l. l ++ last_lines (form_by classifier tables options) records fault)
      (lines_same 1 (map packet_of records) all)
      ∙ ap (λ l. lines_of_records (form_by (ByTables tables) tables options) records ++ l)
      (last_same records fault))
  text_same (Part records) all = sym (lines_same 1 (map packet_of records) all)

  -- what is reported of any bytes whose packets are of bytes
  pub report_alike : (bytes : List ℕ) → All IsPacket (map packet_of (whole_records bytes)) →
      report (form_by classifier tables options) bytes ≡ report (form_by (ByTables tables) tables options) bytes
  report_alike bytes packets = go (capture_of bytes) packets
    where
      go : (capture : Result Recorded CaptureFault) → All IsPacket (map packet_of (records_in capture)) →
          report_of_capture (form_by classifier tables options) capture
          ≡ report_of_capture (form_by (ByTables tables) tables options) capture
      go (Ok capture) all =
          ap (λ (text : List ℕ).
          printed (status_of_fault capture.fault) text (transitions_of_records tables capture.records))
          (sym (text_same (Whole capture.records capture.fault) all))
      go (Err fault) all = refl

  -- what was streamed by the tables
  pub Streams-alike : (state : AnyState) (old new : Outside) (status : Status) →
      Streams (form_by (ByTables tables) tables options) state old new status →
      Streams (form_by classifier tables options) state old new status
  Streams-alike state old new status s =
      let same = text_same s.read s.packets in
      record {
        given = s.given;
        ending = s.ending;
        opened = s.opened;
        read = s.read;
        reads = s.reads;
        at_end = s.at_end;
        keeps = s.keeps;
        bytes = s.bytes;
        packets = s.packets;
        answer = rw same at s.answer;
        read_fault = s.read_fault;
        steps = s.steps;
        count = s.count;
      }

-- a lawful number of categories
pub categories_few : (count : ℕ) → IsTrue (is_count_of_categories count) → count ≤ MAX_VERDICTS
categories_few count lawful = grind (arith, nat_tests)

-- what a report prints while it reads is the first part of what it prints in all
report_faithful : (form : ReportForm) (name : List ℕ) (files : List File) →
    IsFaithful files (reported form name)
report_faithful form name files = (λ front more. report-begins form front more, λ front. tt)

-- there is no memory for a batch
pub Reports-no_room : (form : ReportForm) (name : List ℕ) (view : Outside) →
    Reports form name view view OutOfMemory
Reports-no_room form name view = record {
  ends = Ends-full None (reported form name) view;
  lawful = refl;
  opened = λ files told reported. absurd (false≢true reported);
  keeps_up = λ w. absurd (cc);
}

-- what is printed by whatever answers as the tables do
pub PrintsCapture-from : (tables : Tables) (options : PrintOptions) (name : List ℕ) (old new : Outside)
    (status : Status) →
    ((classifier : Classifier) → AnswersAs classifier tables →
    Reports (form_by classifier tables options) name old new status) →
    PrintsCapture tables options name old new status
PrintsCapture-from tables options name old new status all =
    let own = all (ByTables tables) (λ family key category is below. refl) in
    let form : ReportForm = form_by (ByTables tables) tables options in
    record {
      by_tables = own;
      alike = all;
      told = Ends-told (reported form name) old new status (report_faithful form name) own.ends;
      complete = Ends-complete (reported form name) old new status own.ends;
      bound = rise_bound form name old new status own.ends;
    }

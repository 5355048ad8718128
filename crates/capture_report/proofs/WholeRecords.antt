-- The lines of the whole records of the first bytes of a capture are the first part of its report.
use Rattle.std.proofs.Common.{◌≡◌, ℕ, ◌+◌, List, [], ◌∷◌, ◌++◌, length, map, Result, Ok, Err, refl, ap, ◌∙◌}
use Rattle.std.proofs.Common.{append_assoc}
use Rattle.pcap_reader.specs.declared.capture_fault.CaptureFault.{CaptureFault}
use Rattle.pcap_reader.specs.State.{CaptureRecord}
use Rattle.pcapng_reader.specs.Capture.{Recorded, capture_of, whole_records, records_in}
use Rattle.capture_report.specs.ReportForm.{ReportForm}
use Rattle.capture_report.specs.Report.{lines_of_packets, lines_of_records}
use Rattle.capture_report.specs.CaptureOutcome.{last_lines, lines_so_far, report, report_of_capture}
use Rattle.capture_report.specs.Shown.{packet_of}
use Rattle.capture_report.proofs.LineLaws.{lines_of_records-append}
use Rattle.capture_report.proofs.Reader.{AreFirst, whole_first}
use Rattle.command_ending.proofs.Offered.{BeginsWith, BeginsWith-nothing}

-- the lines of the first records are the first part of the lines of all
lines_first : (form : ReportForm) (front all : List CaptureRecord) (later : List ℕ) → AreFirst front all →
    BeginsWith (lines_of_records form front) (lines_of_records form all ++ later)
lines_first form front all later first =
    let rest = lines_of_packets form (length front + 1) (map packet_of first.rest) in
    record {
      rest = rest ++ later;
      parts =
          ap (λ l. l ++ later)
          (ap (lines_of_records form) first.parts
          ∙ lines_of_records-append form front first.rest (length front + 1) refl)
          ∙ append_assoc (lines_of_records form front) rest later;
    }

-- what stands in front of nothing is nothing
no_front : (front rest : List CaptureRecord) → [] ≡ front ++ rest → front ≡ []
no_front [] rest e = refl
no_front (r ∷ rs) rest e = absurd (cc)

-- the lines of the first records are the first part of the report
reported_first : (form : ReportForm) (front : List CaptureRecord) (capture : Result Recorded CaptureFault) →
    AreFirst front (records_in capture) →
    BeginsWith (lines_of_records form front) (report_of_capture form capture).text
reported_first form front (Ok capture) first =
    lines_first form front capture.records (last_lines form capture.records capture.fault) first
reported_first form front (Err fault) first = rw (no_front front first.rest first.parts) (BeginsWith-nothing [])

-- The lines of the whole records of the first bytes are the first part of the report.
pub report-begins : (form : ReportForm) (bytes more : List ℕ) →
    BeginsWith (lines_so_far form bytes) (report form (bytes ++ more)).text
report-begins form bytes more =
    reported_first form (whole_records bytes) (capture_of (bytes ++ more))
    (whole_first bytes more)

-- What the bytes of a capture come to: a status, the text of its report, and transitions.
use Rattle.std.specs.Prelude.{ℕ, List, [], ◌++◌, Option}
use Rattle.std.specs.Prelude.{Some, None, Result, Ok, Err}
use Rattle.acl_report.specs.declared.counts.Counts.{Counts}
use Rattle.acl_report.specs.Counts.{packets_text}
use Rattle.pcap_reader.specs.declared.capture_fault.CaptureFault.{CaptureFault}
use Rattle.pcap_reader.specs.declared.capture_fault.CaptureFault.TheVariants.{ReadFault as CannotRead}
use Rattle.pcap_reader.specs.State.{CaptureRecord}
use Rattle.pcapng_reader.specs.Capture.{Recorded, capture_of, whole_records}
use Rattle.command_ending.specs.declared.status.Status.{Status}
use Rattle.command_ending.specs.declared.status.Status.TheVariants.{CaptureRefused, ReadFault}
use Rattle.capture_report.specs.ReportForm.{ReportForm}
use Rattle.capture_report.specs.Shown.{counts_of_records, status_of_fault}
use Rattle.capture_report.specs.Report.{lines_of_records, stats_of}
use Rattle.capture_report.specs.Report.{transitions_of_records}
use Rattle.command_ending.specs.Plan.{Outcome, printed, silent, Plan, Give, Read}

-- the line of the counts, and those of the tables and transitions where they are asked for
abbrev pub last_text : ReportForm → Counts → ℕ → List ℕ
last_text form counts transitions = packets_text counts ++ stats_of form transitions

-- the last lines: those of the counts and of the tables after a whole capture, and none where a
-- fault ends it
abbrev pub last_lines : ReportForm → List CaptureRecord → Option CaptureFault → List ℕ
last_lines form records None =
    last_text form (counts_of_records records) (transitions_of_records form.tables records)
last_lines form records (Some fault) = []

-- the lines of the records, and the last lines
abbrev pub text_of_records : ReportForm → List CaptureRecord → Option CaptureFault → List ℕ
text_of_records form records fault =
    lines_of_records form records ++ last_lines form records fault

-- the status that stands for a fault
abbrev pub refusal : CaptureFault → Status
refusal CannotRead = ReadFault
refusal fault = CaptureRefused fault

-- what a capture gives
abbrev pub report_of_capture : ReportForm → Result Recorded CaptureFault → Outcome
report_of_capture form (Ok capture) =
    printed (status_of_fault capture.fault)
    (text_of_records form capture.records capture.fault)
    (transitions_of_records form.tables capture.records)
report_of_capture form (Err fault) = silent (CaptureRefused fault)

-- what the bytes of a capture give
abbrev pub report : ReportForm → List ℕ → Outcome
report form bytes = report_of_capture form (capture_of bytes)

-- the lines of the whole records in the first bytes of a capture
abbrev pub lines_so_far : ReportForm → List ℕ → List ℕ
lines_so_far form bytes = lines_of_records form (whole_records bytes)

-- the report of the named capture, of which the lines of the whole records are printed while it is
-- read
abbrev pub reported : ReportForm → List ℕ → Plan Outcome
reported form name =
    Read name (lines_so_far form) (λ bytes. Give (report form bytes))

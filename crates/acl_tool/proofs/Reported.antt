-- How a command ends with a report, and what the report comes to.
use Rattle.std.proofs.Common.{◌≡◌, ◌≢◌, ◌⊎◌, ◌++◌, true, false, Option, Some, None, Result, Ok, Err, inl, inr}
use Rattle.std.proofs.Common.{refl}
use Rattle.pcap_reader.specs.declared.capture_fault.CaptureFault.{CaptureFault}
use Rattle.pcapng_reader.specs.Capture.{Recorded, records_in}
use Rattle.command_ending.specs.declared.status.Status.{Status}
use Rattle.command_ending.specs.declared.status.Status.TheVariants.{WriteFault, OutOfMemory}
use Rattle.capture_report.specs.ReportForm.{ReportForm}
use Rattle.capture_report.specs.Shown.{fault_of_capture, status_of_fault}
use Rattle.capture_report.specs.Report.{lines_of_records, transitions_of_records}
use Rattle.capture_report.specs.CaptureOutcome.{last_lines, report_of_capture}
use Rattle.command_ending.specs.Endings.{is_decided, is_usage}
use Rattle.acl_tool.proofs.ReadOn.{is_told}

-- the faults of two captures that end alike
pub same_fault : (one two : Option CaptureFault) → status_of_fault one ≡ status_of_fault two → one ≡ two
same_fault None None is = refl
same_fault None (Some two) is = absurd (cc)
same_fault (Some one) None is = absurd (cc)
same_fault (Some one) (Some two) is = cc

-- the status of a capture's fault, or of none, comes with a report
pub told_fault : (fault : Option CaptureFault) → is_told (status_of_fault fault) ≡ true
told_fault None = refl
told_fault (Some fault) = refl

-- a report ends as its capture does
pub report_status : (form : ReportForm) (capture : Result Recorded CaptureFault) →
    (report_of_capture form capture).status ≡ status_of_fault (fault_of_capture capture)
report_status form (Ok capture) = refl
report_status form (Err fault) = refl

-- a report is the lines of the records, and then the last lines
pub report_text : (form : ReportForm) (capture : Result Recorded CaptureFault) →
    (report_of_capture form capture).text
    ≡ lines_of_records form (records_in capture) ++ last_lines form (records_in capture) (fault_of_capture capture)
report_text form (Ok capture) = refl
report_text form (Err fault) = refl

-- the status of a capture's fault, or of none, is no write fault
pub unwritten_fault : (fault : Option CaptureFault) → status_of_fault fault ≢ WriteFault
unwritten_fault None is = absurd (cc)
unwritten_fault (Some fault) is = absurd (cc)

-- the status of a capture's fault, or of none, isn't want of memory
pub unfull_fault : (fault : Option CaptureFault) → status_of_fault fault ≢ OutOfMemory
unfull_fault None is = absurd (cc)
unfull_fault (Some fault) is = absurd (cc)

-- the status of a capture's fault, or of none, is decided
pub decided_fault : (fault : Option CaptureFault) → is_decided (status_of_fault fault) ≡ true
decided_fault None = refl
decided_fault (Some fault) = refl

-- a report's status is that of the outcome
pub reported_status : (fault : Option CaptureFault) (status : Status) →
    (status_of_fault fault ≡ status)
    ⊎ ((status_of_fault fault ≡ WriteFault) ⊎ (status_of_fault fault ≡ OutOfMemory)) →
    status_of_fault fault ≡ status
reported_status fault status (inl is) = is
reported_status fault status (inr (inl written)) = absurd (unwritten_fault fault written)
reported_status fault status (inr (inr full)) = absurd (unfull_fault fault full)

-- a report takes the transitions of its capture's whole records
pub report_transitions : (form : ReportForm) (capture : Result Recorded CaptureFault) →
    (report_of_capture form capture).transitions ≡ transitions_of_records form.tables (records_in capture)
report_transitions form (Ok capture) = refl
report_transitions form (Err fault) = refl

-- the status of a capture's fault, or of none, isn't of the words
pub lawful_fault : (fault : Option CaptureFault) → is_usage (status_of_fault fault) ≡ false
lawful_fault None = refl
lawful_fault (Some fault) = refl

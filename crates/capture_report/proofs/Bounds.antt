-- The transitions of a report are at most one for each trie and byte of each key.
use Rattle.std.proofs.Common.{◌≡◌, ℕ, ◌+◌, ◌≤◌, List, ◌∷◌, Result, Ok, Err, inl, inr, sym, subst, ◌∙◌, arith}
use Rattle.std.proofs.Common.{map, true}
use Rattle.std.specs.Prelude.{Option}
use Rattle.std.proofs.lemmas.List.Sums.{sum_by-le-sum_by}
use Rattle.acl_outside.specs.Desk.{File}
use Rattle.acl_outside.specs.Heard.{Heard}
use Rattle.flat_table.proofs.Offered.{key_bound}
use Rattle.header_extract.specs.declared.class.Class.{Class}
use Rattle.header_extract.specs.declared.class.Class.TheVariants.{Ip4, Ip6, Other, Short}
use Rattle.header_extract.specs.Class.{FrameClass}
use Rattle.pcap_reader.specs.declared.capture_fault.CaptureFault.{CaptureFault}
use Rattle.pcapng_reader.specs.Capture.{Recorded, capture_of, whole_records, records_in}
use Rattle.command_ending.specs.declared.status.Status.{Status}
use Rattle.command_ending.specs.Plan.{Outcome}
use Rattle.command_ending.specs.Endings.{is_decided}
use Rattle.command_ending.specs.Follow.{Reached, Follows, outcome_of}
use Rattle.command_ending.specs.StepEffects.{Outside, Ends, files_of, heard_of}
use Rattle.capture_report.specs.Bound.{TransitionsAreBounded, most_on, most_of_records}
use Rattle.capture_report.specs.CaptureOutcome.{report, report_of_capture, reported}
use Rattle.capture_report.specs.Classifier.{Tables}
use Rattle.capture_report.specs.Shown.{packet_of}
use Rattle.capture_report.specs.Report.{transitions_on}
use Rattle.capture_report.specs.ReportForm.{ReportForm}

-- a key takes at most one transition for each trie and byte of its class
class_bound : (class : Class) (tables : Tables) (key : List ℕ) → transitions_on class tables key ≤ most_on class tables
class_bound Ip4 tables key = key_bound tables.ip4 key
class_bound Ip6 tables key = key_bound tables.ip6 key
class_bound Other tables key = omega arith
class_bound Short tables key = omega arith

-- a report takes at most one transition for each trie and byte of its records' keys
capture_bound : (form : ReportForm) (capture : Result Recorded CaptureFault) →
    (report_of_capture form capture).transitions ≤ most_of_records form.tables (records_in capture)
capture_bound form (Ok capture) =
    sum_by-le-sum_by (λ (packet : FrameClass). transitions_on packet.class form.tables packet.key)
    (λ (packet : FrameClass). most_on packet.class form.tables) (map packet_of capture.records)
    (λ packet. class_bound packet.class form.tables packet.key)
capture_bound form (Err fault) = omega arith

-- what is told of any bytes is within the bound
pub report_bound : TransitionsAreBounded
report_bound form bytes = capture_bound form (capture_of bytes)

-- So is what is told of a file that was heard.
heard_bound : (form : ReportForm) (name : List ℕ) (told : Option (List File)) (old new : List Heard)
    (reached : Reached Outcome) (file : Heard) → Follows told (reported form name) old new reached →
    new ≡ file ∷ old → (outcome_of reached).transitions ≤ most_of_records form.tables (whole_records file.bytes)
heard_bound form name told old new reached file (inl (none, is)) newest = rw is (omega arith)
heard_bound form name told old new reached file (inr (one, named, part, inl (heard, is))) newest =
    rw is (omega arith)
heard_bound form name told old new reached file (inr (one, named, part, inr (enough, (heard, is)))) newest =
    let same : one ≡ file = (let e = sym heard ∙ newest in cc) in
    rw is
    (subst (λ (h : Heard). (report form one.bytes).transitions ≤ most_of_records form.tables (whole_records h.bytes))
    same
    (report_bound form one.bytes))

-- and so is the rise of the counter where the report was decided
pub rise_bound : (form : ReportForm) (name : List ℕ) (old new : Outside) (status : Status) →
    Ends (reported form name) old new status → is_decided status ≡ true → (file : Heard) →
    heard_of new.desk ≡ file ∷ heard_of old.desk →
    new.steps ≤ old.steps + most_of_records form.tables (whole_records file.bytes)
rise_bound form name old new status ends decided file newest =
    omega (
      arith,
      ends.steps decided,
      heard_bound form name (files_of old.desk) (heard_of old.desk) (heard_of new.desk) ends.reached file ends.follows
          newest,
    )

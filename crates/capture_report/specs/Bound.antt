-- How many transitions the report of a capture tells at most.
use Rattle.std.specs.Prelude.{ℕ, ◌≤◌, List, map, sum_by}
use Rattle.flat_table.specs.Walk.{most_of_key}
use Rattle.header_extract.specs.declared.class.Class.{Class}
use Rattle.header_extract.specs.declared.class.Class.TheVariants.{Ip4, Ip6, Other, Short}
use Rattle.pcap_reader.specs.State.{CaptureRecord}
use Rattle.pcapng_reader.specs.Capture.{whole_records}
use Rattle.capture_report.specs.Classifier.{Tables}
use Rattle.capture_report.specs.Shown.{packet_of}
use Rattle.capture_report.specs.ReportForm.{ReportForm}
use Rattle.capture_report.specs.CaptureOutcome.{report}

-- of the key of a class: a frame without a packet has none
abbrev pub most_on : Class → Tables → ℕ
most_on Ip4 tables = most_of_key tables.ip4
most_on Ip6 tables = most_of_key tables.ip6
most_on Other tables = 0
most_on Short tables = 0

-- of the packets of records
abbrev pub most_of_records : Tables → List CaptureRecord → ℕ
most_of_records tables records =
    sum_by (λ packet. most_on packet.class tables) (map packet_of records)

-- The report of no capture tells more transitions than its whole records may take.
abbrev pub TransitionsAreBounded : Type 0
TransitionsAreBounded =
    (form : ReportForm) (bytes : List ℕ) →
    (report form bytes).transitions ≤ most_of_records form.tables (whole_records bytes)

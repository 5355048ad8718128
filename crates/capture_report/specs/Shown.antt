-- What is shown of the records of a capture, whatever answers for them.
use Rattle.std.specs.Prelude.{ℕ, List, map, Bool, true, false, Option, Some, None, Result, Ok, Err}
use Rattle.std.specs.Option.{option_map}
use Rattle.field_defs.specs.declared.field.FieldDef.{FieldDef}
use Rattle.rule_set.specs.Rule.{RuleView}
use Rattle.rule_set.specs.Winner.{userdata_at, winner}
use Rattle.header_extract.specs.declared.class.Class.{Class}
use Rattle.header_extract.specs.Class.{FrameClass, settled}
use Rattle.header_extract.specs.Link.{frame_class}
use Rattle.pcap_reader.specs.declared.capture_fault.CaptureFault.{CaptureFault}
use Rattle.pcap_reader.specs.State.{CaptureRecord}
use Rattle.pcapng_reader.specs.Capture.{Recorded}
use Rattle.acl_report.specs.declared.counts.Counts.{Counts}
use Rattle.acl_report.specs.Counts.{counts_of}
use Rattle.command_ending.specs.declared.status.Status.{Status}
use Rattle.command_ending.specs.declared.status.Status.TheVariants.{Done, CaptureRefused}

-- the class of the record's frame by its link type, and the key of the packet in it
abbrev pub packet_of : CaptureRecord → FrameClass
packet_of captured = settled (frame_class captured.link captured.bytes)

-- the classes of packets
abbrev pub classes_of : List FrameClass → List Class
classes_of packets = map (λ packet. packet.class) packets

-- the counts of the records of a capture
abbrev pub counts_of_records : List CaptureRecord → Counts
counts_of_records records = counts_of (classes_of (map packet_of records))

-- the userdata of the rule that wins, or none
abbrev pub answer_of_rules : List FieldDef → List RuleView → List ℕ → ℕ → Option ℕ
answer_of_rules layout rules key category =
    option_map (λ place. userdata_at rules (Some place)) (winner layout rules key category)

-- what is shown of an answer: where there is none the digit 0, and a dash where marks are asked for
abbrev pub shown : Bool → Option ℕ → Option ℕ
shown marks (Some userdata) = Some userdata
shown true None = None
shown false None = Some 0

-- the fault of a capture, in its file header or at its end, and none where it ends whole
abbrev pub fault_of_capture : Result Recorded CaptureFault → Option CaptureFault
fault_of_capture (Ok capture) = capture.fault
fault_of_capture (Err fault) = Some fault

-- the status of a capture by how it ended
abbrev pub status_of_fault : Option CaptureFault → Status
status_of_fault None = Done
status_of_fault (Some fault) = CaptureRefused fault

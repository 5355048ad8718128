-- What is printed for the records of a capture.
use Rattle.std.specs.Prelude.{ℕ, ◌+◌, ◌==◌, List, [], ◌∷◌, ◌++◌, length, map, count_by, sum_by}
use Rattle.std.specs.Prelude.{Option, if◌then◌else◌}
use Rattle.std.specs.List.{range_with_len}
use Rattle.field_defs.specs.declared.field.Family.{Family}
use Rattle.field_defs.specs.declared.field.Family.TheVariants as family
use Rattle.flat_table.specs.Table.{TableView, words_of}
use Rattle.flat_table.specs.Walk.{key_transitions}
use Rattle.header_extract.specs.declared.class.Class.{Class}
use Rattle.header_extract.specs.declared.class.Class.TheVariants.{Ip4, Ip6, Other, Short}
use Rattle.header_extract.specs.Class.{FrameClass}
use Rattle.pcap_reader.specs.State.{CaptureRecord}
use Rattle.acl_report.specs.declared.counts.Counts.{Counts}
use Rattle.acl_report.specs.Line.{line_feed}
use Rattle.acl_report.specs.Counting.{counted}
use Rattle.acl_report.specs.Packet.{packet_text}
use Rattle.acl_report.specs.Tables.{table_text, transitions_text}
use Rattle.capture_report.specs.Shown.{packet_of, shown}
use Rattle.capture_report.specs.Classifier.{Tables, answer_of}
use Rattle.capture_report.specs.ReportForm.{ReportForm}

-- what is shown of a key of the family, from category 0 on
abbrev pub answers_of : ReportForm → Family → List ℕ → List (Option ℕ)
answers_of form family key =
    map (λ category. shown form.marks (answer_of form.classifier family key category))
    (range_with_len 0 form.categories)

-- the same of the key of a class: a frame without a packet has none
abbrev pub answers_on : Class → ReportForm → List ℕ → List (Option ℕ)
answers_on Ip4 form key = answers_of form family.Ip4 key
answers_on Ip6 form key = answers_of form family.Ip6 key
answers_on Other form key = []
answers_on Short form key = []

-- the line of a packet: its number, its class, and what each category says
abbrev pub line_of_packet : ReportForm → ℕ → FrameClass → List ℕ
line_of_packet form number packet =
    packet_text number packet.class (answers_on packet.class form packet.key)

-- a line for each packet, of which the first has the number
abbrev pub lines_of_packets : ReportForm → ℕ → List FrameClass → List ℕ
lines_of_packets form number [] = []
lines_of_packets form number (packet ∷ packets) =
    line_of_packet form number packet ++ lines_of_packets form (number + 1) packets

-- a line for each record, numbered from 1
abbrev pub lines_of_records : ReportForm → List CaptureRecord → List ℕ
lines_of_records form records = lines_of_packets form 1 (map packet_of records)

-- the counts with these packets more
abbrev pub counted_all : List FrameClass → Counts → Counts
counted_all [] counts = counts
counted_all (packet ∷ packets) counts = counted_all packets (counted packet.class counts)

-- how many transitions the key of a class takes, over all tries of its family
abbrev pub transitions_on : Class → Tables → List ℕ → ℕ
transitions_on Ip4 tables key = key_transitions tables.ip4 key
transitions_on Ip6 tables key = key_transitions tables.ip6 key
transitions_on Other tables key = 0
transitions_on Short tables key = 0

-- how many transitions packets take
abbrev pub transitions_of_packets : Tables → List FrameClass → ℕ
transitions_of_packets tables packets =
    sum_by (λ packet. transitions_on packet.class tables packet.key) packets

-- how many transitions the packets of records take
abbrev pub transitions_of_records : Tables → List CaptureRecord → ℕ
transitions_of_records tables records = transitions_of_packets tables (map packet_of records)

-- the line of a table
abbrev pub line_of_table : Family → TableView → List ℕ
line_of_table family table = table_text family table.rules (length table.roots) (words_of table)

-- the lines of both tables, and that of so many transitions
abbrev pub stats_text : Tables → ℕ → List ℕ
stats_text tables transitions =
    line_of_table family.Ip4 tables.ip4 ++ line_of_table family.Ip6 tables.ip6
    ++ transitions_text transitions

-- the same where it is asked for
abbrev pub stats_of : ReportForm → ℕ → List ℕ
stats_of form transitions =
    if form.stats then stats_text form.tables transitions else []

-- how many lines end in a text
abbrev pub lines_in : List ℕ → ℕ
lines_in text = count_by (λ byte. byte == line_feed) text

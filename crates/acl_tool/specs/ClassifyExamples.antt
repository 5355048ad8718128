-- Examples of reports and of the outcome of a command, each checked by evaluation.
use Rattle.std.specs.Prelude.{◌≡◌, ℕ, List, [], ◌∷◌, ◌++◌, true, Result, Ok, Err, replicate, codes}
use Rattle.std.specs.Prelude.{refl}
use Rattle.std.specs.Fmt.{digits}
use Rattle.acl_outside.specs.Desk.{File}
use Rattle.field_defs.specs.declared.field.Family.TheVariants.{Ip4}
use Rattle.rule_split.specs.Split as split
use Rattle.flat_table.specs.Table.{TableView}
use Rattle.classbench_reader.specs.declared.rules_fault.LineKind.TheVariants.{BadStart}
use Rattle.classbench_reader.specs.RuleFile.{RuleLists}
use Rattle.pcap_reader.specs.declared.capture_fault.CaptureFault.TheVariants.{HeaderCut, RecordCut}
use Rattle.pcap_reader.specs.StartExamples.{ethernet_header}
use Rattle.command_ending.specs.declared.status.Status.{Status}
use Rattle.command_ending.specs.declared.status.Status.TheVariants.{Done, Usage, RulesRefused}
use Rattle.command_ending.specs.declared.status.Status.TheVariants.{TooLarge, CaptureRefused}
use Rattle.command_ending.specs.declared.status.Status.TheVariants.{ReadFault}
use Rattle.command_words.specs.declared.usage_fault.UsageKind.TheVariants.{MissingCommand}
use Rattle.command_words.specs.Options.{Options, none_given, settled_options}
use Rattle.command_words.specs.Command.{fault_at}
use Rattle.capture_report.specs.Classifier.{Tables, ByRules, ByTables}
use Rattle.capture_report.specs.ReportForm.{ReportForm}
use Rattle.acl_tool.specs.RuleTables.{rules_of_bytes}
use Rattle.acl_tool.specs.ClassifyPlan.{form_of}
use Rattle.acl_tool.specs.Outcome.{outcome}
use Rattle.capture_report.specs.CaptureOutcome.{lines_so_far, report}
use Rattle.command_ending.specs.Plan.{printed, silent}

-- the options where none is given
abbrev pub usual : Options
usual = settled_options none_given

-- a table of no rules, with keys of so many bytes
abbrev pub empty_table : ℕ → TableView
empty_table key_len = record {
  key_len = key_len;
  rules = 0;
  kept = [];
  roots = [];
  level_lens = [];
  words = [];
  rows = replicate 16 0 ∷ [];
}

-- a table of one rule of userdata 7 that matches each IPv4 key: its trie reads one byte
abbrev pub wild_table : TableView
wild_table = record {
  key_len = 13;
  rules = 1;
  kept = 1 ∷ [];
  roots = 0x20000000 ∷ [];
  level_lens = 1 ∷ [];
  words = 0x80000001 ∷ [];
  rows = replicate 16 0 ∷ replicate 16 0x100000007 ∷ [];
}

abbrev pub no_tables : Tables
no_tables = record { ip4 = empty_table 13; ip6 = empty_table 37 }

abbrev pub wild_tables : Tables
wild_tables = record { ip4 = wild_table; ip6 = empty_table 37 }

-- the IPv4 rule of the DPDK Programmer's Guide
abbrev guide_line : List ℕ
guide_line = codes "@192.168.1.0/24 192.168.2.31/32 0:65535 1234:1234 0x11/0xFF\n"

-- a frame of 38 bytes: UDP from 192.168.1.5, port 5000, to 192.168.2.31, whose port ends in the
-- byte
abbrev pub udp_frame : ℕ → List ℕ
udp_frame port =
    replicate 12 0 ++ 8 ∷ 0 ∷ 0x45 ∷ 0 ∷ 0 ∷ 24 ∷ 0 ∷ 0 ∷ 0 ∷ 0 ∷ 64 ∷ 17 ∷ 0 ∷ 0
    ∷ 192 ∷ 168 ∷ 1 ∷ 5 ∷ 192 ∷ 168 ∷ 2 ∷ 31 ∷ 19 ∷ 136 ∷ 4 ∷ port ∷ []

-- a record of that frame
abbrev pub udp_record : ℕ → List ℕ
udp_record port =
    replicate 8 0 ++ 38 ∷ 0 ∷ 0 ∷ 0 ∷ 38 ∷ 0 ∷ 0 ∷ 0 ∷ udp_frame port

-- the rules of a file that has no fault
abbrev lists_of : Result RuleLists Status → RuleLists
lists_of (Ok lists) = lists
lists_of (Err status) = record { ip4 = []; ip6 = [] }

-- a report by the guide's rule
abbrev pub by_guide : Options → ReportForm
by_guide options =
    form_of (ByRules (lists_of (rules_of_bytes RulesRefused guide_line))) no_tables options

-- the guide's rule, a packet to port 1234 and one to port 1235
guide : report (by_guide usual) (ethernet_header ++ udp_record 210 ++ udp_record 211)
    ≡ printed Done
    (codes "1 ip4 1\n2 ip4 0\npackets 2 ip4 2 ip6 0 other 0 short 0\n") 0
unfolding digits
guide = refl

-- a dash in the place of the digit, where no rule matches
marked : report (by_guide (record usual { marks = true }))
    (ethernet_header ++ udp_record 210 ++ udp_record 211) ≡ printed Done
    (codes "1 ip4 1\n2 ip4 -\npackets 2 ip4 2 ip6 0 other 0 short 0\n") 0
unfolding digits
marked = refl

four_categories : report (by_guide (record usual { categories = 4 }))
    (ethernet_header ++ udp_record 210) ≡ printed Done
    (codes "1 ip4 1 1 1 1\npackets 1 ip4 1 ip6 0 other 0 short 0\n") 0
unfolding digits
four_categories = refl

-- by a table: its size and the transitions after the line of the counts
by_table : report (form_of (ByTables wild_tables) wild_tables (record usual { stats = true }))
    (ethernet_header ++ udp_record 210 ++ udp_record 211) ≡ printed Done
    (codes "1 ip4 7\n2 ip4 7\npackets 2 ip4 2 ip6 0 other 0 short 0\n"
    ++ codes "ip4 rules 1 tries 1 words 33\nip6 rules 0 tries 0 words 16\ntransitions 2\n") 2
unfolding digits
by_table = refl

-- the lines before a cut record, no lines after them, and the transitions of the whole records
cut : report (form_of (ByTables wild_tables) wild_tables (record usual { stats = true }))
    (ethernet_header ++ udp_record 210 ++ 0 ∷ [])
    ≡ printed (CaptureRefused (RecordCut 2)) (codes "1 ip4 7\n") 1
unfolding digits
cut = refl

-- the line of the whole record in front of a part of the next, once so much was read
so_far : lines_so_far (by_guide usual) (ethernet_header ++ udp_record 210 ++ 0 ∷ 0 ∷ [])
    ≡ codes "1 ip4 1\n"
unfolding digits
so_far = refl

none_so_far : lines_so_far (by_guide usual) (212 ∷ []) ≡ []
none_so_far = refl

-- the words of a `classify` of the files r and c with these options
abbrev classify_with : List (List ℕ) → List (List ℕ)
classify_with options = codes "classify" ∷ codes "r" ∷ codes "c" ∷ options

abbrev pub classify : List (List ℕ)
classify = classify_with []

-- two files of these names
abbrev pub both : List ℕ → List ℕ → List File
both rules capture = record { name = codes "r"; bytes = rules }
    ∷ record { name = codes "c"; bytes = capture } ∷ []

empty : outcome classify (both [] ethernet_header)
    ≡ printed Done (codes "packets 0 ip4 0 ip6 0 other 0 short 0\n") 0
unfolding digits split.total_of split.groups_of split.groups_by split.turns split.turn
empty = refl

-- a table of no rules has 16 words, and a budget of one word less is too small, whatever the
-- capture
enough : outcome (classify_with (codes "max-words=16" ∷ [])) (both [] ethernet_header)
    ≡ printed Done (codes "packets 0 ip4 0 ip6 0 other 0 short 0\n") 0
unfolding digits split.total_of split.groups_of split.groups_by split.turns split.turn
enough = refl

too_large : outcome (classify_with (codes "max-words=15" ∷ []))
    (record { name = codes "r"; bytes = [] } ∷ []) ≡ silent (TooLarge Ip4 16 15)
unfolding split.total_of split.groups_of split.groups_by split.turns split.turn split.split_place
too_large = refl

no_words : outcome [] (both [] ethernet_header) ≡ silent (Usage (fault_at 1 MissingCommand))
no_words = refl

-- the rule file comes before the capture
no_rule_file : outcome classify (record { name = codes "c"; bytes = [] } ∷ []) ≡ silent ReadFault
no_rule_file = refl

bad_rules_and_no_capture : outcome classify (record { name = codes "r"; bytes = codes "x" } ∷ [])
    ≡ silent (RulesRefused (record { line = 1; kind = BadStart }))
bad_rules_and_no_capture = refl

no_capture : outcome classify (record { name = codes "r"; bytes = [] } ∷ []) ≡ silent ReadFault
unfolding split.total_of split.groups_of split.groups_by split.turns split.turn split.split_place
no_capture = refl

no_file_header : outcome classify (both [] []) ≡ silent (CaptureRefused HeaderCut)
unfolding split.total_of split.groups_of split.groups_by split.turns split.turn split.split_place
no_file_header = refl

-- What `classify` prints, said by itself: of rule lines, winners, captures, headers and lines, and
-- of what the desk gave and the output took, whatever they are.
use Rattle.std.specs.Prelude.{◌≡◌, ℕ, List, [], ◌∷◌, ◌++◌, map, codes, false, Option, Some, None}
use Rattle.std.specs.Prelude.{Ok}
use Rattle.std.specs.List.{enumerate_from, flat_map, range_with_len}
use Rattle.field_defs.specs.declared.field.FieldDef.{FieldDef}
use Rattle.field_defs.specs.Layout.{ip4_fields, ip6_fields}
use Rattle.rule_set.specs.Rule.{RuleView}
use Rattle.classbench_reader.specs.RuleFile.{RuleLists, rule_file_of}
use Rattle.header_extract.specs.declared.class.Class.{Class}
use Rattle.header_extract.specs.declared.class.Class.TheVariants.{Ip4, Ip6, Other, Short}
use Rattle.pcap_reader.specs.declared.capture_fault.CaptureFault.{CaptureFault}
use Rattle.pcap_reader.specs.State.{CaptureRecord}
use Rattle.pcapng_reader.specs.Capture.{capture_of, whole_records}
use Rattle.acl_report.specs.Packet.{packet_text}
use Rattle.acl_report.specs.Counts.{packets_text}
use Rattle.acl_outside.specs.Heard.{Heard, Ended}
use Rattle.command_ending.specs.declared.status.Status.{Status}
use Rattle.capture_report.specs.Shown.{answer_of_rules, counts_of_records, fault_of_capture}
use Rattle.capture_report.specs.Shown.{packet_of, shown, status_of_fault}
use Rattle.acl_tool.specs.GivenOptions.{categories_shown, is_on}

-- what is shown of a key, from category 0 on: the userdata of the first matching rule of greatest
-- priority, and where no rule matches the digit 0, or a dash after `marks=on`
abbrev pub answers_by : List FieldDef → List RuleView → List (List ℕ) → List ℕ → List (Option ℕ)
answers_by layout rules options key =
    map (λ category. shown (is_on (codes "marks=") options)
    (answer_of_rules layout rules key category)) (range_with_len 0 (categories_shown options))

-- the same of a packet, by the rules of its family: a frame without a packet has no answers
abbrev pub answers_to : RuleLists → List (List ℕ) → Class → List ℕ → List (Option ℕ)
answers_to rules options Ip4 key = answers_by ip4_fields rules.ip4 options key
answers_to rules options Ip6 key = answers_by ip6_fields rules.ip6 options key
answers_to rules options Other key = []
answers_to rules options Short key = []

-- the line of a record: its number, its class, and what is shown of its packet
abbrev pub line_to : RuleLists → List (List ℕ) → ℕ → CaptureRecord → List ℕ
line_to rules options number captured =
    packet_text number (packet_of captured).class
    (answers_to rules options (packet_of captured).class (packet_of captured).key)

-- a line for each record, numbered from 1
abbrev pub lines_to : RuleLists → List (List ℕ) → List CaptureRecord → List ℕ
lines_to rules options records =
    flat_map (λ numbered. line_to rules options numbered.0 numbered.1) (enumerate_from 1 records)

-- after the lines of a whole capture its counts, and then what `stats=on` adds; after those of a
-- refused capture nothing
abbrev pub last_lines_to : Option CaptureFault → List CaptureRecord → List ℕ → List ℕ
last_lines_to None records stats = packets_text (counts_of_records records) ++ stats
last_lines_to (Some fault) records stats = []

-- The words of a `classify` name two files. The desk was asked for each of them once, and for
-- nothing else: `new` is what it gave in all, and `old` what it gave before. All of the rule file
-- was read, and its lines are the rules.
pub record Hears (words : List (List ℕ)) (old new : List Heard) : Type 0 where
  pub rule_file : Heard
  pub capture : Heard
  pub options : List (List ℕ)
  pub rules : RuleLists
  pub named : words ≡ codes "classify" ∷ rule_file.name ∷ capture.name ∷ options
  pub once : new ≡ capture ∷ rule_file ∷ old
  pub whole : rule_file.ending ≡ Ended
  pub accepted : rule_file_of rule_file.bytes ≡ Ok rules

-- `classify` printed the lines of a capture, which is refused with the fault, or whole where that
-- is none. The output has `out_new` after `out_old`.
pub record PrintsVerdicts (words : List (List ℕ)) (fault : Option CaptureFault)
    (old new : List Heard) (out_old out_new : List ℕ) : Type 0 where
  pub heard : Hears words old new
  pub stats : List ℕ
  -- all of a whole capture was read, and a refused one is refused whatever more of it may come
  pub is_last : fault ≡ None → heard.capture.ending ≡ Ended
  pub refused : (more : List ℕ) → (heard.capture.ending ≡ Ended → more ≡ []) →
      fault_of_capture (capture_of (heard.capture.bytes ++ more)) ≡ fault
  -- a line for each whole record was taken, and after a whole capture the last lines
  pub taken : out_new ≡ out_old
      ++ (lines_to heard.rules heard.options (whole_records heard.capture.bytes)
      ++ last_lines_to fault (whole_records heard.capture.bytes) stats)
  pub no_stats : is_on (codes "stats=") heard.options ≡ false → stats ≡ []

-- Wherever `classify` ends with Done, or with a refused capture, it printed so.
abbrev pub ClassifyPrints : List (List ℕ) → Status → List Heard → List Heard → List ℕ → List ℕ →
    Type 0
ClassifyPrints words status old new out_old out_new =
    (after : List (List ℕ)) (fault : Option CaptureFault) → words ≡ codes "classify" ∷ after →
    status ≡ status_of_fault fault → PrintsVerdicts words fault old new out_old out_new

-- The line on standard error that tells how a command ended.
use Rattle.std.specs.Prelude.{ℕ, ◌+◌, List, [], ◌∷◌, ◌++◌, codes, decimal}
use Rattle.acl_report.specs.Tables.{family_word}
use Rattle.command_ending.specs.declared.status.Status.{Status}
use Rattle.command_ending.specs.declared.status.Status.TheVariants.{Done, Usage, RulesRefused}
use Rattle.command_ending.specs.declared.status.Status.TheVariants.{TooLarge, CaptureRefused}
use Rattle.command_ending.specs.declared.status.Status.TheVariants.{ImageRefused}
use Rattle.command_ending.specs.declared.status.Status.TheVariants.{ReadFault, WriteFault}
use Rattle.command_ending.specs.declared.status.Status.TheVariants.{OutOfMemory, TooManyTogether}
use Rattle.command_ending.specs.declared.status.Status.TheVariants.{ScriptRefused, SecondRulesRefused}
use Rattle.command_words.specs.declared.usage_fault.UsageKind.{UsageKind}
use Rattle.command_words.specs.declared.usage_fault.UsageKind.TheVariants.{MissingCommand, UnknownCommand}
use Rattle.command_words.specs.declared.usage_fault.UsageKind.TheVariants.{MissingName, UnknownOption}
use Rattle.command_words.specs.declared.usage_fault.UsageKind.TheVariants.{RepeatedOption, BadValue}
use Rattle.classbench_reader.specs.declared.rules_fault.LineKind.{LineKind}
use Rattle.classbench_reader.specs.declared.rules_fault.LineKind.TheVariants.{FileTooLong, TooManyRules}
use Rattle.classbench_reader.specs.declared.rules_fault.LineKind.TheVariants.{BadStart, BadAddress}
use Rattle.classbench_reader.specs.declared.rules_fault.LineKind.TheVariants.{BadPrefix, MixedFamilies}
use Rattle.classbench_reader.specs.declared.rules_fault.LineKind.TheVariants.{BadPorts, EmptyRange}
use Rattle.classbench_reader.specs.declared.rules_fault.LineKind.TheVariants.{BadProtocol, BadFlags}
use Rattle.classbench_reader.specs.declared.rules_fault.LineKind.TheVariants.{BadAttribute, TailLeft}
use Rattle.classbench_reader.specs.declared.rules_fault.LineKind.TheVariants.{NoCategory, PriorityRange}
use Rattle.pcap_reader.specs.declared.capture_fault.CaptureFault.{CaptureFault}
use Rattle.pcap_reader.specs.declared.capture_fault.CaptureFault.TheVariants.{HeaderCut, Magic, Version}
use Rattle.pcap_reader.specs.declared.capture_fault.CaptureFault.TheVariants.{LinkType, RecordCut}
use Rattle.pcap_reader.specs.declared.capture_fault.CaptureFault.TheVariants.{RecordTooLong, TooManyRecords}
use Rattle.pcap_reader.specs.declared.capture_fault.CaptureFault.TheVariants.{ReadFault as CannotRead}
use Rattle.pcap_reader.specs.declared.capture_fault.CaptureFault.TheVariants.{PngCut, PngLength, PngOrder}
use Rattle.pcap_reader.specs.declared.capture_fault.CaptureFault.TheVariants.{PngVersion, PngInterface}
use Rattle.pcap_reader.specs.declared.capture_fault.CaptureFault.TheVariants.{PngLink, PngTooMany}
use Rattle.pcap_reader.specs.Capture.{max_records}
use Rattle.table_image.specs.declared.load_fault.ImageKind.{ImageKind}
use Rattle.table_image.specs.declared.load_fault.ImageKind.TheVariants as kind

-- what is told of a usage fault
abbrev pub usage_text : UsageKind → List ℕ
usage_text MissingCommand = codes "missing command"
usage_text UnknownCommand = codes "unknown command"
usage_text MissingName = codes "missing name"
usage_text UnknownOption = codes "unknown option"
usage_text RepeatedOption = codes "repeated option"
usage_text BadValue = codes "bad value"

-- what is told of a line of a rule file
abbrev pub line_text : LineKind → List ℕ
line_text FileTooLong = codes "file too long"
line_text TooManyRules = codes "too many rules"
line_text BadStart = codes "bad start"
line_text BadAddress = codes "bad address"
line_text BadPrefix = codes "bad prefix"
line_text MixedFamilies = codes "mixed families"
line_text BadPorts = codes "bad ports"
line_text EmptyRange = codes "empty range"
line_text BadProtocol = codes "bad protocol"
line_text BadFlags = codes "bad flags"
line_text BadAttribute = codes "bad attribute"
line_text TailLeft = codes "tail left"
line_text NoCategory = codes "no category"
line_text PriorityRange = codes "priority range"

-- what is told of a capture
abbrev pub capture_text : CaptureFault → List ℕ
capture_text HeaderCut = codes "header cut"
capture_text Magic = codes "magic"
capture_text Version = codes "version"
capture_text LinkType = codes "link type"
capture_text (RecordCut number) = codes "cut"
capture_text (RecordTooLong number) = codes "too long"
capture_text TooManyRecords = codes "too many"
capture_text CannotRead = codes "read fault"
capture_text (PngCut number) = codes "block cut"
capture_text (PngLength number) = codes "block length"
capture_text (PngOrder number) = codes "byte order"
capture_text (PngVersion number) = codes "section version"
capture_text (PngInterface number) = codes "no interface"
capture_text (PngLink number) = codes "interface link type"
capture_text (PngTooMany number) = codes "too many interfaces"

-- the number of the record that a fault names: 0 for the file header, and one more than the
-- greatest for too many
abbrev pub record_of_fault : CaptureFault → ℕ
record_of_fault HeaderCut = 0
record_of_fault Magic = 0
record_of_fault Version = 0
record_of_fault LinkType = 0
record_of_fault (RecordCut number) = number
record_of_fault (RecordTooLong number) = number
record_of_fault TooManyRecords = max_records + 1
record_of_fault CannotRead = 0
record_of_fault (PngCut number) = number
record_of_fault (PngLength number) = number
record_of_fault (PngOrder number) = number
record_of_fault (PngVersion number) = number
record_of_fault (PngInterface number) = number
record_of_fault (PngLink number) = number
record_of_fault (PngTooMany number) = number

-- what is told of a saved image of tables
abbrev pub image_text : ImageKind → List ℕ
image_text kind.Magic = codes "magic"
image_text kind.Version = codes "version"
image_text kind.Family = codes "family"
image_text kind.Length = codes "length"
image_text kind.TooMany = codes "too many"
image_text kind.Unsound = codes "unsound"
image_text kind.RowForm = codes "row form"
image_text kind.Trailing = codes "trailing"
image_text kind.KeptGroups = codes "kept groups"

-- what stands after the program's name: a subject, a number and a kind
abbrev pub numbered : List ℕ → ℕ → List ℕ → List ℕ
numbered subject number kind =
    codes "aclc: " ++ subject ++ decimal number ++ codes ": " ++ kind ++ 10 ∷ []

-- what is told of a table that is too large: its family, the words that it needs, and the budget
abbrev pub too_large_text : List ℕ → ℕ → ℕ → List ℕ
too_large_text family words budget =
    codes "aclc: " ++ family ++ codes " table too large: words " ++ decimal words
    ++ codes " budget " ++ decimal budget ++ 10 ∷ []

-- the line of a status, and nothing for `Done`
abbrev pub message : Status → List ℕ
message Done = []
message (Usage fault) = numbered (codes "usage: word ") fault.word (usage_text fault.kind)
message (RulesRefused fault) = numbered (codes "rules: line ") fault.line (line_text fault.kind)
message (TooLarge family words budget) = too_large_text (family_word family) words budget
message (CaptureRefused fault) =
    numbered (codes "capture: record ") (record_of_fault fault) (capture_text fault)
message (ImageRefused fault) =
    numbered (codes "image: byte ") fault.place (image_text fault.kind)
message ReadFault = codes "aclc: read fault" ++ 10 ∷ []
message WriteFault = codes "aclc: write fault" ++ 10 ∷ []
message OutOfMemory = codes "aclc: out of memory" ++ 10 ∷ []
message TooManyTogether = codes "aclc: compare: too many rules" ++ 10 ∷ []
message (SecondRulesRefused fault) =
    numbered (codes "second rules: line ") fault.line (line_text fault.kind)
message ScriptRefused = codes "aclc: script: too long" ++ 10 ∷ []

-- the exit code of a status
abbrev pub code_of : Status → ℕ
code_of Done = 0
code_of (Usage fault) = 2
code_of (RulesRefused fault) = 3
code_of (TooLarge family words budget) = 4
code_of (CaptureRefused fault) = 5
code_of (ImageRefused fault) = 6
code_of ReadFault = 7
code_of WriteFault = 8
code_of OutOfMemory = 9
code_of ScriptRefused = 10
code_of TooManyTogether = 11
code_of (SecondRulesRefused fault) = 12

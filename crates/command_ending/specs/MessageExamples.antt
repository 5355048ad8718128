-- Examples of the line on standard error and of the exit code, each checked by evaluation: every
-- text that there is.
use Rattle.std.specs.Prelude.{◌≡◌, [], ◌∷◌, codes, refl, map}
use Rattle.std.specs.Fmt.{digits}
use Rattle.field_defs.specs.declared.field.Family.TheVariants.{Ip4, Ip6}
use Rattle.table_image.specs.declared.load_fault.ImageKind.TheVariants as kind
use Rattle.command_ending.specs.declared.status.Status.TheVariants.{Done, Usage, RulesRefused}
use Rattle.command_ending.specs.declared.status.Status.TheVariants.{TooLarge, CaptureRefused}
use Rattle.command_ending.specs.declared.status.Status.TheVariants.{ReadFault, WriteFault}
use Rattle.command_ending.specs.declared.status.Status.TheVariants.{OutOfMemory, ImageRefused}
use Rattle.command_ending.specs.declared.status.Status.TheVariants.{TooManyTogether}
use Rattle.command_ending.specs.declared.status.Status.TheVariants.{ScriptRefused, SecondRulesRefused}
use Rattle.command_words.specs.declared.usage_fault.UsageKind.TheVariants.{MissingCommand, UnknownCommand}
use Rattle.command_words.specs.declared.usage_fault.UsageKind.TheVariants.{MissingName, UnknownOption}
use Rattle.command_words.specs.declared.usage_fault.UsageKind.TheVariants.{RepeatedOption, BadValue}
use Rattle.classbench_reader.specs.declared.rules_fault.LineKind.TheVariants.{FileTooLong, TooManyRules}
use Rattle.classbench_reader.specs.declared.rules_fault.LineKind.TheVariants.{BadStart, BadAddress}
use Rattle.classbench_reader.specs.declared.rules_fault.LineKind.TheVariants.{BadPrefix, MixedFamilies}
use Rattle.classbench_reader.specs.declared.rules_fault.LineKind.TheVariants.{BadPorts, EmptyRange}
use Rattle.classbench_reader.specs.declared.rules_fault.LineKind.TheVariants.{BadProtocol, BadFlags}
use Rattle.classbench_reader.specs.declared.rules_fault.LineKind.TheVariants.{BadAttribute, TailLeft}
use Rattle.classbench_reader.specs.declared.rules_fault.LineKind.TheVariants.{NoCategory, PriorityRange}
use Rattle.pcap_reader.specs.declared.capture_fault.CaptureFault.TheVariants.{HeaderCut, Magic, Version}
use Rattle.pcap_reader.specs.declared.capture_fault.CaptureFault.TheVariants.{LinkType, RecordCut}
use Rattle.pcap_reader.specs.declared.capture_fault.CaptureFault.TheVariants.{RecordTooLong, TooManyRecords}
use Rattle.pcap_reader.specs.declared.capture_fault.CaptureFault.TheVariants.{PngCut, PngLength, PngOrder}
use Rattle.pcap_reader.specs.declared.capture_fault.CaptureFault.TheVariants.{PngVersion, PngInterface}
use Rattle.pcap_reader.specs.declared.capture_fault.CaptureFault.TheVariants.{PngLink, PngTooMany}
use Rattle.command_words.specs.Command.{fault_at}
use Rattle.command_ending.specs.Message.{message, usage_text, line_text, capture_text, code_of}
use Rattle.command_ending.specs.Message.{image_text}

done : message Done ≡ []
done = refl

usage : message (Usage (fault_at 1 UnknownCommand)) ≡ codes "aclc: usage: word 1: unknown command\n"
unfolding digits
usage = refl

bad_line : message (RulesRefused (record { line = 12; kind = BadStart }))
    ≡ codes "aclc: rules: line 12: bad start\n"
unfolding digits
bad_line = refl

long_rule_file : message (RulesRefused (record { line = 0; kind = FileTooLong }))
    ≡ codes "aclc: rules: line 0: file too long\n"
unfolding digits
long_rule_file = refl

large_table : message (TooLarge Ip4 16 15) ≡ codes "aclc: ip4 table too large: words 16 budget 15\n"
unfolding digits
large_table = refl

large_ip6_table : message (TooLarge Ip6 67108865 67108864)
    ≡ codes "aclc: ip6 table too large: words 67108865 budget 67108864\n"
unfolding digits
large_ip6_table = refl

wrong_header : message (CaptureRefused Magic) ≡ codes "aclc: capture: record 0: magic\n"
unfolding digits
wrong_header = refl

cut_record : message (CaptureRefused (RecordCut 3)) ≡ codes "aclc: capture: record 3: cut\n"
unfolding digits
cut_record = refl

too_many_records : message (CaptureRefused TooManyRecords)
    ≡ codes "aclc: capture: record 1000000001: too many\n"
unfolding digits
too_many_records = refl

read_fault : message ReadFault ≡ codes "aclc: read fault\n"
read_fault = refl

write_fault : message WriteFault ≡ codes "aclc: write fault\n"
write_fault = refl

out_of_memory : message OutOfMemory ≡ codes "aclc: out of memory\n"
out_of_memory = refl

too_many_together : message TooManyTogether ≡ codes "aclc: compare: too many rules\n"
too_many_together = refl

bad_second_line : message (SecondRulesRefused (record { line = 2; kind = EmptyRange }))
    ≡ codes "aclc: second rules: line 2: empty range\n"
unfolding digits
bad_second_line = refl

long_script : message ScriptRefused ≡ codes "aclc: script: too long\n"
long_script = refl

usage_kinds : map usage_text
    (MissingCommand ∷ UnknownCommand ∷ MissingName ∷ UnknownOption ∷ RepeatedOption ∷ BadValue ∷ [])
    ≡ codes "missing command" ∷ codes "unknown command" ∷ codes "missing name"
    ∷ codes "unknown option" ∷ codes "repeated option"
    ∷ codes "bad value" ∷ []
usage_kinds = refl

line_kinds : map line_text (
    FileTooLong ∷ TooManyRules ∷ BadStart ∷ BadAddress ∷ BadPrefix ∷ MixedFamilies ∷ BadPorts
    ∷ EmptyRange ∷ BadProtocol ∷ BadFlags
    ∷ BadAttribute ∷ TailLeft ∷ NoCategory ∷ PriorityRange ∷ [])
    ≡ codes "file too long" ∷ codes "too many rules" ∷ codes "bad start" ∷ codes "bad address"
    ∷ codes "bad prefix" ∷ codes "mixed families"
    ∷ codes "bad ports" ∷ codes "empty range" ∷ codes "bad protocol" ∷ codes "bad flags"
    ∷ codes "bad attribute" ∷ codes "tail left"
    ∷ codes "no category" ∷ codes "priority range" ∷ []
line_kinds = refl

capture_kinds : map capture_text (
    HeaderCut ∷ Magic ∷ Version ∷ LinkType ∷ RecordCut 1 ∷ RecordTooLong 1 ∷ TooManyRecords ∷ [])
    ≡ codes "header cut" ∷ codes "magic" ∷ codes "version" ∷ codes "link type" ∷ codes "cut"
    ∷ codes "too long" ∷ codes "too many" ∷ []
capture_kinds = refl

block_kinds : map capture_text (
    PngCut 1 ∷ PngLength 1 ∷ PngOrder 1 ∷ PngVersion 1 ∷ PngInterface 1 ∷ PngLink 1
    ∷ PngTooMany 1 ∷ [])
    ≡ codes "block cut" ∷ codes "block length" ∷ codes "byte order" ∷ codes "section version"
    ∷ codes "no interface" ∷ codes "interface link type" ∷ codes "too many interfaces" ∷ []
block_kinds = refl

image_kinds : map image_text (
    kind.Magic ∷ kind.Version ∷ kind.Family ∷ kind.Length ∷ kind.TooMany ∷ kind.Unsound
    ∷ kind.RowForm ∷ kind.Trailing ∷ kind.KeptGroups ∷ [])
    ≡ codes "magic" ∷ codes "version" ∷ codes "family" ∷ codes "length" ∷ codes "too many"
    ∷ codes "unsound" ∷ codes "row form" ∷ codes "trailing" ∷ codes "kept groups" ∷ []
image_kinds = refl

trailing_byte : message (ImageRefused (record { place = 192; kind = kind.Trailing }))
    ≡ codes "aclc: image: byte 192: trailing\n"
unfolding digits
trailing_byte = refl

long_record : message (CaptureRefused (RecordTooLong 7))
    ≡ codes "aclc: capture: record 7: too long\n"
unfolding digits
long_record = refl

cut_block : message (CaptureRefused (PngCut 2)) ≡ codes "aclc: capture: record 2: block cut\n"
unfolding digits
cut_block = refl

no_interface : message (CaptureRefused (PngInterface 1))
    ≡ codes "aclc: capture: record 1: no interface\n"
unfolding digits
no_interface = refl

-- each status has a code of its own
all_codes : map code_of (
    Done ∷ Usage (fault_at 1 UnknownCommand) ∷ RulesRefused (record { line = 1; kind = BadStart })
    ∷ TooLarge Ip4 16 15 ∷ CaptureRefused Magic
    ∷ ImageRefused (record { place = 0; kind = kind.Length }) ∷ ReadFault ∷ WriteFault ∷ OutOfMemory
    ∷ ScriptRefused ∷ TooManyTogether
    ∷ SecondRulesRefused (record { line = 1; kind = BadStart }) ∷ [])
    ≡ 0 ∷ 2 ∷ 3 ∷ 4 ∷ 5 ∷ 6 ∷ 7 ∷ 8 ∷ 9 ∷ 10 ∷ 11 ∷ 12 ∷ []
all_codes = refl

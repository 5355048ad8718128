-- The lines on standard error that tell how a run ended.
use Rattle.std.specs.Prelude.{◌≡◌, ◌≤◌, ℕ, List, [], ◌∷◌, ◌++◌, codes, decimal, length, Option, Some, None}
use Rattle.std.specs.Prelude.{Bool, true, false, if◌then◌else◌}
use Rattle.command_ending.specs.Message.{usage_text}
use Rattle.iptables_reader.specs.declared.fault.LineKind.{LineKind}
use Rattle.iptables_reader.specs.declared.fault.LineKind.TheVariants as line
use Rattle.cisco_reader.specs.declared.fault.LineKind as cisco
use Rattle.cisco_reader.specs.declared.fault.LineKind.TheVariants as entry
use Rattle.nft_reader.specs.declared.fault.ObjectKind.{ObjectKind}
use Rattle.nft_reader.specs.declared.fault.ObjectKind.TheVariants as object
use Rattle.nft_reader.specs.declared.fault.RuleKind.{RuleKind}
use Rattle.nft_reader.specs.declared.fault.RuleKind.TheVariants as rule
use Rattle.nft_reader.specs.declared.fault.StartFault.{StartFault}
use Rattle.nft_reader.specs.declared.fault.StartFault.TheVariants as start
use Rattle.acl_outside.specs.Heard.{Heard}
use Rattle.list_tool.specs.Shown.{line_at, shown}
use Rattle.list_tool.specs.declared.status.ListFault.{ListFault}
use Rattle.list_tool.specs.declared.status.ListKind.{ListKind}
use Rattle.list_tool.specs.declared.status.ListKind.TheVariants as kind
use Rattle.list_tool.specs.declared.status.ListPlace.{ListPlace}
use Rattle.list_tool.specs.declared.status.ListPlace.TheVariants as placed
use Rattle.list_tool.specs.declared.status.ListStatus.{ListStatus}
use Rattle.list_tool.specs.declared.status.ListStatus.TheVariants.{Done, Usage, Refused, ReadFault}
use Rattle.list_tool.specs.declared.status.ListStatus.TheVariants.{WriteFault, OutOfMemory}

-- a call gave this text, for which a line has room
pub record Says (text said : List ℕ) : Type 0 where
  pub same : said ≡ text
  pub short : length said ≤ 40

-- what is told of a line of a saved list
abbrev pub table_text : LineKind → List ℕ
table_text line.FileTooLong = codes "file too long"
table_text line.NoTable = codes "no table"
table_text line.OtherTable = codes "unknown table"
table_text line.SecondTable = codes "table given twice"
table_text line.NoCommit = codes "no COMMIT"
table_text line.NoFilter = codes "no table filter"
table_text line.MayDrop = codes "another table may drop these packets"
table_text line.LacksInterface = codes "these packets have no such interface"
table_text line.BadChain = codes "bad chain"
table_text line.ChainTwice = codes "chain declared twice"
table_text line.LateChain = codes "chain declared after rules"
table_text line.BadPolicy = codes "bad policy"
table_text line.BadStart = codes "no -A"
table_text line.NoChain = codes "chain not declared"
table_text line.MissingWord = codes "missing word"
table_text line.UnknownOption = codes "unknown option"
table_text line.OptionTwice = codes "repeated option"
table_text line.BadNegation = codes "bad negation"
table_text line.BadMatch = codes "bad match"
table_text line.BadAddress = codes "bad address"
table_text line.BadProtocol = codes "bad protocol"
table_text line.BadPorts = codes "bad ports"
table_text line.NeedsProtocol = codes "needs a protocol or a target before it"
table_text line.BadQuotes = codes "bad quotes"
table_text line.BadTarget = codes "bad target"
table_text line.BadAnswer = codes "bad answer of REJECT"
table_text line.BadInterface = codes "bad interface"
table_text line.BadState = codes "bad state"
table_text line.NeedsInterface = codes "interface not assumed"
table_text line.NeedsState = codes "state not assumed"
table_text line.NeedsLocal = codes "local addresses not assumed"
table_text line.CantSay = codes "matches what no rule file says"

-- and of a line of a configuration
abbrev pub cisco_text : cisco.LineKind → List ℕ
cisco_text entry.FileTooLong = codes "file too long"
cisco_text entry.NoList = codes "no such list"
cisco_text entry.NoEntries = codes "list without entries"
cisco_text entry.NotExtended = codes "no extended list of IPv4"
cisco_text entry.BadList = codes "no list or entry of one"
cisco_text entry.TakenOut = codes "list, entry or group taken out"
cisco_text entry.StrayEntry = codes "entry outside of a list"
cisco_text entry.NoEntry = codes "no entry of its list"
cisco_text entry.UnknownLine = codes "unknown line"
cisco_text entry.BadText = codes "text with a list, or without an end"
cisco_text entry.Wrapped = codes "may be the end of the entry before"
cisco_text entry.BadSequence = codes "bad sequence number"
cisco_text entry.SequenceTwice = codes "repeated sequence number"
cisco_text entry.LooseEntry = codes "entry before without a sequence number"
cisco_text entry.MissingWord = codes "missing word"
cisco_text entry.Group = codes "ports beside a group of services"
cisco_text entry.BadGroup = codes "no kind and name of a group"
cisco_text entry.KindTwice = codes "group begun with another kind"
cisco_text entry.NoGroup = codes "no such group"
cisco_text entry.OtherKind = codes "group of another kind"
cisco_text entry.EmptyGroup = codes "group without members"
cisco_text entry.GroupLoop = codes "group within itself"
cisco_text entry.LargeGroup = codes "group too large"
cisco_text entry.BadNetworkMask = codes "bad mask of a network"
cisco_text entry.BadProtocol = codes "bad protocol"
cisco_text entry.ZeroProtocol = codes "protocol 0"
cisco_text entry.BadAddress = codes "bad address"
cisco_text entry.BadMask = codes "bad wildcard mask"
cisco_text entry.BadPort = codes "bad port"
cisco_text entry.ManyPorts = codes "more than 10 ports"
cisco_text entry.NeedsProtocol = codes "ports of another protocol"
cisco_text entry.Compares = codes "matches what no rule file says"
cisco_text entry.IcmpType = codes "type of ICMP"
cisco_text entry.UnknownWord = codes "unknown word"

-- of an object of a ruleset
abbrev pub object_text : ObjectKind → List ℕ
object_text object.FileTooLong = codes "file too long"
object_text object.NotJson = codes "no JSON in UTF-8"
object_text object.NoList = codes "no ruleset of nft"
object_text object.UnknownObject = codes "unknown object"
object_text object.NoFamily = codes "no family"
object_text object.BadTable = codes "table that may be dormant"
object_text object.BadChain = codes "bad chain"
object_text object.BadPolicy = codes "bad policy"
object_text object.BadHook = codes "no such type, hook and priority"
object_text object.ChainTwice = codes "chain declared twice"
object_text object.BadRule = codes "bad rule"
object_text object.NoChain = codes "chain not declared"

-- of a rule of a ruleset
abbrev pub rule_text : RuleKind → List ℕ
rule_text rule.BadStatement = codes "bad statement"
rule_text rule.UnknownStatement = codes "unknown statement"
rule_text rule.AfterVerdict = codes "statement after the verdict"
rule_text rule.NoTarget = codes "target not there"
rule_text rule.Rate = codes "depends on a rate"
rule_text rule.NoSet = codes "no such set"
rule_text rule.ChangingSet = codes "set that changes"
rule_text rule.OtherSet = codes "unknown kind of set"
rule_text rule.NeedsInterface = codes "interface not assumed"
rule_text rule.NeedsState = codes "state not assumed"
rule_text rule.HookInterface = codes "interface that its packets don't have"
rule_text rule.HookState = codes "state that isn't known yet"
rule_text rule.PortPair = codes "both ports unequal, which nft may join"
rule_text rule.CantSay = codes "matches what no rule file says"

-- and of a name of base chains
abbrev pub start_text : StartFault → List ℕ
start_text start.NoStart = codes "no base chain of this name"
start_text start.ManyStarts = codes "base chains of this name in many tables"
start_text start.NatStart = codes "base chain of type nat"
start_text start.OtherInterface = codes "assumes an interface packets don't have"
start_text (start.Beside handle) = codes "may drop in another base chain"

-- what is told of a list
abbrev pub list_text : ListKind → List ℕ
list_text (kind.Line fault) = table_text fault
list_text (kind.CiscoLine fault) = cisco_text fault
list_text (kind.Object fault) = object_text fault
list_text (kind.Rule fault) = rule_text fault
list_text (kind.BaseChain fault) = start_text fault
list_text kind.NoChain = codes "no such chain"
list_text kind.NoPolicy = codes "chain without a policy"
list_text kind.NoTarget = codes "target not there"
list_text kind.Loop = codes "loop"
list_text kind.TooManyRules = codes "too many rules"
list_text kind.TooManySteps = codes "too many ways through the chains"
list_text kind.TooDeep = codes "jumps through more than 1,024 chains"
list_text kind.NoPrefix = codes "addresses without a prefix"
list_text kind.TextTooLong = codes "rule file too long"

-- what a place is called, before its number
abbrev pub place_text : ListPlace → List ℕ
place_text (placed.Line number) = codes "list: line "
place_text (placed.Object number) = codes "list: object "
place_text (placed.Handle number) = codes "list: handle "

-- the number of a place
abbrev pub place_number : ListPlace → ℕ
place_number (placed.Line number) = number
place_number (placed.Object number) = number
place_number (placed.Handle number) = number

-- A fault stands in the line that its place names. That a list isn't there, or has no entries, is
-- told at the end of the configuration.
abbrev pub stands_in_line : ListKind → Bool
stands_in_line (kind.CiscoLine entry.NoList) = false
stands_in_line (kind.CiscoLine entry.NoEntries) = false
stands_in_line other = true

-- the line that a place names, if it names one
abbrev pub line_of_place : List ℕ → ListPlace → Option (List ℕ)
line_of_place bytes (placed.Line number) = line_at bytes number
line_of_place bytes (placed.Object number) = None
line_of_place bytes (placed.Handle number) = None

-- a line of the list, below the message
abbrev pub below : Option (List ℕ) → List ℕ
below None = []
below (Some line) = codes "  " ++ shown line ++ 10 ∷ []

-- the line in which a fault stands
abbrev pub quoted : List ℕ → ListFault → List ℕ
quoted bytes fault =
    if stands_in_line fault.kind then below (line_of_place bytes fault.place) else []

-- what stands after the program's name: a subject, a number and a kind
abbrev pub numbered : List ℕ → ℕ → List ℕ → List ℕ
numbered subject number kind =
    codes "aclc-lists: " ++ subject ++ decimal number ++ codes ": " ++ kind ++ 10 ∷ []

-- What tells a status, by the name of the list and what was read of it: a line, and below it the
-- line of the list that is refused. `Done` has none.
abbrev pub message : List ℕ → List ℕ → ListStatus → List ℕ
message name bytes Done = []
message name bytes (Usage fault) =
    numbered (codes "usage: word ") fault.word (usage_text fault.kind)
message name bytes (Refused fault) =
    numbered (place_text fault.place) (place_number fault.place) (list_text fault.kind)
    ++ quoted bytes fault
message name bytes ReadFault =
    codes "aclc-lists: " ++ shown name ++ codes ": read fault" ++ 10 ∷ []
message name bytes WriteFault = codes "aclc-lists: write fault" ++ 10 ∷ []
message name bytes OutOfMemory = codes "aclc-lists: out of memory" ++ 10 ∷ []

-- the same by the file that was heard last, if there is one
abbrev pub message_after : List Heard → ListStatus → List ℕ
message_after [] status = message [] [] status
message_after (file ∷ earlier) status = message file.name file.bytes status

-- the exit code of a status
abbrev pub code_of : ListStatus → ℕ
code_of Done = 0
code_of (Usage fault) = 2
code_of (Refused fault) = 3
code_of ReadFault = 7
code_of WriteFault = 8
code_of OutOfMemory = 9

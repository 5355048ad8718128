-- What a line of a configuration is, as `show running-config` writes it: a command of access lists,
-- an entry, or a line of another part; and where the lines after a command of lists stand (Cisco
-- IOS Security Command Reference, "access-list (IP extended)", "ip access-list" and "ipv6
-- access-list"; Cisco IOS Master Command List, commands of the global configuration mode).
use Rattle.std.specs.Prelude.{ℕ, ◌==◌, Bool, true, false, not, ◌&&◌, ◌||◌, is_some, nat_le, if◌then◌else◌, codes}
use Rattle.std.specs.Prelude.{List, [], ◌∷◌, Option, Some, None, Result, Ok, Err}
use Rattle.std.specs.Str.{bytes_eq}
use Rattle.text_scan.specs.Parts.{is_blank, words_of}
use Rattle.cisco_reader.specs.declared.heads.Head.{Head}
use Rattle.cisco_reader.specs.declared.heads.Head.TheVariants as head
use Rattle.cisco_reader.specs.declared.heads.Stage.{Stage}
use Rattle.cisco_reader.specs.declared.heads.Stage.TheVariants as stage
use Rattle.cisco_reader.specs.declared.fault.LineKind.{LineKind}
use Rattle.cisco_reader.specs.declared.fault.LineKind.TheVariants.{BadList, NoEntry, NotExtended, Wrapped}
use Rattle.cisco_reader.specs.declared.names.Known.TheVariants as known
use Rattle.cisco_reader.specs.Names.{after_number, begins_known, is_known, max_count, number_of}
use Rattle.cisco_reader.specs.Read.{is_end, is_next, rest_of}

-- the line begins with a blank
abbrev pub is_inside : List ℕ → Bool
is_inside [] = false
is_inside (c ∷ cs) = is_blank c

-- the word begins with a byte
abbrev pub begins : ℕ → List ℕ → Bool
begins byte [] = false
begins byte (c ∷ cs) = c == byte

-- the word begins with a digit
abbrev pub begins_number : List ℕ → Bool
begins_number [] = false
begins_number (c ∷ cs) = nat_le 48 c && nat_le c 57

-- the words after `sequence`, which stands before the number of an IPv6 entry
abbrev pub after_sequence : List (List ℕ) → List (List ℕ)
after_sequence words = if is_next (codes "sequence") words then rest_of words else words

-- the words are those of an entry of a list, with its number in the sequence or without
abbrev pub is_entry : List (List ℕ) → Bool
is_entry words = begins_known known.Entry (after_number (after_sequence words))

-- what stands after `ip` in an entry whose first word is lost
abbrev pub is_address : List (List ℕ) → Bool
is_address [] = true
is_address (word ∷ words) = begins_number word || is_known known.Address word

-- the words of a line without blanks before it begin another part of a configuration
abbrev pub begins_part : List ℕ → List (List ℕ) → Bool
begins_part first words =
    if is_known known.Ip first then not (is_address words) else is_known known.Part first

-- a line that is no command of lists
abbrev pub other_head : Bool → List ℕ → List (List ℕ) → Head
other_head inside first words =
    if inside then head.Inside else (if begins_part first words then head.Part else head.Unknown)

-- a command of numbered lists, of groups, or of lists with names, where `access-list` stands second
abbrev pub command_head : List ℕ → List (List ℕ) → Option Head
command_head first words =
    if bytes_eq first (codes "access-list") then Some head.Numbered
    else (if bytes_eq first (codes "object-group") then Some head.Group
    else (if is_known known.Named first && is_next (codes "access-list") words
    then Some head.Named else None))

-- a line after its `no`
abbrev pub removed_head : Bool → List (List ℕ) → Head
removed_head inside [] = head.Unknown
removed_head inside (first ∷ words) =
    if is_some (command_head first words) then head.TakenOut else other_head inside first words

-- a line that is such a command, an entry, the end of a part, or another one
abbrev pub plain_head : Bool → List ℕ → List (List ℕ) → Option Head → Head
plain_head inside first words (Some it) = it
plain_head inside first words None =
    if is_entry (first ∷ words) then head.Entry
    else (if is_known known.End first && is_end words then head.Part
    else other_head inside first words)

-- the words of a line that has some; `!` begins a comment, 33
abbrev pub head_words : Bool → List (List ℕ) → Head
head_words inside [] = head.Skipped
head_words inside (first ∷ words) =
    if begins 33 first then head.Skipped
    else (if bytes_eq first (codes "no") then removed_head inside words
    else plain_head inside first words (command_head first words))

-- what a line is
abbrev pub head_of : List ℕ → Head
head_of line = head_words (is_inside line) (words_of line)

-- a line is a command of lists, or an entry
abbrev pub is_of_lists : Head → Bool
is_of_lists head.Numbered = true
is_of_lists head.Named = true
is_of_lists head.Group = true
is_of_lists head.TakenOut = true
is_of_lists head.Entry = true
is_of_lists head.Skipped = false
is_of_lists head.Part = false
is_of_lists head.Inside = false
is_of_lists head.Unknown = false

-- ---- lists by their numbers and names

-- a number as devices write it, without a zero before it, that isn't below another
abbrev pub is_number_from : ℕ → List ℕ → Option ℕ → Bool
is_number_from low name None = false
is_number_from low name (Some number) = nat_le low number && not (begins 48 name)

-- the name is such a number of a range
abbrev pub in_range : ℕ → ℕ → List ℕ → Bool
in_range low high name = is_number_from low name (number_of high name)

-- the numbers of extended lists of IPv4
abbrev pub is_extended : List ℕ → Bool
is_extended name = in_range 100 199 name || in_range 2000 2699 name

-- the numbers of standard lists
abbrev pub is_standard : List ℕ → Bool
is_standard name = in_range 1 99 name || in_range 1300 1999 name

-- the numbers of lists of other protocols, and words that set something in their place
abbrev pub is_unread : List ℕ → Bool
is_unread name = in_range 200 1299 name || is_known known.Unread name

-- a name is no number, or that of an extended list
abbrev pub may_be_extended : List ℕ → Bool
may_be_extended name = is_extended name || not (is_some (number_of max_count name))

-- ---- where lines stand

-- after the extended list of a name begins
abbrev pub extended_stage : List ℕ → List ℕ → Result Stage LineKind
extended_stage asked name =
    if not (may_be_extended name) then Err BadList
    else (if bytes_eq name asked then Ok stage.Asked else Ok stage.Other)

-- after a list of a name begins that is of another kind
abbrev pub other_stage : List ℕ → List ℕ → Result Stage LineKind
other_stage asked name = if bytes_eq name asked then Err NotExtended else Ok stage.Other

-- after a word that has to set something for lists, and begins none
abbrev pub setting_stage : List ℕ → Result Stage LineKind
setting_stage word = if is_known known.Setting word then Ok stage.Outside else Err BadList

-- after a list of IP begins, by its kind and its name, or after a setting of two words
abbrev pub kind_stage : List ℕ → List ℕ → List ℕ → Result Stage LineKind
kind_stage asked kind name =
    if bytes_eq kind (codes "extended") then extended_stage asked name
    else (if bytes_eq kind (codes "standard") then other_stage asked name
    else (if is_known known.UnreadKind kind then Ok stage.Unread else setting_stage kind))

-- after `ip access-list` and some words
abbrev pub ip_stage : List ℕ → List (List ℕ) → Result Stage LineKind
ip_stage asked [] = Err BadList
ip_stage asked (word ∷ []) = setting_stage word
ip_stage asked (kind ∷ name ∷ []) = kind_stage asked kind name
ip_stage asked (kind ∷ name ∷ word ∷ words) = setting_stage kind

-- after `ipv6 access-list` and some words: a name, or a setting
abbrev pub ip6_stage : List ℕ → List (List ℕ) → Result Stage LineKind
ip6_stage asked [] = Err BadList
ip6_stage asked (name ∷ words) =
    if not (is_end words) || is_known known.Setting name then setting_stage name
    else other_stage asked name

-- after a command whose second word is `access-list`, by its first one
abbrev pub named_stage : List ℕ → List (List ℕ) → Result Stage LineKind
named_stage asked [] = Err BadList
named_stage asked (first ∷ words) =
    if bytes_eq first (codes "ip") then ip_stage asked (rest_of words)
    else (if bytes_eq first (codes "ipv6") then ip6_stage asked (rest_of words)
    else (if bytes_eq first (codes "hardware") then Ok stage.Outside else Ok stage.Unread))

-- the line stands in the list that is asked for
abbrev pub is_asked : Stage → Bool
is_asked stage.Outside = false
is_asked stage.Entered = false
is_asked stage.Asked = true
is_asked stage.Other = false
is_asked stage.Unread = false

-- an empty line or a comment ends the command before it, and no list
abbrev pub after_comment : Stage → Stage
after_comment stage.Outside = stage.Outside
after_comment stage.Entered = stage.Outside
after_comment stage.Asked = stage.Asked
after_comment stage.Other = stage.Other
after_comment stage.Unread = stage.Unread

-- the fault of a line that is no entry and no command, where it stands among entries
abbrev pub list_fault : Stage → Option LineKind
list_fault stage.Outside = None
list_fault stage.Entered = Some Wrapped
list_fault stage.Asked = Some NoEntry
list_fault stage.Other = Some NoEntry
list_fault stage.Unread = None

-- The list of a name in a configuration, line by line (Cisco IOS Security Command Reference,
-- "access-list (IP extended)", "ip access-list" and "ip access-list resequence"). Entries stand in
-- the order of their numbers, and one without is numbered ten after the greatest so far. Other
-- lists, and other parts of a configuration, have no part in it.
use Rattle.std.specs.Prelude.{ℕ, ◌+◌, ◌==◌, Bool, true, false, not, ◌&&◌, ◌||◌, nat_lt, nat_le, max}
use Rattle.std.specs.Prelude.{if◌then◌else◌, codes, List, [], ◌∷◌, length, drop, Option, Some, None, Result, Ok, Err}
use Rattle.std.specs.List.{insert, take_while}
use Rattle.std.specs.Str.{bytes_eq}
use Rattle.cisco_reader.specs.declared.entry.Entry.{Entry}
use Rattle.cisco_reader.specs.declared.entry.Verdict.{Verdict}
use Rattle.cisco_reader.specs.declared.entry.Verdict.TheVariants as verdict
use Rattle.cisco_reader.specs.declared.heads.Head.{Head}
use Rattle.cisco_reader.specs.declared.heads.Head.TheVariants as head
use Rattle.cisco_reader.specs.declared.heads.Stage.{Stage}
use Rattle.cisco_reader.specs.declared.heads.Stage.TheVariants as stage
use Rattle.cisco_reader.specs.declared.list.Loose.{Loose}
use Rattle.cisco_reader.specs.declared.list.Loose.TheVariants as loose
use Rattle.cisco_reader.specs.declared.list.Placed.{Placed}
use Rattle.cisco_reader.specs.declared.names.Known.TheVariants.{Compared, NumberedEntry}
use Rattle.cisco_reader.specs.declared.fault.LineFault.{LineFault}
use Rattle.cisco_reader.specs.declared.fault.LineKind.{LineKind}
use Rattle.cisco_reader.specs.declared.fault.LineKind.TheVariants as kind
use Rattle.cisco_reader.specs.Entry.{entry_of, unless}
use Rattle.cisco_reader.specs.Groups.{ListedGroup}
use Rattle.cisco_reader.specs.Heads.{after_comment, head_of, is_asked, is_extended, is_standard, is_unread}
use Rattle.cisco_reader.specs.Heads.{list_fault, named_stage}
use Rattle.cisco_reader.specs.Lines.{LinesSoFar, TextLine, words_in}
use Rattle.cisco_reader.specs.Names.{after_number, begins_known, first_number, is_known}
use Rattle.cisco_reader.specs.Read.{◌>>=◌, ◌>>-◌, all_after, in_line, required, rest_of}
unfoldable pub use Rattle.cisco_reader.specs.Names.{entry_words}

-- the groups of the file, where the next line stands, whether the list was begun, what is known of
-- entries without a number, the greatest number so far, and the entries in the order of their
-- numbers
pub record ListSoFar : Type 0 where
  pub groups : List ListedGroup
  pub stage : Stage
  pub begun : Bool
  pub loose : Loose
  pub last : ℕ
  pub entries : List Placed

-- nothing was read
abbrev pub no_list : List ListedGroup → ListSoFar
no_list groups = record {
  groups = groups;
  stage = stage.Outside;
  begun = false;
  loose = loose.None;
  last = 0;
  entries = [];
}

-- ---- entries

-- the greatest number in a sequence
abbrev pub max_sequence : ℕ
max_sequence = 4294967294

-- a number that a sequence may have
abbrev pub checked_sequence : ℕ → Result ℕ LineKind
checked_sequence number =
    if nat_le 1 number && nat_le number max_sequence then Ok number else Err kind.BadSequence

-- its own number, or ten after the greatest so far
abbrev pub sequence_after : ℕ → Option ℕ → Result ℕ LineKind
sequence_after last None = checked_sequence (last + 10)
sequence_after last (Some number) = checked_sequence number

-- a remark may have a number, which isn't told from those of later entries
abbrev pub loose_after_remark : Loose → Loose
loose_after_remark loose.None = loose.Remark
loose_after_remark loose.Remark = loose.Remark
loose_after_remark loose.Entry = loose.Entry

-- an entry without a number after one, and then an entry with a number, may stand in another order
abbrev pub loose_after : Loose → Option ℕ → Result Loose LineKind
loose_after loose.None number = Ok loose.None
loose_after loose.Remark None = Ok loose.Entry
loose_after loose.Remark (Some number) = Ok loose.Remark
loose_after loose.Entry None = Ok loose.Entry
loose_after loose.Entry (Some number) = Err kind.LooseEntry

-- the place of an entry by its number: after all that have lower ones
abbrev pub place_of : ℕ → List Placed → ℕ
place_of sequence entries =
    length (take_while (λ (it : Placed). nat_lt it.sequence sequence) entries)

-- the first of some entries has the number
abbrev pub has_number : ℕ → List Placed → Bool
has_number sequence [] = false
has_number sequence (it ∷ entries) = it.sequence == sequence

-- the list with an entry at a place, where no other has its number
abbrev pub with_place : ListSoFar → Loose → Placed → ℕ → Result ListSoFar LineKind
with_place list loose it place =
    if has_number it.sequence (drop place list.entries) then Err kind.SequenceTwice
    else Ok (record list {
      loose = loose;
      last = max list.last it.sequence;
      entries = insert list.entries place it;
    })

-- the list with one entry more, which stands in a line and may have a number
abbrev pub with_entry : ℕ → Option ℕ → ListSoFar → Entry → Result ListSoFar LineKind
with_entry line number list entry = loose_after list.loose number >>= λ known.
    (sequence_after list.last number >>= λ sequence.
    with_place list known (record { sequence = sequence; line = line; entry = entry })
    (place_of sequence list.entries))

-- what a word says that begins an entry
abbrev pub verdict_named : List ℕ → Option Verdict
verdict_named word =
    if bytes_eq word (codes "permit") then Some verdict.Permit
    else (if bytes_eq word (codes "deny") then Some verdict.Deny else None)

-- why an entry isn't read that neither permits nor denies
abbrev pub act_fault : List ℕ → LineKind
act_fault word = if is_known Compared word then kind.Compares else kind.UnknownWord

-- the list with what an entry says after its number and its first word
abbrev pub with_act : ℕ → Option ℕ → ListSoFar → List ℕ → List (List ℕ) → Option Verdict
    → Result ListSoFar LineKind
with_act line number list word words (Some said) =
    entry_of list.groups said words >>= with_entry line number list
with_act line number list word words None =
    if bytes_eq word (codes "remark")
    then Ok (record list { loose = loose_after_remark list.loose }) else Err (act_fault word)

-- the list with a line of it
abbrev pub with_words : ℕ → ListSoFar → List (List ℕ) → Result ListSoFar LineKind
with_words line list words = required (after_number words) >>- λ word rest.
    with_act line (first_number words) list word rest (verdict_named word)

-- ---- commands

-- the list, and the next line stands elsewhere
abbrev pub at : Stage → ListSoFar → ListSoFar
at where_ list = record list { stage = where_ }

-- a command `access-list` with a number: an entry of its list, which may be asked for
abbrev pub numbered_entry : List ℕ → ℕ → ListSoFar → List ℕ → List (List ℕ)
    → Result ListSoFar LineKind
numbered_entry asked line list name words =
    if not (begins_known NumberedEntry words) then Err kind.BadList
    else (if not (bytes_eq name asked) then Ok (at stage.Entered list)
    else (if not (is_extended name) then Err kind.NotExtended
    else with_words line (record list { stage = stage.Entered; begun = true }) words))

-- a command `access-list`: lists of other protocols, and words that set something, have no part
abbrev pub numbered : List ℕ → ℕ → ListSoFar → List (List ℕ) → Result ListSoFar LineKind
numbered asked line list [] = Err kind.BadList
numbered asked line list (name ∷ words) =
    if is_extended name || is_standard name then numbered_entry asked line list name words
    else (if is_unread name then Ok (at stage.Entered list) else Err kind.BadList)

-- a command of lists with names, which may begin the one that is asked for
abbrev pub named : List ℕ → ListSoFar → List (List ℕ) → Result ListSoFar LineKind
named asked list words = named_stage asked words >>= λ where_.
    Ok (record list { stage = where_; begun = list.begun || is_asked where_ })

-- ---- lines

-- an entry, by where it stands
abbrev pub with_stray : ℕ → ListSoFar → List (List ℕ) → Stage → Result ListSoFar LineKind
with_stray line list words stage.Outside = Err kind.StrayEntry
with_stray line list words stage.Entered = Err kind.StrayEntry
with_stray line list words stage.Asked = with_words line list words
with_stray line list words stage.Other = Ok list
with_stray line list words stage.Unread = Ok list

-- the list with a line, by what that is
abbrev pub with_head : List ℕ → TextLine → ListSoFar → Head → Result ListSoFar LineKind
with_head asked line list head.Skipped = Ok (at (after_comment list.stage) list)
with_head asked line list head.Numbered =
    numbered asked line.number list (rest_of (words_in line))
with_head asked line list head.Named = named asked list (words_in line)
with_head asked line list head.Group = Ok (at stage.Unread list)
with_head asked line list head.TakenOut = Err kind.TakenOut
with_head asked line list head.Entry = with_stray line.number list (words_in line) list.stage
with_head asked line list head.Part = Ok (at stage.Outside list)
with_head asked line list head.Inside = unless (list_fault list.stage) (Ok list)
with_head asked line list head.Unknown = unless (list_fault list.stage) (Err kind.UnknownLine)

-- the list with a line
abbrev pub with_line : List ℕ → ListSoFar → TextLine → Result ListSoFar LineFault
with_line asked list line = in_line line.number (with_head asked line list (head_of line.text))

-- the entries, where the list was begun and has some
abbrev pub ended : ℕ → ListSoFar → Result (List Placed) LineFault
ended number list =
    if not list.begun then Err (record { line = number; kind = kind.NoList })
    else (if length list.entries == 0 then Err (record { line = number; kind = kind.NoEntries })
    else Ok list.entries)

-- the entries of the list of a name in the lines of a file with these groups, or the first fault
abbrev pub entries_of : List ListedGroup → List ℕ → LinesSoFar → Result (List Placed) LineFault
entries_of groups asked lines =
    all_after (with_line asked) (no_list groups) lines.outside >>= ended lines.count

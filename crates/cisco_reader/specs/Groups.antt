-- Groups of a configuration (Cisco IOS Security Command Reference, "object-group network" and
-- "object-group service"; "Object Groups for ACLs"): each has a kind, a name, and lines of members.
-- They are gathered before the lists are read, so that a group may stand after a list or a group
-- that names it. A group that is begun again goes on.
use Rattle.std.specs.Prelude.{ℕ, Bool, nat_lt, if◌then◌else◌, codes, List, [], ◌∷◌, ◌++◌, length, slice_set}
use Rattle.std.specs.Prelude.{slice_index_or, Option, Some, None, Result, Ok, Err}
use Rattle.std.specs.List.{position}
use Rattle.std.specs.Str.{bytes_eq}
use Rattle.cisco_reader.specs.declared.heads.Head.{Head}
use Rattle.cisco_reader.specs.declared.heads.Head.TheVariants as head
use Rattle.cisco_reader.specs.declared.fault.LineFault.{LineFault}
use Rattle.cisco_reader.specs.declared.fault.LineKind.{LineKind}
use Rattle.cisco_reader.specs.declared.fault.LineKind.TheVariants.{BadGroup, KindTwice, NoGroup, OtherKind, TakenOut}
use Rattle.cisco_reader.specs.declared.names.Known.TheVariants.{GroupKind}
use Rattle.cisco_reader.specs.Heads.{head_of}
use Rattle.cisco_reader.specs.Lines.{TextLine, words_in}
use Rattle.cisco_reader.specs.Read.{◌>>=◌, all_after, in_line, rest_of}
use Rattle.cisco_reader.specs.Names.{is_known}

-- a group: its kind, its name, and its lines
pub record ListedGroup : Type 0 where
  pub kind : List ℕ
  pub name : List ℕ
  pub lines : List TextLine

-- the groups so far, and the place of the one in which the next line may stand
pub record GroupsSoFar : Type 0 where
  pub groups : List ListedGroup
  pub inside : Option ℕ

-- nothing was read
abbrev pub no_groups : GroupsSoFar
no_groups = record { groups = []; inside = None }

-- what is at no place
abbrev pub no_group : ListedGroup
no_group = record { kind = []; name = []; lines = [] }

-- ---- by their names

-- the place of the group of a name
abbrev pub group_place : List ℕ → List ListedGroup → Option ℕ
group_place name groups = position (λ (group : ListedGroup). bytes_eq group.name name) groups

-- the group of a place is of a kind
abbrev pub has_kind : List ℕ → List ListedGroup → ℕ → Bool
has_kind kind groups place = bytes_eq (slice_index_or groups place no_group).kind kind

-- a group that was found has to be of a kind
abbrev pub fitting : List ListedGroup → List ℕ → Option ℕ → Result ℕ LineKind
fitting groups kind None = Err NoGroup
fitting groups kind (Some place) = if has_kind kind groups place then Ok place else Err OtherKind

-- the place of the group of a kind and a name
abbrev pub place_for : List ListedGroup → List ℕ → List ℕ → Result ℕ LineKind
place_for groups kind name = fitting groups kind (group_place name groups)

-- ---- lines

-- a group that was begun goes on with the same kind; a new one has no lines
abbrev pub begun : GroupsSoFar → List ℕ → List ℕ → Option ℕ → Result GroupsSoFar LineKind
begun so_far kind name None = Ok (record {
  groups = so_far.groups ++ record { kind = kind; name = name; lines = [] } ∷ [];
  inside = Some (length so_far.groups);
})
begun so_far kind name (Some place) =
    if has_kind kind so_far.groups place then Ok (record so_far { inside = Some place })
    else Err KindTwice

-- what stands after `object-group`: a kind, of which no entry may name the last three, and a name
abbrev pub with_group : GroupsSoFar → List (List ℕ) → Result GroupsSoFar LineKind
with_group so_far [] = Err BadGroup
with_group so_far (kind ∷ []) = Err BadGroup
with_group so_far (kind ∷ name ∷ []) =
    if is_known GroupKind kind then begun so_far kind name (group_place name so_far.groups)
    else Err BadGroup
with_group so_far (kind ∷ name ∷ word ∷ words) = Err BadGroup

-- a group with a line more
abbrev pub longer : ListedGroup → TextLine → ListedGroup
longer group line = record group { lines = group.lines ++ line ∷ [] }

-- the groups with a line more in that of a place
abbrev pub with_line_at : List ListedGroup → TextLine → ℕ → List ListedGroup
with_line_at groups line place =
    if nat_lt place (length groups)
    then slice_set groups place (longer (slice_index_or groups place no_group) line) else groups

-- and the same of the groups so far
abbrev pub with_put : GroupsSoFar → TextLine → ℕ → GroupsSoFar
with_put so_far line place = record so_far { groups = with_line_at so_far.groups line place }

-- a line that begins nothing, by where it stands: a description of a group says nothing, and `no`
-- takes a member out
abbrev pub with_inner : TextLine → GroupsSoFar → List (List ℕ) → Option ℕ
    → Result GroupsSoFar LineKind
with_inner line so_far words None = Ok so_far
with_inner line so_far [] (Some place) = Ok so_far
with_inner line so_far (word ∷ words) (Some place) =
    if bytes_eq word (codes "no") then Err TakenOut
    else (if bytes_eq word (codes "description") then Ok so_far
    else Ok (with_put so_far line place))

-- the groups with a line, by what that is; one that isn't known is refused when lists are read
abbrev pub with_group_head : TextLine → GroupsSoFar → Head → Result GroupsSoFar LineKind
with_group_head line so_far head.Group = with_group so_far (rest_of (words_in line))
with_group_head line so_far head.Entry = with_inner line so_far (words_in line) so_far.inside
with_group_head line so_far head.Inside = with_inner line so_far (words_in line) so_far.inside
with_group_head line so_far head.Skipped = Ok so_far
with_group_head line so_far head.Unknown = Ok so_far
with_group_head line so_far head.Numbered = Ok (record so_far { inside = None })
with_group_head line so_far head.Named = Ok (record so_far { inside = None })
with_group_head line so_far head.TakenOut = Ok (record so_far { inside = None })
with_group_head line so_far head.Part = Ok (record so_far { inside = None })

-- the groups with a line
abbrev pub with_group_line : GroupsSoFar → TextLine → Result GroupsSoFar LineFault
with_group_line so_far line =
    in_line line.number (with_group_head line so_far (head_of line.text))

-- the groups of a file's lines, or the first fault
abbrev pub groups_of : List TextLine → Result (List ListedGroup) LineFault
groups_of lines = all_after with_group_line no_groups lines >>= λ so_far. Ok so_far.groups

-- Named sets and maps of a ruleset (libnftables-json(5), "SET" and "MAP"). What they have is taken
-- as it is listed, if neither time nor packets change it. Packets change a set where a rule of its
-- table adds elements to it: the list doesn't show a flag for this.
use Rattle.std.specs.Prelude.{ℕ, ◌+◌, ◌==◌, Bool, true, false, ◌&&◌, ◌||◌, not, is_some}
use Rattle.std.specs.Prelude.{if◌then◌else◌, codes, List, [], ◌∷◌, take, drop}
use Rattle.std.specs.Prelude.{Option, Some, None, option_and_then, Result, Err}
use Rattle.std.specs.List.{flat_map, list_all, list_any}
use Rattle.std.specs.Option.{option_map, option_to_list}
use Rattle.std.specs.Str.{bytes_eq}
use Rattle.json.specs.Json.{Json}
use Rattle.json.specs.Find.{as_str, get}
use Rattle.nft_reader.specs.declared.fault.RuleKind.{RuleKind}
use Rattle.nft_reader.specs.declared.fault.RuleKind.TheVariants as kind
use Rattle.nft_reader.specs.declared.sets.NamedSet.{NamedSet}
use Rattle.nft_reader.specs.Chains.{Names, is_same}
use Rattle.nft_reader.specs.Shapes.{elements_seen, is_one_of, items_in, items_of, len_of, listed_values, only, present}
use Rattle.nft_reader.specs.Shapes.{said_by, text_in}
use Rattle.nft_reader.specs.Stops.{or_cause}

-- ---- sets that change

-- the name after @
abbrev pub at_name : List ℕ → Option (List ℕ)
at_name text = if bytes_eq (take 1 text) (codes "@") then Some (drop 1 text) else None

-- the set that a statement adds elements to, or takes some from
abbrev pub changed_by : Json → Option (List ℕ)
changed_by statement =
    option_and_then at_name
    (option_and_then (text_in (codes "set")) (said_by (codes "set") statement))

-- a name is this one, if there is one
abbrev pub is_text : List ℕ → Option (List ℕ) → Bool
is_text name None = false
is_text name (Some other) = bytes_eq other name

-- the set that a statement of a rule of a table changes, if it does
abbrev pub change_of : List ℕ → List ℕ → Json → List Names
change_of family table statement =
    option_to_list (option_map (λ name. record { family = family; table = table; name = name })
    (changed_by statement))

-- those that the statements of a rule do, if it has a family, a table and statements
abbrev pub changes_said : Option (List ℕ) → Option (List ℕ) → Option (List Json) → List Names
changes_said None table statements = []
changes_said (Some family) None statements = []
changes_said (Some family) (Some table) None = []
changes_said (Some family) (Some table) (Some statements) =
    flat_map (change_of family table) statements

-- those that a rule does, if there is one
abbrev pub rule_changes : Option Json → List Names
rule_changes None = []
rule_changes (Some said) =
    changes_said (text_in (codes "family") said) (text_in (codes "table") said)
    (items_in (codes "expr") said)

-- those that an object does, if it is a rule
abbrev pub changes_in : Json → List Names
changes_in value = rule_changes (said_by (codes "rule") value)

-- the sets that the rules of a ruleset change
abbrev pub changes_of : List Json → List Names
changes_of objects = flat_map changes_in objects

-- packets change a set: a rule of its table does, which is one of those that change some
abbrev pub is_changed : List Names → Names → Bool
is_changed changes owner = list_any (λ change. is_same change owner) changes

-- ---- what a set says

-- a flag is one by which the elements of a set stay, if it is a text
abbrev pub is_kept_flag : Option (List ℕ) → Bool
is_kept_flag None = false
is_kept_flag (Some flag) = is_one_of (codes "interval" ∷ codes "constant" ∷ []) flag

-- the flags of a set, if it has some, are such: a list, or one alone
abbrev pub are_kept_flags : Option Json → Bool
are_kept_flags None = true
are_kept_flags (Some value) = list_all (λ flag. is_kept_flag (as_str flag)) (listed_values value)

-- elements end by time, or are of a set that packets may change
abbrev pub is_timed : Json → Bool
is_timed said =
    is_some (get (codes "timeout") said) || is_some (get (codes "gc-interval") said)
    || not (are_kept_flags (get (codes "flags") said))

-- how many members say nothing of packets, or are read
abbrev pub known_members : Json → ℕ
known_members said =
    present (codes "type") said + present (codes "handle") said + present (codes "flags") said
    + present (codes "elem") said + present (codes "map") said + present (codes "size") said
    + present (codes "policy") said + present (codes "auto-merge") said
    + present (codes "comment") said + present (codes "stmt") said

-- a statement that each element of a set has is a counter, which says nothing of packets
abbrev pub is_counter : Json → Bool
is_counter statement = is_some (said_by (codes "counter") statement)

-- all of some statements are, if there are some
abbrev pub are_counters : Option (List Json) → Bool
are_counters None = false
are_counters (Some statements) = list_all is_counter statements

-- those of a set, if it has some, are such
abbrev pub are_quiet : Option Json → Bool
are_quiet None = true
are_quiet (Some value) = are_counters (items_of value)

-- it has these members, and its family, its table and its name
abbrev pub has_set_members : Json → Bool
has_set_members said =
    len_of said == 3 + known_members said && are_quiet (get (codes "stmt") said)

-- the elements of a member that lists them; without it there are none
abbrev pub elements_if : Option Json → Option (List Json)
elements_if None = Some []
elements_if (Some value) = items_of value

-- the elements that are listed; an empty set lists none
abbrev pub listed_elements : Json → Option (List Json)
listed_elements said = elements_if (get (codes "elem") said)

-- the elements of a set, of which packets change some, or why they aren't known
abbrev pub set_elements : List Names → Names → Json → Result (List Json) RuleKind
set_elements changes owner said =
    if is_timed said || is_changed changes owner then Err kind.ChangingSet
    else (if has_set_members said then or_cause kind.OtherSet (listed_elements said)
    else Err kind.OtherSet)

-- ---- the sets of a ruleset

-- a set or a map: its name, whether its elements have verdicts, and these elements, or why they
-- aren't known
pub record ListedSet : Type 0 where
  pub owner : Names
  pub verdicts : Bool
  pub elements : Result (List Json) RuleKind

-- the same of a set that is kept
abbrev pub set_of : NamedSet → ListedSet
set_of set = record {
  owner = set.owner;
  verdicts = set.verdicts;
  elements = elements_seen set.elements;
}

-- maps to verdicts have some; others aren't known
abbrev pub map_verdicts : Option (List ℕ) → Option Bool
map_verdicts None = None
map_verdicts (Some type) = if bytes_eq type (codes "verdict") then Some true else None

-- whether the elements of an object of a name have verdicts
abbrev pub verdicts_in : List ℕ → Json → Option Bool
verdicts_in name said =
    if bytes_eq name (codes "set") then Some false
    else (if bytes_eq name (codes "map") then map_verdicts (text_in (codes "map") said) else None)

-- the family, the table, and the name under a key
abbrev pub owner_in : List ℕ → Json → Option Names
owner_in key said =
    option_and_then (λ family. option_and_then (λ table.
    option_map (λ name. record { family = family; table = table; name = name })
    (text_in key said))
    (text_in (codes "table") said))
    (text_in (codes "family") said)

-- such a set, if it has names
abbrev pub set_said : List Names → Json → Bool → Option ListedSet
set_said changes said has =
    option_map (λ owner. record {
      owner = owner;
      verdicts = has;
      elements = set_elements changes owner said;
    }) (owner_in (codes "name") said)

-- a set by the only member of an object, if it has one
abbrev pub set_named : List Names → Option (List ℕ × Json) → Option ListedSet
set_named changes None = None
set_named changes (Some found) =
    option_and_then (set_said changes found.1) (verdicts_in found.0 found.1)

-- the set of an object that has one
abbrev pub set_object : List Names → Json → Option ListedSet
set_object changes value = set_named changes (only value)

-- the sets of objects, of which packets change some
abbrev pub sets_in : List Names → List Json → List ListedSet
sets_in changes values = flat_map (λ value. option_to_list (set_object changes value)) values

-- the sets of a ruleset
abbrev pub sets_of : List Json → List ListedSet
sets_of objects = sets_in (changes_of objects) objects

-- ---- sets by their names

-- a set has a name, and verdicts where they are asked for
abbrev pub is_wanted : Bool → Names → ListedSet → Bool
is_wanted verdicts owner set =
    (if verdicts then set.verdicts else not set.verdicts) && is_same set.owner owner

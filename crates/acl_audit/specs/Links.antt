-- How each merged state and each row is reached first: by which state of the kept place before it,
-- and by which byte there.
use Rattle.std.specs.Prelude.{ℕ, ◌+◌, ◌%◌, ◌==◌, List, [], ◌∷◌, ◌++◌, length, Bool, false}
use Rattle.std.specs.Prelude.{if◌then◌else◌}
use Rattle.group_states.specs.declared.run.Run.{Run}
use Rattle.group_states.specs.declared.run.Succ.{Succ}
use Rattle.group_states.specs.declared.run.Succ.TheVariants.{Dead, State, Row}
use Rattle.acl_audit.specs.declared.links.Link.{Link}

-- the number that comes next is that of the state or row
abbrev pub is_next : ℕ → Succ → Bool
is_next count Dead = false
is_next count (State number) = number == count
is_next count (Row number) = number == count

-- the links with one more, where what it leads to has none yet
abbrev pub linked_with : List Link → Link → Succ → List Link
linked_with links link to = if is_next (length links) to then links ++ link ∷ [] else links

-- the links after the runs of a state, the first of which begins with the byte
abbrev pub runs_linked : List Link → ℕ → ℕ → List Run → List Link
runs_linked links before byte [] = links
runs_linked links before byte (run ∷ runs) =
    runs_linked (linked_with links (record { before = before; byte = byte }) run.to) before
    ((run.last + 1) % 256) runs

-- the links after the runs of states, which are numbered on from a number
abbrev pub states_linked : List Link → ℕ → List (List Run) → List Link
states_linked links before [] = links
states_linked links before (runs ∷ states) =
    states_linked (runs_linked links before 0 runs) (before + 1) states

-- the links of all that the states of a kept place lead to
unfoldable pub links_of : List (List Run) → List Link
links_of states = states_linked [] 0 states

-- a link to nothing
abbrev pub no_link : Link
no_link = record { before = 0; byte = 0 }

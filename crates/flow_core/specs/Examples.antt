-- Examples of flow machines, each checked by evaluation.
use Rattle.std.specs.Prelude.{◌≡◌, ℕ, ◌++◌, List, [], ◌∷◌, map, refl, Bool, true, false, Option, Some, None}
use Rattle.std.specs.Prelude.{slice_index, slice_index_or, ◌%◌}
use Rattle.flat_table.specs.HandmadeTables.{single_at, empty_table, wild_table, two_tries}
use Rattle.flat_table.specs.Walk.{userdatas}
use Rattle.flow_core.specs.declared.flight.Flight.{Flight}
use Rattle.flow_core.specs.Rows.{zero_row, joined_row}
use Rattle.flow_core.specs.Jobs.{jobs_of}
use Rattle.flow_core.specs.Machine.{flow_from_first, is_done, turns, most_steps}

-- two keys: protocol, source, destination, source port, destination port
abbrev from_10 : List ℕ
from_10 = 6 ∷ 10 ∷ 0 ∷ 0 ∷ 1 ∷ 5 ∷ 6 ∷ 7 ∷ 8 ∷ 0 ∷ 9 ∷ 0 ∷ 10 ∷ []

abbrev from_11 : List ℕ
from_11 = 17 ∷ 11 ∷ 0 ∷ 0 ∷ 1 ∷ 5 ∷ 6 ∷ 7 ∷ 8 ∷ 0 ∷ 9 ∷ 3 ∷ 255 ∷ []

-- the machine of the wild rule and one key, with four slots: is it done after these slots?
abbrev wild_done : List ℕ → Bool
wild_done slots = is_done (flow_from_first wild_table from_10 4 slots).machine

-- the verdict in category 0 then
abbrev wild_verdict : List ℕ → ℕ
wild_verdict slots = slice_index
    (slice_index_or (flow_from_first wild_table from_10 4 slots).rows 0 []) 0 % userdatas

-- a slot takes the job at its first step, and a word at its second
wild_runs : map wild_done ([] ∷ (0 ∷ []) ∷ (0 ∷ 0 ∷ []) ∷ (1 ∷ 0 ∷ []) ∷ (1 ∷ 0 ∷ 1 ∷ []) ∷ [])
    ≡ false ∷ false ∷ true ∷ false ∷ true ∷ []
unfolding zero_row joined_row
wild_runs = refl

wild_verdicts : map wild_verdict ((0 ∷ []) ∷ (0 ∷ 0 ∷ []) ∷ (1 ∷ 0 ∷ 1 ∷ []) ∷ []) ≡ 0 ∷ 1 ∷ 1 ∷ []
unfolding zero_row joined_row
wild_verdicts = refl

-- a slot that holds the flight of a key at a depth and a word
abbrev held : ℕ → ℕ → ℕ → ℕ → Option Flight
held key trie depth word =
    Some record { key = key; trie = trie; depth = depth; word = word }

-- what the slots hold of a machine of two keys and two tries, with two slots
abbrev both : List ℕ
both = from_10 ++ from_11

abbrev slots_after : List ℕ → List (Option Flight)
slots_after slots = (flow_from_first two_tries both 2 slots).machine.slots

-- jobs are given out by key and then by trie
jobs_in_order : map (λ job. (job.key ∷ job.trie ∷ [])) (jobs_of two_tries both)
    ≡ (0 ∷ 0 ∷ []) ∷ (0 ∷ 1 ∷ []) ∷ (1 ∷ 0 ∷ []) ∷ (1 ∷ 1 ∷ []) ∷ []
jobs_in_order = refl

-- slot 1 takes the first job, slot 0 the second and walks on; slot 1 ends the first, and takes the
-- third
slots_at_once : map slots_after
    ((1 ∷ 0 ∷ []) ∷ (1 ∷ 0 ∷ 0 ∷ []) ∷ (1 ∷ 0 ∷ 0 ∷ 1 ∷ []) ∷ (1 ∷ 0 ∷ 0 ∷ 1 ∷ 1 ∷ []) ∷ [])
    ≡ (held 0 1 0 0xFFFF0A09_60000001 ∷ held 0 0 0 (single_at 0) ∷ [])
    ∷ (held 0 1 1 (single_at 6) ∷ held 0 0 0 (single_at 0) ∷ [])
    ∷ (held 0 1 1 (single_at 6) ∷ None ∷ [])
    ∷ (held 0 1 1 (single_at 6) ∷ held 1 0 0 (single_at 0) ∷ []) ∷ []
unfolding zero_row joined_row
slots_at_once = refl

-- the words of category 0 that the two keys have in the end, whichever slot went first
abbrev words_after : List ℕ → List ℕ
words_after slots = map (λ row. slice_index row 0) (flow_from_first two_tries both 2 slots).rows

two_keys_joined : map words_after (turns 2 7 ∷ turns 2 3 ∷ turns 2 6 ∷ [])
    ≡ (0x200000000 ∷ 0x100000005 ∷ []) ∷ (0x100000005 ∷ 0 ∷ []) ∷ (0x200000000 ∷ 0x100000005 ∷ [])
    ∷ []
unfolding zero_row joined_row
two_keys_joined = refl

two_keys_done : map (λ n. is_done (flow_from_first two_tries both 2 (turns 2 n)).machine)
    (0 ∷ 5 ∷ 6 ∷ 7 ∷ []) ≡ false ∷ false ∷ true ∷ true ∷ []
unfolding zero_row joined_row
two_keys_done = refl

-- where there are no jobs the machine is done at once
nothing_to_do : is_done (flow_from_first empty_table both 4 []).machine ≡ true
nothing_to_do = refl

-- steps that are enough, for one job and for four
enough : (most_steps wild_table from_10 ∷ most_steps two_tries both ∷ []) ≡ 14 ∷ 56 ∷ []
enough = refl

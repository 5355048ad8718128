-- Examples of walks and verdicts, each checked by evaluation.
use Rattle.std.specs.Prelude.{◌≡◌, ℕ, List, [], ◌∷◌, map, refl}
use Rattle.flat_table.specs.Walk.{walk, walk_row, walk_transitions, joined, table_verdict, key_transitions}
use Rattle.flat_table.specs.HandmadeTables.{match_of, single_at, empty_table, wild_table}
use Rattle.flat_table.specs.HandmadeTables.{source_table, port_table, bit_table, two_tries}

-- keys: protocol, source, destination, source port, destination port
abbrev from_10 : List ℕ
from_10 = 6 ∷ 10 ∷ 0 ∷ 0 ∷ 1 ∷ 5 ∷ 6 ∷ 7 ∷ 8 ∷ 0 ∷ 9 ∷ 0 ∷ 10 ∷ []

abbrev from_11 : List ℕ
from_11 = 17 ∷ 11 ∷ 0 ∷ 0 ∷ 1 ∷ 5 ∷ 6 ∷ 7 ∷ 8 ∷ 0 ∷ 9 ∷ 3 ∷ 255 ∷ []

abbrev to_1024 : List ℕ
to_1024 = 17 ∷ 9 ∷ 0 ∷ 0 ∷ 1 ∷ 5 ∷ 6 ∷ 7 ∷ 8 ∷ 0 ∷ 9 ∷ 4 ∷ 0 ∷ []

abbrev to_65535 : List ℕ
to_65535 = 17 ∷ 9 ∷ 0 ∷ 0 ∷ 1 ∷ 5 ∷ 6 ∷ 7 ∷ 8 ∷ 0 ∷ 9 ∷ 255 ∷ 255 ∷ []

-- a rule that every key matches: one transition
wild_walk : walk wild_table 0 from_10 ≡ match_of 1 ∷ []
wild_walk = refl

wild_verdicts : map (table_verdict wild_table from_10) (0 ∷ 15 ∷ []) ≡ 1 ∷ 1 ∷ []
wild_verdicts = refl

-- a rule on the source address: four transitions where it matches, one where the first byte decides
source_walk : walk source_table 0 from_10 ≡ single_at 5 ∷ single_at 6 ∷ single_at 7 ∷ match_of 1 ∷
    []
source_walk = refl

source_misses : map (walk source_table 0) (from_11 ∷ to_1024 ∷ [])
    ≡ (match_of 0 ∷ []) ∷ (match_of 0 ∷ []) ∷ []
source_misses = refl

source_rows : map (walk_row source_table 0) (from_10 ∷ from_11 ∷ to_1024 ∷ []) ≡ 1 ∷ 0 ∷ 0 ∷ []
source_rows = refl

-- a rule on the destination ports reads the last four bytes alone: 1023, 1024 and 65535
port_transitions : map (walk_transitions port_table 0) (from_11 ∷ to_1024 ∷ to_65535 ∷ [])
    ≡ 3 ∷ 4 ∷ 4 ∷ []
port_transitions = refl

port_verdicts : map (λ key. table_verdict port_table key 0) (from_11 ∷ to_1024 ∷ to_65535 ∷ [])
    ≡ 0 ∷ 1 ∷ 1 ∷ []
port_verdicts = refl

-- a rule on a bit of the protocol: 6 has it not, 17 has it
bit_verdicts : map (λ key. table_verdict bit_table key 3) (from_10 ∷ from_11 ∷ []) ≡ 0 ∷ 1 ∷ []
bit_verdicts = refl

bit_transitions : map (key_transitions bit_table) (from_10 ∷ from_11 ∷ []) ≡ 1 ∷ 1 ∷ []
bit_transitions = refl

-- no tries: no word, verdict 0, no transitions
empty_verdict : (joined empty_table from_10 0 ∷ table_verdict empty_table from_10 0
    ∷ key_transitions empty_table from_10 ∷ []) ≡ 0 ∷ 0 ∷ 0 ∷ []
empty_verdict = refl

-- of two tries the greater word decides, by its rank: a rule of userdata 0 hides one of userdata 5
joined_tries : map (λ key. joined two_tries key 0) (from_10 ∷ from_11 ∷ [])
    ≡ 0x200000000 ∷ 0x100000005 ∷ []
joined_tries = refl

verdicts_of_two_tries : map (λ key. table_verdict two_tries key 0) (from_10 ∷ from_11 ∷ [])
    ≡ 0 ∷ 5 ∷ []
verdicts_of_two_tries = refl

steps_of_two_tries : map (key_transitions two_tries) (from_10 ∷ from_11 ∷ []) ≡ 5 ∷ 2 ∷ []
steps_of_two_tries = refl

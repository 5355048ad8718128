-- Examples of the verdicts of keys and of batches, each checked by evaluation.
use Rattle.std.specs.Prelude.{◌≡◌, ℕ, List, [], ◌∷◌, ◌++◌, replicate, map, refl}
use Rattle.flat_table.specs.Table.{TableView}
use Rattle.flat_table.specs.HandmadeTables.{row_of, empty_table, source_table, two_tries}
use Rattle.flat_table.specs.Batch.{keys_in, key_at, key_verdicts, first_verdicts, batch_verdicts}
use Rattle.flat_table.specs.Batch.{first_transitions, batch_transitions, most_of_batch}

-- keys of 13 bytes: from 10.0.0.1 and from 11.0.0.1
abbrev from_10 : List ℕ
from_10 = 6 ∷ 10 ∷ 0 ∷ 0 ∷ 1 ∷ 5 ∷ 6 ∷ 7 ∷ 8 ∷ 0 ∷ 9 ∷ 0 ∷ 10 ∷ []

abbrev from_11 : List ℕ
from_11 = 17 ∷ 11 ∷ 0 ∷ 0 ∷ 1 ∷ 5 ∷ 6 ∷ 7 ∷ 8 ∷ 0 ∷ 9 ∷ 3 ∷ 255 ∷ []

-- both, and the first once more
abbrev three_keys : List ℕ
three_keys = from_10 ++ from_11 ++ from_10

-- of a rule on the source address 10.0.0.0/8 that says 7 in category 0, nothing in 1, and 0 in 2
abbrev apart_table : TableView
apart_table = record source_table {
  rows = row_of 0 ∷ (0x100000007 ∷ 0 ∷ 0x100000000 ∷ replicate 13 0) ∷ [];
}

keys_of_three : map (key_at apart_table three_keys) (0 ∷ 1 ∷ 2 ∷ [])
    ≡ from_10 ∷ from_11 ∷ from_10 ∷ []
keys_of_three = refl

how_many : (keys_in apart_table [] ∷ keys_in apart_table from_10
    ∷ keys_in apart_table three_keys ∷ []) ≡ 0 ∷ 1 ∷ 3 ∷ []
how_many = refl

-- a verdict of 0 is that of a rule in category 2, and that of none in category 1
verdicts_of_a_key : (key_verdicts apart_table 3 from_10 ∷ key_verdicts apart_table 3 from_11
    ∷ key_verdicts apart_table 1 from_10 ∷ key_verdicts empty_table 2 from_10 ∷ [])
    ≡ (7 ∷ 0 ∷ 0 ∷ []) ∷ (0 ∷ 0 ∷ 0 ∷ []) ∷ (7 ∷ []) ∷ (0 ∷ 0 ∷ []) ∷ []
verdicts_of_a_key = refl

-- of two tries the greater word decides, and its low half is the verdict
verdicts_of_tries : (key_verdicts two_tries 2 from_10 ∷ key_verdicts two_tries 2 from_11 ∷ [])
    ≡ (0 ∷ 0 ∷ []) ∷ (5 ∷ 5 ∷ []) ∷ []
verdicts_of_tries = refl

-- the verdicts of a key stand together, in the order of the keys
verdicts_of_first : map (first_verdicts apart_table 2 three_keys) (0 ∷ 1 ∷ 2 ∷ 3 ∷ [])
    ≡ [] ∷ (7 ∷ 0 ∷ []) ∷ (7 ∷ 0 ∷ 0 ∷ 0 ∷ []) ∷ (7 ∷ 0 ∷ 0 ∷ 0 ∷ 7 ∷ 0 ∷ []) ∷ []
verdicts_of_first = refl

verdicts_of_batch : (batch_verdicts apart_table 1 three_keys ∷ batch_verdicts apart_table 1 [] ∷ [])
    ≡ (7 ∷ 0 ∷ 7 ∷ []) ∷ [] ∷ []
verdicts_of_batch = refl

-- four transitions where the rule matches, and one where the first byte of the address decides
transitions_of_first : map (first_transitions apart_table three_keys) (0 ∷ 1 ∷ 2 ∷ 3 ∷ [])
    ≡ 0 ∷ 4 ∷ 5 ∷ 9 ∷ []
transitions_of_first = refl

transitions_of_batch : (batch_transitions apart_table three_keys
    ∷ most_of_batch apart_table three_keys ∷ batch_transitions two_tries three_keys ∷ [])
    ≡ 9 ∷ 39 ∷ 12 ∷ []
transitions_of_batch = refl

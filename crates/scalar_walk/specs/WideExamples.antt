-- Examples of lanes, each checked by evaluation.
use Rattle.std.specs.Prelude.{◌≡◌, [], ◌∷◌, map, refl}
use Rattle.std.proofs.Common.{lit<}
use Rattle.scalar_walk.specs.declared.wide.Lanes.{Lanes}
use Rattle.scalar_walk.specs.Lanes.{sum_below}
use Rattle.scalar_walk.specs.Wide.{IsNamed, going, in_four, together, word_of}

-- a walk on its way, one that ended at row 7, and one on its way, of keys 2, 0 and 1
abbrev three_lanes : Lanes
three_lanes = record {
  lows = 5 ∷ 0x80000007 ∷ 9 ∷ [];
  highs = 0 ∷ 0 ∷ 1 ∷ [];
  keys = 2 ∷ 0 ∷ 1 ∷ [];
}

words_of_lanes : map (word_of three_lanes) (0 ∷ 1 ∷ 2 ∷ []) ≡ 5 ∷ 0x80000007 ∷ 0x100000009 ∷ []
words_of_lanes = refl

-- how many of the first one, two and three are on their way
going_lanes : map (going three_lanes) (1 ∷ 2 ∷ 3 ∷ []) ≡ 1 ∷ 1 ∷ 2 ∷ []
unfolding sum_below
going_lanes = refl

-- the second names row 7 for key 0
named_row : IsNamed three_lanes 3 0 7
named_row = record { lane = 1; there = lit< tt; walks = refl; names = refl }

four_numbers : together (1 ∷ 2 ∷ 3 ∷ 4 ∷ []) ≡ 10
unfolding sum_below
four_numbers = refl

number_in_a_four : in_four ((1 ∷ 2 ∷ 3 ∷ 4 ∷ []) ∷ (5 ∷ 6 ∷ 7 ∷ 8 ∷ []) ∷ []) 1 2 ≡ 7
number_in_a_four = refl

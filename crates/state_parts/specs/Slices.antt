-- A list that is kept as the ends of its pieces.
use Rattle.std.specs.Prelude.{◌≡◌, ℕ, ◌≤◌, List, [], ◌∷◌, slice_range}

-- the pieces: the first begins at a place, each further one where the one before ends
abbrev pub pieces_of : {X : Type 0} → List X → ℕ → List ℕ → List (List X)
pieces_of xs start [] = []
pieces_of xs start (end ∷ ends) = slice_range xs start end ∷ pieces_of xs end ends

-- The ends rise from the start to the length.
abbrev pub IsPieces : ℕ → List ℕ → ℕ → Type 0
IsPieces start [] len = start ≡ len
IsPieces start (end ∷ ends) len = (start ≤ end) × (end ≤ len) × IsPieces end ends len

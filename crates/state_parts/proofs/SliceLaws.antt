-- One more piece, and a piece by its number.
use Rattle.std.proofs.Common.{◌≡◌, ℕ, zero, suc, ◌+◌, ◌-◌, ◌<◌, ◌≤◌, List, [], ◌∷◌, ◌++◌, length, take, drop, get_or}
use Rattle.std.proofs.Common.{refl, sym, ◌∙◌, ap, arith, length-append}
use Rattle.std.specs.Prelude.{slice_range}
use Rattle.std.proofs.lemmas.List.{drop-append-le, take-append-le, drop_at, take_all, length-drop}
use Rattle.state_parts.specs.Slices.{pieces_of, IsPieces}

module _ {X : Type 0} (xs more : List X) where
  -- a piece within the list stays when more comes after
  piece_stays : (start end : ℕ) → start ≤ end → end ≤ length xs
      → slice_range (xs ++ more) start end ≡ slice_range xs start end
  piece_stays start end rises within =
      ap (take (end - start)) (drop-append-le start xs more (omega arith))
      ∙ take-append-le (end - start) (drop start xs) more (omega (arith, length-drop start xs))

  -- what comes after is the last piece
  last_piece : slice_range (xs ++ more) (length xs) (length xs + length more) ≡ more
  last_piece = ap (take (length xs + length more - length xs)) (drop_at xs more (length xs) refl)
      ∙ take_all (length xs + length more - length xs) more (omega arith)

  -- more elements at the end are one more piece
  pub pieces-push : (start : ℕ) (ends : List ℕ) → IsPieces start ends (length xs)
      → pieces_of (xs ++ more) start (ends ++ (length xs + length more) ∷ []) ≡ pieces_of xs start ends ++ more ∷ []
  pieces-push start [] is = ap (λ s. slice_range (xs ++ more) s (length xs + length more) ∷ []) is
      ∙ ap (λ p. p ∷ []) last_piece
  pieces-push start (end ∷ ends) is = λ i. piece_stays start end is.0 is.1 i ∷ pieces-push end ends is.2 i

  -- and the ends are those of pieces with one more
  pub IsPieces-push : (start : ℕ) (ends : List ℕ) → IsPieces start ends (length xs)
      → IsPieces start (ends ++ (length xs + length more) ∷ []) (length (xs ++ more))
  IsPieces-push start [] is = (omega arith, omega (arith, length-append xs more), sym (length-append xs more))
  IsPieces-push start (end ∷ ends) is = (is.0, omega (arith, is.1, length-append xs more), IsPieces-push end ends is.2)

-- a piece by its number: it begins where the one before ends
pub piece_at : {X : Type 0} (xs : List X) (start : ℕ) (ends : List ℕ) (k : ℕ) → k < length ends
    → get_or (pieces_of xs start ends) k [] ≡ slice_range xs (get_or (start ∷ ends) k 0) (get_or ends k 0)
piece_at xs start [] k within = absurd (omega arith)
piece_at xs start (end ∷ ends) zero within = refl
piece_at xs start (end ∷ ends) (suc k) within = piece_at xs end ends k (omega arith)

-- and lies within the list
pub piece_within : (start : ℕ) (ends : List ℕ) (len k : ℕ) → IsPieces start ends len → k < length ends
    → (get_or (start ∷ ends) k 0 ≤ get_or ends k 0) × (get_or ends k 0 ≤ len)
piece_within start [] len k is within = absurd (omega arith)
piece_within start (end ∷ ends) len zero is within = (is.0, is.1)
piece_within start (end ∷ ends) len (suc k) is within = piece_within end ends len k is.2 (omega arith)

-- how many pieces there are
pub length-pieces : {X : Type 0} (xs : List X) (start : ℕ) (ends : List ℕ)
    → length (pieces_of xs start ends) ≡ length ends
length-pieces xs start [] = refl
length-pieces xs start (end ∷ ends) = ap suc (length-pieces xs end ends)

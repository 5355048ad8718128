-- What is found when a list is gone through in order: no dead element, no element twice, each where
-- it stands first. So the number of a state or a row is its place in the order of the first finds.
use Rattle.std.specs.Prelude.{ℕ, List, [], ◌∷◌, ◌++◌, fold, Bool, not, ◌&&◌, if◌then◌else◌}
use Rattle.std.specs.List.{list_any, flat_map, range_with_len}
use Rattle.std.proofs.Common.{zero, suc}

-- one more element: it goes after the ones found, unless it is dead or among them
abbrev pub found_with : {X : Type 0} → (X → X → Bool) → (X → Bool) → List X → X → List X
found_with same live found x =
    if live x && not (list_any (same x) found) then found ++ x ∷ [] else found

-- the elements found
unfoldable pub found_in : {X : Type 0} → (X → X → Bool) → (X → Bool) → List X → List X
found_in same live xs = fold (found_with same live) [] xs

-- the values that a byte has
unfoldable pub all_bytes : List ℕ
all_bytes = range_with_len 0 256

-- all lists of so many bytes, ascending: each shorter one, followed by each byte in turn
unfoldable pub prefixes : ℕ → List (List ℕ)
prefixes zero = [] ∷ []
prefixes (suc len) = flat_map (λ before. flat_map (λ byte. (before ++ byte ∷ []) ∷ []) all_bytes)
    (prefixes len)

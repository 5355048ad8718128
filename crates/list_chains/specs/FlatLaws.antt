-- The law of the flat list, over the definitions alone.
use Rattle.std.specs.Prelude.{◌≡◌, ℕ, List, Bool, true, false, ◌&&◌, Option, Some, None}
use Rattle.list_chains.specs.Chains.{ListRule, decides}
use Rattle.list_chains.specs.Flat.{first_answer, flattened}

-- a packet is in a box, if there is one
abbrev pub holds_in : {B : Type 0} → (B → Bool) → Option B → Bool
holds_in holds None = false
holds_in holds (Some box) = holds box

-- what two boxes have in common has the packets of both, and no others
abbrev pub IsMeet : {B : Type 0} → (B → Bool) → (B → B → Option B) → Type 0
IsMeet {B} holds meet =
    (one other : B) → holds_in holds (meet one other) ≡ (holds one && holds other)

-- The first entry of the flat list that a packet is in has the answer of the chains.
abbrev pub TheFlatListAnswers : Type 0 → Type 0
TheFlatListAnswers B =
    (holds : B → Bool) (meet : B → B → Option B) → IsMeet holds meet →
    (depth : ℕ) (chains : List (List (ListRule B))) (place policy : ℕ) (whole : B) →
    holds whole ≡ true →
    first_answer holds (flattened meet depth chains place policy whole)
    ≡ Some (decides holds depth chains place policy)

-- Names with places: for each name of some chains the place of the first chain that has it.
use Rattle.std.specs.Prelude.{◌≡◌, ℕ, false, List, [], ◌∷◌, ◌++◌, if◌then◌else◌, is_some}
use Rattle.std.specs.Map.{lookup}
use Rattle.std.specs.Str.{bytes_eq}
use Rattle.iptables_reader.specs.Chains.{ListedChain, place_of}

-- the names with one more, unless it is there
abbrev pub with_place : List ℕ → ℕ → List (List ℕ × ℕ) → List (List ℕ × ℕ)
with_place name place names =
    if is_some (lookup (bytes_eq name) names) then names else names ++ (name, place) ∷ []

-- The names have the places of chains, and no other name has one.
pub record ArePlaces (names : List (List ℕ × ℕ)) (chains : List ListedChain) : Type 0 where
  pub found : (name : List ℕ) → lookup (bytes_eq name) names ≡ place_of false name chains

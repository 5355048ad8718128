-- An object is asked for its members by their names, and for how many it has. That suffices: it has
-- no other members, and none twice.
use Rattle.std.specs.Prelude.{◌≡◌, ℕ, Bool, true, is_some, List, [], ◌∷◌, length, Option, Some}
use Rattle.std.specs.Prelude.{None}
use Rattle.std.specs.List.{IsDistinct, list_any}
use Rattle.std.specs.Str.{bytes_eq}
use Rattle.json.specs.Json.{Json, Members, no_members, member}
use Rattle.json.specs.Find.{as_object, get}
use Rattle.nft_reader.specs.Shapes.{len_of}

-- the names of some members, in order
abbrev pub names_listed : Members → List (List ℕ)
names_listed no_members = []
names_listed (member name value more) = name ∷ names_listed more

-- those of an object
abbrev pub names_if : Option Members → List (List ℕ)
names_if None = []
names_if (Some members) = names_listed members

-- the names of the members of a value
abbrev pub member_names : Json → List (List ℕ)
member_names value = names_if (as_object value)

-- a name is one of some
abbrev pub is_among : List (List ℕ) → List ℕ → Bool
is_among names name = list_any (bytes_eq name) names

-- names are different, a member is found by each, and there are as many members
pub record AreCounted (names : List (List ℕ)) (value : Json) : Type 0 where
  pub different : IsDistinct bytes_eq names
  pub found : (name : List ℕ) → is_among names name ≡ true → is_some (get name value) ≡ true
  pub as_many : len_of value ≡ length names

-- the members have these names and no others, and each is there once
pub record AreAll (names : List (List ℕ)) (value : Json) : Type 0 where
  pub same : (name : List ℕ) → is_among (member_names value) name ≡ is_among names name
  pub once : IsDistinct bytes_eq (member_names value)

-- so names that are counted are all
abbrev pub CountingSuffices : Type 0
CountingSuffices =
    (names : List (List ℕ)) (value : Json) → AreCounted names value → AreAll names value

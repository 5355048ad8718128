-- Looking into a value of JSON (RFC 8259): the members of an object, one by one or how many, and
-- the items of an array. An object of which each member is asked for by its name, and that has no
-- more members than these, has nothing that is passed over.
use Rattle.std.specs.Prelude.{is_some, ℕ, suc, ◌&&◌, nat_le, if◌then◌else◌, List, [], ◌∷◌, map}
use Rattle.std.specs.Prelude.{Bool, Option, Some, None, option_and_then, Result, Ok, Err}
use Rattle.std.specs.Borrow.{Bor}
use Rattle.std.specs.List.{list_any}
use Rattle.std.specs.Option.{option_map}
use Rattle.std.specs.Str.{bytes_eq}
use Rattle.text_scan.specs.Digits.{are_digits, place_value}
use Rattle.json.specs.Json.{Json, Items, no_items, item, Members, no_members, member}
use Rattle.json.specs.Find.{get, as_array, as_number, as_object, as_str}
use Rattle.json.specs.Value.{value_view}
use Rattle.json.specs.declared.value.Value.{Value}

-- ---- what code holds, as values of JSON

-- a value
abbrev pub seen : {A : Type 0} → Bor (Value A) → Json
seen value = value_view value.now

-- two values
abbrev pub both_seen : {A : Type 0} → Bor (Value A) × Bor (Value A) → Json × Json
both_seen pair = (value_view pair.0.now, value_view pair.1.now)

-- a list of values
abbrev pub all_seen : {A : Type 0} → Bor (List (Value A)) → List Json
all_seen values = map value_view values.now

-- the same, or why they aren't known
abbrev pub elements_seen : {A K : Type 0} → Result (Bor (List (Value A))) K → Result (List Json) K
elements_seen (Ok values) = Ok (all_seen values)
elements_seen (Err why) = Err why

-- a text
abbrev pub text_seen : Bor (List ℕ) → List ℕ
text_seen text = text.now

-- a member
abbrev pub member_seen : {A : Type 0} → Bor (List ℕ) × Bor (Value A) → List ℕ × Json
member_seen found = (found.0.now, value_view found.1.now)

-- ---- members

-- how many members there are
abbrev pub members_count : Members → ℕ
members_count no_members = 0
members_count (member key value more) = suc (members_count more)

-- how many an object has
abbrev pub count_of : Option Members → ℕ
count_of None = 0
count_of (Some members) = members_count members

-- how many members a value has; one that is no object has none
abbrev pub len_of : Json → ℕ
len_of value = count_of (as_object value)

-- the only one of some members
abbrev pub only_member : Members → Option (List ℕ × Json)
only_member no_members = None
only_member (member key value no_members) = Some (key, value)
only_member (member key value (member other next more)) = None

-- the name and the value of the only member of an object
abbrev pub only : Json → Option (List ℕ × Json)
only value = option_and_then only_member (as_object value)

-- what the only member of an object says, if it has the name
abbrev pub said_by : List ℕ → Json → Option Json
said_by name value =
    option_and_then (λ found. if bytes_eq found.0 name then Some found.1 else None) (only value)

-- the text of a member that is a string
abbrev pub text_in : List ℕ → Json → Option (List ℕ)
text_in key value = option_and_then as_str (get key value)

-- a member of a name is there, by its number
abbrev pub present : List ℕ → Json → ℕ
present key value = if is_some (get key value) then 1 else 0

-- a name is one of some
abbrev pub is_one_of : List (List ℕ) → List ℕ → Bool
is_one_of names name = list_any (λ other. bytes_eq other name) names

-- ---- items

-- items as a list
abbrev pub list_of : Items → List Json
list_of no_items = []
list_of (item value more) = value ∷ list_of more

-- the items of an array
abbrev pub items_of : Json → Option (List Json)
items_of value = option_map list_of (as_array value)

-- the items of a member that is an array
abbrev pub items_in : List ℕ → Json → Option (List Json)
items_in key value = option_and_then items_of (get key value)

-- two items
abbrev pub two_of : List Json → Option (Json × Json)
two_of [] = None
two_of (one ∷ []) = None
two_of (one ∷ other ∷ []) = Some (one, other)
two_of (one ∷ other ∷ more ∷ values) = None

-- the items of an array of two
abbrev pub pair_of : Json → Option (Json × Json)
pair_of value = option_and_then two_of (items_of value)

-- some items, or else the value itself
abbrev pub items_or : Json → Option (List Json) → List Json
items_or value None = value ∷ []
items_or value (Some values) = values

-- the items of an array, or else the value itself
abbrev pub listed_values : Json → List Json
listed_values value = items_or value (items_of value)

-- ---- numbers

-- the number that digits spell, at most so great
abbrev pub decimal_of : ℕ → List ℕ → Option ℕ
decimal_of greatest text =
    if are_digits 10 text && nat_le (place_value 10 text) greatest
    then Some (place_value 10 text) else None

-- a value that is a number without sign, point and exponent, at most so great
abbrev pub number_of : ℕ → Json → Option ℕ
number_of greatest value = option_and_then (decimal_of greatest) (as_number value)

-- the number of such a member
abbrev pub number_in : ℕ → List ℕ → Json → Option ℕ
number_in greatest key value = option_and_then (number_of greatest) (get key value)

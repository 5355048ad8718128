-- Names that are different, of which each is found, and that are as many as members, are all of them.
use Rattle.std.proofs.Common.{◌≡◌, ◌≢◌, ℕ, suc, ◌≤◌, Bool, true, false, ◌||◌, is_some, List, [], ◌∷◌, length}
use Rattle.std.proofs.Common.{Option, Some, None}
use Rattle.std.proofs.Common.{refl, sym, ap, ◌∙◌, arith, cond, true≢false}
use Rattle.std.specs.List.{AllByRecursion, IsDistinct}
use Rattle.std.specs.Str.{bytes_eq}
use Rattle.std.specs.Cmp.Lexicographic.{nat_list_eq_equiv}
use Rattle.std.proofs.lemmas.Map.Made.{length-le_from_is_member, length-from_keys, IsDistinct-from_count}
use Rattle.std.proofs.lemmas.Map.Steps.{list_any_congr}
use Rattle.json.specs.Json.{Json, null, boolean, number, string, array, object, Members, no_members, member}
use Rattle.json.specs.Find.{get, get_member, later_or}
use Rattle.nft_reader.specs.Counted.{CountingSuffices, is_among, member_names, names_listed}
use Rattle.nft_reader.specs.Shapes.{len_of, members_count}

-- ---- members as names

-- there is one name for each
count_names : (members : Members) → length (names_listed members) ≡ members_count members
count_names no_members = refl
count_names (member name value more) = ap suc (count_names more)

-- the later of two is there if one of them is
later_is_some : (more : Option Json) (one : Option Json) →
    is_some (later_or more one) ≡ (is_some one || is_some more)
later_is_some None None = refl
later_is_some None (Some value) = refl
later_is_some (Some value) None = refl
later_is_some (Some value) (Some other) = refl

-- a value that stands for a test is there if the test holds
is_some_if : (test : Bool) (value : Json) → is_some (cond test (Some value) None) ≡ test
is_some_if true value = refl
is_some_if false value = refl

-- a member is found by a name that is one of theirs
found_listed : (name : List ℕ) (members : Members) →
    is_some (get_member name members) ≡ is_among (names_listed members) name
found_listed name no_members = refl
found_listed name (member other value more) =
    later_is_some (get_member name more) (cond (bytes_eq other name) (Some value) None)
    ∙ (λ i. is_some_if (bytes_eq other name) value i || found_listed name more i)
    ∙ ap (λ it. it || is_among (names_listed more) name) (nat_list_eq_equiv.symm other name)

-- the same of values
names_count : (value : Json) → length (member_names value) ≡ len_of value
names_count null = refl
names_count (boolean is) = refl
names_count (number text) = refl
names_count (string text) = refl
names_count (array items) = refl
names_count (object members) = count_names members

found_among : (name : List ℕ) (value : Json) → is_some (get name value) ≡ is_among (member_names value) name
found_among name null = refl
found_among name (boolean is) = refl
found_among name (number text) = refl
found_among name (string text) = refl
found_among name (array items) = refl
found_among name (object members) = found_listed name members

-- ---- lists of names

-- a name that isn't among some differs from each
differs : (name : List ℕ) (names : List (List ℕ)) → is_among names name ≡ false →
    AllByRecursion (λ other. bytes_eq name other ≡ false) names
differs name [] absent = tt
differs name (other ∷ names) absent = by (bytes_eq name other) refl absent (differs name names)
  where
    by : (test : Bool) → bytes_eq name other ≡ test → (test || is_among names name) ≡ false →
        (is_among names name ≡ false → AllByRecursion (λ it. bytes_eq name it ≡ false) names) →
        (bytes_eq name other ≡ false) × AllByRecursion (λ it. bytes_eq name it ≡ false) names
    by true is given rest = absurd (true≢false given)
    by false is given rest = (is, rest given)

module _ (names listed : List (List ℕ)) (different : IsDistinct bytes_eq names)
    (within : (name : List ℕ) → is_among names name ≡ true → is_among listed name ≡ true)
    (as_many : length listed ≡ length names) where
  -- with one more, they still are among the listed ones
  one_more : (name : List ℕ) → is_among listed name ≡ true → (other : List ℕ) →
      is_among (name ∷ names) other ≡ true → is_among listed other ≡ true
  one_more name is other has = by (bytes_eq other name) refl has
    where
      by : (test : Bool) → bytes_eq other name ≡ test → (test || is_among names other) ≡ true →
          is_among listed other ≡ true
      by true same given = list_any_congr nat_list_eq_equiv other name listed same ∙ is
      by false same given = within other given

  -- so a listed name is one of them, or they would be more
  is_one : (name : List ℕ) → is_among names name ≡ false → is_among listed name ≢ true
  unfolding IsDistinct
  is_one name absent is =
      let more : suc (length names) ≤ length listed =
      length-le_from_is_member nat_list_eq_equiv (name ∷ names) listed (differs name names absent, different)
      (one_more name is) in
      omega (arith, more, as_many)

  same_names : (name : List ℕ) → is_among listed name ≡ is_among names name
  same_names name = by (is_among names name) (is_among listed name) refl refl
    where
      by : (among is : Bool) → is_among names name ≡ among → is_among listed name ≡ is → is ≡ among
      by true true a b = refl
      by true false a b = sym b ∙ within name a
      by false true a b = absurd (is_one name a b)
      by false false a b = refl

  -- and none is listed twice
  listed_once : IsDistinct bytes_eq listed
  listed_once =
      IsDistinct-from_count nat_list_eq_equiv listed
      (sym (length-from_keys nat_list_eq_equiv names listed different (λ name. sym (same_names name))) ∙ sym as_many)

pub counting_suffices : CountingSuffices
counting_suffices names value counted =
    let within : (name : List ℕ) → is_among names name ≡ true → is_among (member_names value) name ≡ true =
    λ name has. sym (found_among name value) ∙ counted.found name has in
    let as_many = names_count value ∙ counted.as_many in
    record {
      same = same_names names (member_names value) counted.different within as_many;
      once = listed_once names (member_names value) counted.different within as_many;
    }

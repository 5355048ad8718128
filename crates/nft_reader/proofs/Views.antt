-- Values of JSON, level by level.
use Rattle.std.proofs.Common.{◌≡◌, ◌≢◌, ℕ, suc, Bool, ◌||◌, List, [], ◌∷◌, length, map, Some, None, get_or}
use Rattle.std.proofs.Common.{◌++◌, ◌∙◌, arith, refl, ap, sym}
use Rattle.std.proofs.lemmas.List.Concat.{flat_map-cons}
use Rattle.std.specs.List.{flat_map, list_all, list_any}
use Rattle.std.proofs.lemmas.List.Folds.{list_all-map}
use Rattle.json.specs.Json.{Json}
use Rattle.std.specs.Borrow.{Bor}
use Rattle.json.specs.Value.{value_view, items_view, members_view}
use Rattle.json.specs.declared.value.Value.{Value}
use Rattle.nft_reader.specs.Shapes.{list_of, members_count, only_member}

-- the items of an array are its values
pub list_of_view : {A : Type 0} (values : List (Value A)) → list_of (items_view values) ≡ map value_view values
list_of_view [] = refl
list_of_view (value ∷ values) = ap (λ more. value_view value ∷ more) (list_of_view values)

-- an object has so many members
pub count_of_view : {A : Type 0} (members : List (Bor (List ℕ) × Value A)) →
    members_count (members_view members) ≡ length members
count_of_view [] = refl
count_of_view (member ∷ members) = ap suc (count_of_view members)

-- of none or several, none is the only one
pub none_of_several : {A : Type 0} (members : List (Bor (List ℕ) × Value A)) → length members ≢ 1 →
    only_member (members_view members) ≡ None
none_of_several [] several = refl
none_of_several (member ∷ []) several = absurd (several refl)
none_of_several (member ∷ other ∷ members) several = refl

-- the only one is the first
pub the_only : {A : Type 0} (members : List (Bor (List ℕ) × Value A)) (other : Bor (List ℕ) × Value A) →
    length members ≡ 1 →
    only_member (members_view members)
    ≡ Some ((get_or members 0 other).0.now, value_view (get_or members 0 other).1)
the_only [] other alone = absurd (omega (arith, alone))
the_only (member ∷ []) other alone = refl
the_only (member ∷ next ∷ members) other alone = absurd (omega (arith, alone))

-- all views of values pass a test where the values do
pub all_views : {A : Type 0} (p : Json → Bool) (values : List (Value A)) →
    list_all p (map value_view values) ≡ list_all (λ value. p (value_view value)) values
all_views p values = list_all-map p value_view values

-- and one of them does where one of the values does
pub any_view : {A : Type 0} (p : Json → Bool) (values : List (Value A)) →
    list_any p (map value_view values) ≡ list_any (λ value. p (value_view value)) values
any_view p [] = refl
any_view p (value ∷ values) = ap (λ more. p (value_view value) || more) (any_view p values)

-- what is made of each view, joined, is what is made of each value
pub flat_map_views : {A Y : Type 0} (f : Json → List Y) (values : List (Value A)) →
    flat_map f (map value_view values) ≡ flat_map (λ value. f (value_view value)) values
flat_map_views f [] = refl
flat_map_views f (value ∷ values) =
    flat_map-cons f (value_view value) (map value_view values)
    ∙ ap (λ more. f (value_view value) ++ more) (flat_map_views f values)
    ∙ sym (flat_map-cons (λ value. f (value_view value)) value values)

-- Lines that are passed over, and bytes that are shown, one more at a time.
use Rattle.std.proofs.Common.{◌≡◌, ℕ, zero, suc, ◌+◌, ◌<◌, ◌≤◌, List, [], ◌∷◌, ◌++◌, length, get_or, map, take, drop}
use Rattle.std.proofs.Common.{add-one, arith, refl, sym, ap, ◌∙◌}
use Rattle.std.proofs.lemmas.List.{append_assoc, drop_all, length-drop, map_push}
use Rattle.std.specs.Prelude.{slice_get}
use Rattle.list_tool.specs.Shown.{shown_byte}

-- one element more is left out
drop_suc : {A : Type 0} (k : ℕ) (xs : List A) → drop (suc k) xs ≡ drop 1 (drop k xs)
drop_suc zero xs = refl
drop_suc (suc k) [] = refl
drop_suc (suc k) (x ∷ xs) = drop_suc k xs

-- what is left after the next element
pub drop_next : {A : Type 0} (k : ℕ) (xs : List A) {x : A} {rest : List A} → drop k xs ≡ x ∷ rest →
    drop (k + 1) xs ≡ rest
drop_next k xs is = ap (λ n. drop n xs) (add-one k) ∙ drop_suc k xs ∙ ap (drop 1) is

-- where nothing is left, nothing is left later
pub drop_end : {A : Type 0} (k n : ℕ) (xs : List A) → drop k xs ≡ [] → k ≤ n → drop n xs ≡ []
drop_end k n xs none before =
    let short : length xs ≤ k = omega (arith, sym (length-drop k xs) ∙ ap length none) in
    drop_all n xs (omega (arith, short, before))

-- the first of those that are left stands at this place
pub get_here : {A : Type 0} (xs : List A) (k : ℕ) → slice_get (drop k xs) 0 ≡ slice_get xs k
get_here [] zero = refl
get_here [] (suc k) = refl
get_here (x ∷ xs) zero = refl
get_here (x ∷ xs) (suc k) = get_here xs k

-- one element more, after those before it
take_next : (xs : List ℕ) (k : ℕ) → k < length xs → take (suc k) xs ≡ take k xs ++ get_or xs k 0 ∷ []
take_next [] k below = absurd (omega (arith, below))
take_next (x ∷ xs) zero below = refl
take_next (x ∷ xs) (suc k) below = ap (λ l. x ∷ l) (take_next xs k (omega (arith, below)))

-- one byte more is shown
pub shown_more : (before text : List ℕ) (place : ℕ) → place < length text →
    (before ++ map shown_byte (take place text)) ++ shown_byte (get_or text place 0) ∷ []
    ≡ before ++ map shown_byte (take (place + 1) text)
shown_more before text place below =
    let front = take place text in
    let byte = get_or text place 0 in
    append_assoc before (map shown_byte front) (shown_byte byte ∷ [])
    ∙ ap (λ shown. before ++ shown) (sym (map_push shown_byte front byte))
    ∙ ap (λ bytes. before ++ map shown_byte bytes)
    (sym (ap (λ k. take k text) (add-one place) ∙ take_next text place below))

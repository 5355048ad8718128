-- Tests of all elements of a list and of some, and the elements that come first.
use Rattle.std.proofs.Common.{◌≡◌, ℕ, suc, ◌+◌, ◌<◌, ◌≤◌, Bool, true, false, not, ◌&&◌, cond, eqb, List, [], ◌∷◌}
use Rattle.std.proofs.Common.{◌++◌}
use Rattle.std.proofs.Common.{◌||◌, length, take, drop, get_or, map, filter, set, zero, refl, sym, ap, ◌∙◌, inl, inr}
use Rattle.std.proofs.Common.{arith}
use Rattle.std.proofs.lemmas.Bool.{cases_Bool, and_parts, and_from, or_left, or_right}
use Rattle.std.proofs.lemmas.List.{take-append-drop}
use Rattle.std.proofs.lemmas.List.Folds.{list_all-append, list_any-append, list_all_more}
use Rattle.std.proofs.lemmas.List.Sums.{list_all-from_AllPass, prefix_len_passes}
use Rattle.std.specs.List.{list_all, list_any, position_or_len, prefix_len, AllByRecursion, AllZip}
use Rattle.list_lemmas.proofs.Tests.{passes_other}

-- a weaker test of each element
pub list_all_weaker : {X : Type 0} (p q : X → Bool) (xs : List X) → ((x : X) → p x ≡ true → q x ≡ true) →
    list_all p xs ≡ true → list_all q xs ≡ true
list_all_weaker p q [] weaker all = refl
list_all_weaker p q (x ∷ xs) weaker all =
    let parts = and_parts (p x) (list_all p xs) all in
    and_from (q x) (list_all q xs) (weaker x parts.0) (list_all_weaker p q xs weaker parts.1)

-- a number that fails a test isn't among numbers that pass it
pub list_all-lacks : (p : ℕ → Bool) (other : ℕ) → p other ≡ false → (xs : List ℕ) → list_all p xs ≡ true →
    list_all (λ x. not (eqb x other)) xs ≡ true
list_all-lacks p other fails xs = list_all_weaker p (λ x. not (eqb x other)) xs
    (λ x passes. ap not (passes_other p x other fails passes))

-- and none of them is that number
pub list_any-lacks : (p : ℕ → Bool) (other : ℕ) → p other ≡ false → (xs : List ℕ) → list_all p xs ≡ true →
    list_any (λ x. eqb x other) xs ≡ false
list_any-lacks p other fails [] all = refl
list_any-lacks p other fails (x ∷ xs) all =
    let parts = and_parts (p x) _ all in
    rw (passes_other p x other fails parts.0) (list_any-lacks p other fails xs parts.1)

-- one element on
pub list_all_next : {X : Type 0} (p : X → Bool) (xs : List X) (n : ℕ) (x : X) →
    (n < length xs) × (x ≡ get_or xs n x) → list_all p (take n xs) ≡ true → p x ≡ true →
    list_all p (take (n + 1) xs) ≡ true
list_all_next p xs n x at before here =
    list_all_more p xs n x at.0 ∙ and_from (list_all p (take n xs)) _ before (ap p (sym at.1) ∙ here)

-- what holds of all elements holds of the first ones
pub list_all-take : {X : Type 0} (p : X → Bool) (n : ℕ) (xs : List X) → list_all p xs ≡ true →
    list_all p (take n xs) ≡ true
list_all-take p n xs all = (and_parts (list_all p (take n xs)) (list_all p (drop n xs))
    (sym (list_all-append p (take n xs) (drop n xs)) ∙ ap (list_all p) (take-append-drop n xs) ∙ all)).0

-- two lists whose elements pass a test, one after the other
pub list_all_both : {X : Type 0} (p : X → Bool) (first second : List X) → list_all p first ≡ true →
    list_all p second ≡ true → list_all p (first ++ second) ≡ true
list_all_both p first second one other = list_all-append p first second ∙ and_from (list_all p first) _ one other

-- an element that passes stands in a list that has it
pub any-append : {X : Type 0} (p : X → Bool) (before rest : List X) (x : X) → p x ≡ true →
    list_any p (before ++ x ∷ rest) ≡ true
any-append p before rest x here = list_any-append p before (x ∷ rest)
    ∙ or_right (list_any p before) _ (or_left (p x) _ here)

-- and no place before it does, where the elements before it fail
pub place-append : {X : Type 0} (p : X → Bool) (before rest : List X) (x : X) →
    list_all (λ y. not (p y)) before ≡ true → p x ≡ true → position_or_len p (before ++ x ∷ rest) ≡ length before
place-append p [] rest x lacks here = rw here refl
place-append p (y ∷ before) rest x lacks here =
    let parts = and_parts (not (p y)) _ lacks in
    rw parts.0 (omega (arith, place-append p before rest x parts.1 here))

-- where as many elements pass as there are, all pass
pub all_pass_run : {X : Type 0} (p : X → Bool) (xs : List X) → length xs ≤ prefix_len p xs → list_all p xs ≡ true
all_pass_run p xs long = list_all-from_AllPass p xs (λ k d below. prefix_len_passes p xs k d (omega arith))

-- elements that pass, and after them one that fails or none
pub prefix_len-whole : {X : Type 0} (p : X → Bool) (xs rest : List X) → list_all p xs ≡ true → prefix_len p rest ≡ 0 →
    prefix_len p (xs ++ rest) ≡ length xs
prefix_len-whole p [] rest all ends = ends
prefix_len-whole p (x ∷ xs) rest all ends =
    let parts = and_parts (p x) _ all in
    rw parts.0 (omega (arith, prefix_len-whole p xs rest parts.1 ends))

-- what holds of each element, carried over to what a function makes of it
pub all_map : {X Y : Type 0} (P : X → Type 0) (Q : Y → Type 0) (f : X → Y) → ((x : X) → P x → Q (f x)) →
    (xs : List X) → AllByRecursion P xs → AllByRecursion Q (map f xs)
all_map P Q f each [] all = tt
all_map P Q f each (x ∷ xs) all = (each x all.0, all_map P Q f each xs all.1)

-- a test of each element, where a fact on each makes it pass
pub list_all_from : {X : Type 0} (P : X → Type 0) (p : X → Bool) → ((x : X) → P x → p x ≡ true) → (xs : List X) →
    AllByRecursion P xs → list_all p xs ≡ true
list_all_from P p each [] all = refl
list_all_from P p each (x ∷ xs) all = and_from (p x) _ (each x all.0) (list_all_from P p each xs all.1)

-- a function that takes back what another one made of each element
pub map_back : {X Y : Type 0} (P : X → Type 0) (f : X → Y) (back : Y → X) → ((x : X) → P x → back (f x) ≡ x) →
    (xs : List X) → AllByRecursion P xs → map back (map f xs) ≡ xs
map_back P f back each [] all = refl
map_back P f back each (x ∷ xs) all = λ i. each x all.0 i ∷ map_back P f back each xs all.1 i

-- a relation at each place holds of lists of one length
pub length-AllZip : {X Y : Type 0} (R : X → Y → Type 0) (xs : List X) (ys : List Y) → AllZip R xs ys →
    length ys ≡ length xs
length-AllZip R [] [] all = refl
length-AllZip R [] (y ∷ ys) all = absurd all
length-AllZip R (x ∷ xs) [] all = absurd all
length-AllZip R (x ∷ xs) (y ∷ ys) all = ap suc (length-AllZip R xs ys all.1)

-- a relation at each place of two lists of one length
pub AllZip-from_places : {X Y : Type 0} (R : X → Y → Type 0) (xs : List X) (ys : List Y) (d : X) (e : Y) →
    length ys ≡ length xs → ((i : ℕ) → i < length xs → R (get_or xs i d) (get_or ys i e)) → AllZip R xs ys
AllZip-from_places R [] [] d e same each = tt
AllZip-from_places R [] (y ∷ ys) d e same each = absurd (omega (arith, same))
AllZip-from_places R (x ∷ xs) [] d e same each = absurd (omega (arith, same))
AllZip-from_places R (x ∷ xs) (y ∷ ys) d e same each =
    (each 0 (omega arith), AllZip-from_places R xs ys d e (omega (arith, same)) (λ i h. each (suc i) (omega arith)))

-- two tests, one after the other
pub filter_twice : {X : Type 0} (p q both : X → Bool) (xs : List X) → ((x : X) → both x ≡ (p x && q x)) →
    filter both xs ≡ filter q (filter p xs)
filter_twice p q both [] same = refl
filter_twice p q both (x ∷ xs) same = elim (cases_Bool (p x)) [
  | inl e ↦ rw (same x, e) (ap (λ rest. cond (q x) (x ∷ rest) rest) (filter_twice p q both xs same))
  | inr e ↦ rw (same x, e) (filter_twice p q both xs same)
]

-- where an element is changed to one that passes alike, as many pass
pub any-set_alike : {X : Type 0} (p : X → Bool) (xs : List X) (i : ℕ) (x d : X) → i < length xs →
    p x ≡ p (get_or xs i d) → list_any p (set xs i x) ≡ list_any p xs
any-set_alike p [] i x d within same = refl
any-set_alike p (y ∷ xs) zero x d within same = ap (λ (b : Bool). b || list_any p xs) same
any-set_alike p (y ∷ xs) (suc i) x d within same =
    ap (λ (b : Bool). p y || b) (any-set_alike p xs i x d (omega arith) same)

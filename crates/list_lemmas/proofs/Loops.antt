-- Loops over a list: what a turn adds to what was made, what is left of it, and what holds of each element.
use Rattle.std.proofs.Common.{◌≡◌, ℕ, ◌+◌, ◌<◌, ◌≤◌, List, [], ◌∷◌, ◌++◌, length, map, take, drop, get_or, sym, ◌∙◌, ap}
use Rattle.std.proofs.Common.{suc, refl, arith, Bool, true, false, cond, Some, None, Option, subst, inl, inr, All}
use Rattle.std.proofs.Common.{length-take, length-append, ◌==◌, nat_lt, flat_map, sum_by, Contains, count_by}
use Rattle.std.specs.List.{AllByRecursion, position_from, list_all, range_with_len}
use Rattle.std.proofs.lemmas.Bool.{and_from, cases_lt}
use Rattle.std.proofs.lemmas.List.{get_or-take, get_or-drop, get_or_past, take_more, take_all, drop_more, drop_all}
use Rattle.std.proofs.lemmas.List.{map_push, append-nil, append_assoc}
use Rattle.std.proofs.lemmas.List.Concat.{flat_map-cons}
use Rattle.std.proofs.lemmas.List.Elements.{recursion_from_All}
use Rattle.std.proofs.lemmas.List.FromFn.{get_or-range_with_len, length-range_with_len}
use Rattle.list_lemmas.proofs.Elements.{list_all_both}
use Rattle.list_lemmas.proofs.Positions.{HasPart}
use Rattle.std.proofs.lemmas.List.Sums.{sum_by-cons}
use Rattle.std.proofs.lemmas.Grind.{flat_map-append}

-- ---- loops that go over a list

-- what is left begins with the element of the turn
pub left_is : {X : Type 0} (xs : List X) (k : ℕ) (d : X) {x : X} → k < length xs → x ≡ get_or xs k d →
    drop k xs ≡ x ∷ drop (k + 1) xs
left_is xs k d below is = drop_more xs k d below ∙ ap (λ y. y ∷ drop (k + 1) xs) (sym is)

-- those gone over end with it after the turn
pub gone_is : {X : Type 0} (xs : List X) (k : ℕ) (d : X) {x : X} → k < length xs → x ≡ get_or xs k d →
    take (k + 1) xs ≡ take k xs ++ x ∷ []
gone_is xs k d below is = take_more xs k d below ∙ ap (λ y. take k xs ++ y ∷ []) (sym is)

-- a loop made one for each element that it went over, after the old ones
pub record Mapped {X Y : Type 0} (f : X → Y) (xs : List X) (k : ℕ) (old made : List Y) : Type 0 where
  pub is : made ≡ old ++ map f (take k xs)

-- then the turn makes one more
pub mapped_more : {X Y : Type 0} {f : X → Y} {xs : List X} {k : ℕ} {old made more : List Y} {x : X} {y : Y} (d : X) →
    Mapped f xs k old made → k < length xs → x ≡ get_or xs k d → more ≡ made ++ y ∷ [] → y ≡ f x →
    Mapped f xs (k + 1) old more
mapped_more {f = f} {xs = xs} {k = k} {old = old} {x = x} d so_far below is pushed y = record {
  is = pushed
      ∙ (λ i. so_far.is i ++ y i ∷ [])
      ∙ append_assoc old (map f (take k xs)) (f x ∷ [])
      ∙ ap (λ ys. old ++ ys) (sym (ap (map f) (gone_is xs k d below is) ∙ map_push f (take k xs) x));
}

-- and at the end there is one for each
pub mapped_all : {X Y : Type 0} {f : X → Y} {xs : List X} {k : ℕ} {old made : List Y} → Mapped f xs k old made →
    length xs ≤ k → made ≡ old ++ map f xs
mapped_all {f = f} {xs = xs} {k = k} {old = old} so_far end =
    so_far.is ∙ ap (λ ys. old ++ map f ys) (take_all k xs end)

-- a loop made some for each element that it went over, after the old ones
pub record Joined {X Y : Type 0} (f : X → List Y) (xs : List X) (k : ℕ) (old made : List Y) : Type 0 where
  pub is : made ≡ old ++ flat_map f (take k xs)

-- then the turn makes those of one more
pub joined_more : {X Y : Type 0} {f : X → List Y} {xs : List X} {k : ℕ} {old made more : List Y} {x : X} (d : X) →
    Joined f xs k old made → k < length xs → x ≡ get_or xs k d → more ≡ made ++ f x → Joined f xs (k + 1) old more
joined_more {f = f} {xs = xs} {k = k} {old = old} {x = x} d so_far below is pushed = record {
  is = pushed
      ∙ ap (λ ys. ys ++ f x) so_far.is
      ∙ append_assoc old (flat_map f (take k xs)) (f x)
      ∙ ap (λ ys. old ++ ys)
      (sym (ap (flat_map f) (gone_is xs k d below is)
      ∙ flat_map-append f (take k xs) (x ∷ [])
      ∙ ap (λ ys. flat_map f (take k xs) ++ ys) (append-nil (f x))));
}

-- and at the end those of all
pub joined_all : {X Y : Type 0} {f : X → List Y} {xs : List X} {k : ℕ} {old made : List Y} →
    Joined f xs k old made → length xs ≤ k → made ≡ old ++ flat_map f xs
joined_all {f = f} {xs = xs} {k = k} {old = old} so_far end =
    so_far.is ∙ ap (λ ys. old ++ flat_map f ys) (take_all k xs end)

-- what a loop wrote, in front of what it has to write for the elements that are left
pub record Writes {X Y : Type 0} (to_write : List X → List Y) (xs : List X) (k : ℕ) (written all : List Y) :
    Type 0 where
  pub is : written ++ to_write (drop k xs) ≡ all

-- a part more is written, which what was left begins with
pub writes_more : {X Y : Type 0} {this next : List X → List Y} {xs : List X} {k : ℕ} {written all more : List Y}
    {x : X} (d : X) (part : List Y) → Writes this xs k written all → k < length xs → x ≡ get_or xs k d →
    more ≡ written ++ part → this (x ∷ drop (k + 1) xs) ≡ part ++ next (drop (k + 1) xs) →
    Writes next xs (k + 1) more all
writes_more {this = this} {next = next} {xs = xs} {k = k} {written = written} d part so_far below is pushed
    opens = record {
      is = ap (λ ys. ys ++ next (drop (k + 1) xs)) pushed
          ∙ append_assoc written part (next (drop (k + 1) xs))
          ∙ ap (λ ys. written ++ ys) (sym (ap this (left_is xs k d below is) ∙ opens))
          ∙ so_far.is;
    }

-- or one element, which what was left begins with
pub writes_one : {X Y : Type 0} {this next : List X → List Y} {xs : List X} {k : ℕ} {written all more : List Y}
    {x : X} {y : Y} (d : X) → Writes this xs k written all → k < length xs → x ≡ get_or xs k d →
    more ≡ written ++ y ∷ [] → this (x ∷ drop (k + 1) xs) ≡ y ∷ next (drop (k + 1) xs) →
    Writes next xs (k + 1) more all
writes_one {y = y} d so_far below is pushed opens = writes_more d (y ∷ []) so_far below is pushed opens

-- and at the end all is written
pub writes_all : {X Y : Type 0} {to_write : List X → List Y} {xs : List X} {k : ℕ} {written all : List Y} →
    Writes to_write xs k written all → to_write [] ≡ [] → length xs ≤ k → written ≡ all
writes_all {to_write = to_write} {xs = xs} {k = k} {written = written} so_far none end =
    sym (append-nil written)
    ∙ ap (λ ys. written ++ ys) (sym (ap to_write (drop_all k xs end) ∙ none))
    ∙ so_far.is

-- what is left to be counted is what the turn has, and that of the elements after it
pub sum_left : {X : Type 0} (f : X → ℕ) (xs : List X) (k : ℕ) (d : X) {x : X} → k < length xs → x ≡ get_or xs k d →
    sum_by f (drop k xs) ≡ f x + sum_by f (drop (k + 1) xs)
sum_left f xs k d {x = x} below is = ap (sum_by f) (left_is xs k d below is) ∙ sum_by-cons f x (drop (k + 1) xs)

-- how many elements the parts have together, where it is known how many each has
pub length_parts : {X Y : Type 0} (f : X → List Y) (n : X → ℕ) → ((x : X) → length (f x) ≡ n x) → (xs : List X) →
    length (flat_map f xs) ≡ sum_by n xs
length_parts f n is [] = refl
length_parts f n is (x ∷ xs) =
    length-append (f x) (flat_map f xs) ∙ (λ i. is x i + length_parts f n is xs i) ∙ sym (sum_by-cons n x xs)

-- ---- what holds of each element

-- what holds of everything holds of each element
pub all_each : {X : Type 0} (P : X → Type 0) → ((x : X) → P x) → (xs : List X) → AllByRecursion P xs
all_each P each [] = tt
all_each P each (x ∷ xs) = (each x, all_each P each xs)

-- a test that fails for each element finds none
pub none_by : (p : ℕ → Bool) (place : ℕ) (xs : List ℕ) → ((k : ℕ) → k < length xs → p (get_or xs k 0) ≡ false) →
    position_from p place xs ≡ None
none_by p place [] each = refl
none_by p place (x ∷ xs) each =
    ap (λ b. cond b (Some place) (position_from p (place + 1) xs)) (each 0 (omega arith))
    ∙ none_by p (place + 1) xs (λ k within. each (suc k) (omega (arith, within)))

-- what stands from a place on, as far as there is any, each has what all of a part there have
pub words_pass : (P : ℕ → Type 0) (words : List ℕ) (from : ℕ) (part : List ℕ) (len : ℕ) → HasPart 0 words from part →
    len ≡ length part → All P part →
    (k : ℕ) → k < length (take len (drop from words)) → P (get_or (take len (drop from words)) k 0)
words_pass P words from part len has e all k within =
    let inside : k < len = omega (arith, within, length-take len (drop from words)) in
    subst P (sym (get_or-take len (drop from words) k 0 inside ∙ get_or-drop from words k 0
    ∙ has k (omega (arith, inside, e)))) (all k 0 (omega (arith, inside, e)))

-- a test of all images passes where it passes for the image of each
pub list_all_map : {X Y : Type 0} (p : Y → Bool) (f : X → Y) (xs : List X) → All (λ x. p (f x) ≡ true) xs →
    list_all p (map f xs) ≡ true
list_all_map p f xs each = from xs (recursion_from_All (λ x. p (f x) ≡ true) xs each)
  where
    from : (ys : List _) → AllByRecursion (λ y. p (f y) ≡ true) ys → list_all p (map f ys) ≡ true
    from [] all = refl
    from (y ∷ ys) all = and_from (p (f y)) _ all.0 (from ys all.1)

-- and for the images of each that are lists
pub list_all_flat_map : {X Y : Type 0} (p : Y → Bool) (f : X → List Y) (xs : List X) →
    All (λ x. list_all p (f x) ≡ true) xs → list_all p (flat_map f xs) ≡ true
list_all_flat_map p f xs each = from xs (recursion_from_All (λ x. list_all p (f x) ≡ true) xs each)
  where
    from : (ys : List _) → AllByRecursion (λ y. list_all p (f y) ≡ true) ys → list_all p (flat_map f ys) ≡ true
    from [] all = refl
    from (y ∷ ys) all =
        ap (list_all p) (flat_map-cons f y ys) ∙ list_all_both p (f y) (flat_map f ys) all.0 (from ys all.1)

-- the elements of numbers below a bound are below it, also past the end
pub below_anywhere : (bound : ℕ) (xs : List ℕ) (k : ℕ) → 0 < bound → All (λ x. x < bound) xs → get_or xs k 0 < bound
below_anywhere bound xs k some all = elim (cases_lt k (length xs)) [
  | inl within ↦ all k 0 within
  | inr past ↦ omega (arith, get_or_past xs k 0 past)
]

-- a number in a range from 0 on is below its end
pub below_count : (n place : ℕ) → Contains (range_with_len 0 n) place → place < n
below_count n place has =
    omega (
      arith,
      has.1,
      has.2,
      length-range_with_len 0 n,
      get_or-range_with_len 0 n has.0 place
          (omega (arith, has.1, length-range_with_len 0 n)),
    )

-- two options that are there and equal have one value
pub same_some : (p q : ℕ) → (let one : Option ℕ = Some p in one) ≡ Some q → p ≡ q
same_some p q e = cc

-- what holds of two values holds of the one that a test takes
pub holds_of_cond : {X : Type 0} (P : X → Type 0) (test : Bool) (x y : X) → (test ≡ true → P x) → P y →
    P (cond test x y)
holds_of_cond P true x y one other = one refl
holds_of_cond P false x y one other = other

-- a list that is made at a sum, where it is known by the parts of that sum
pub at_place : {now items : List ℕ} {len level a b : ℕ} (F : ℕ → List ℕ) → now ≡ items → items ≡ F (len + level) →
    len ≡ a → level ≡ b → now ≡ F (a + b)
at_place F e1 e2 e3 e4 = e1 ∙ e2 ∙ (λ i. F (e3 i + e4 i))

-- how many of the numbers are below one
abbrev pub below : ℕ → List ℕ → ℕ
below most numbers = count_by (λ number. nat_lt number most) numbers

-- one more number at the front adds one exactly if it is below
pub below-cons : (most number : ℕ) (numbers : List ℕ) → below most (number ∷ numbers)
    ≡ cond (nat_lt number most) 1 0 + below most numbers
below-cons most number numbers = sum_by-cons (λ (n : ℕ). cond (nat_lt n most) 1 0) number numbers

-- a test that is written as a number is read back
pub one_says : (b : Bool) → (cond b 1 0 == 1) ≡ b
one_says true = refl
one_says false = refl

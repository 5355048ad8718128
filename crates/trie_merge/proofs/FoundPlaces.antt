-- Numbers that are kept with the place of each.
use Rattle.std.proofs.Common.{◌≡◌, ℕ, ◌+◌, ◌-◌, ◌<◌, ◌≤◌, List, [], ◌∷◌, ◌++◌, length, take, zero, suc, Bool, true, false, cond, not}
use Rattle.std.proofs.Common.{◌||◌, refl, sym, ◌∙◌, ap, arith, inl, inr, true≢false, get_or, set, replicate, eqb}
use Rattle.std.specs.Prelude.{nat_eq}
use Rattle.std.specs.List.{list_any, position_or_len}
use Rattle.std.proofs.lemmas.Bool.{cases_Bool, eq-eqb, eqb-true}
use Rattle.std.proofs.lemmas.Bool.Decides.{nat_tests}
use Rattle.std.proofs.lemmas.List.{get_or-set_same, get_or-set_other, take_all}
use Rattle.std.proofs.lemmas.List.Folds.{list_any-append, position_or_len_push}
use Rattle.trie_merge.specs.FoundNumbers.{place_after, ArePlaces}

-- where none passes, the place is the length
none_at : (p : ℕ → Bool) (xs : List ℕ) → list_any p xs ≡ false → position_or_len p xs ≡ length xs
none_at p [] none = refl
none_at p (x ∷ xs) none = by (p x) (none_at p xs) none
  where
    by : (b : Bool) → (list_any p xs ≡ false → position_or_len p xs ≡ length xs) → (b || list_any p xs) ≡ false
        → cond (not b) (1 + position_or_len p xs) 0 ≡ length (x ∷ xs)
    by true rest none = absurd (true≢false none)
    by false rest none = omega (arith, rest none)

-- where one passes, the place is below the length
some_at : (p : ℕ → Bool) (xs : List ℕ) → list_any p xs ≡ true → position_or_len p xs < length xs
some_at p [] some = absurd (true≢false (sym some))
some_at p (x ∷ xs) some = by (p x) (some_at p xs) some
  where
    by : (b : Bool) → (list_any p xs ≡ true → position_or_len p xs < length xs) → (b || list_any p xs) ≡ true
        → cond (not b) (1 + position_or_len p xs) 0 < length (x ∷ xs)
    by true rest some = omega arith
    by false rest some = omega (arith, rest some)

-- the place of a number once one more comes after the others, as a case for each test
at_end : (any one : Bool) (place len : ℕ) → (any ≡ false → place ≡ len) → (any ≡ true → place < len)
    → (one ≡ true → any ≡ false)
    → cond (any || (one || false)) (cond (eqb place len) (len + cond one 0 1) place + 1) 0
    ≡ cond one (len + 1) (cond any (place + 1) 0)
at_end true true place len none some apart = absurd (true≢false (apart refl))
at_end true false place len none some apart = let below = some refl in grind (arith, nat_tests)
at_end false true place len none some apart = let same = none refl in grind (arith, nat_tests)
at_end false false place len none some apart = refl

-- one more number has the place after the others, and those have their places
place_with : (keys : List ℕ) (key number : ℕ) → list_any (nat_eq key) keys ≡ false
    → place_after (keys ++ key ∷ []) number
    ≡ cond (nat_eq number key) (length keys + 1) (place_after keys number)
place_with keys key number new =
    rw (list_any-append (nat_eq number) keys (key ∷ []), position_or_len_push (nat_eq number) keys key)
    (at_end (list_any (nat_eq number) keys) (nat_eq number key) (position_or_len (nat_eq number) keys) (length keys)
    (none_at (nat_eq number) keys) (some_at (nat_eq number) keys)
    (λ one. rw (eqb-true number key one) new))

-- a number without a place isn't there
pub is_absent : (keys : List ℕ) (number : ℕ) → place_after keys number ≡ 0 → list_any (nat_eq number) keys ≡ false
is_absent keys number none = by (list_any (nat_eq number) keys) none
  where
    by : (b : Bool) → cond b (position_or_len (nat_eq number) keys + 1) 0 ≡ 0 → b ≡ false
    by true none = absurd (omega (arith, none))
    by false none = refl

-- more zeros after the places change none of them
more_zeros : (places : List ℕ) (count number : ℕ)
    → get_or (places ++ replicate count 0) number 0 ≡ get_or places number 0
more_zeros [] zero number = refl
more_zeros [] (suc count) zero = refl
more_zeros [] (suc count) (suc number) = more_zeros [] count number
more_zeros (place ∷ places) count zero = refl
more_zeros (place ∷ places) count (suc number) = more_zeros places count number

-- with room for more numbers the places stay
pub more_room : (keys places : List ℕ) (room : ℕ) → ArePlaces keys places → length places ≤ room
    → ArePlaces keys (take room places ++ replicate (room - length places) 0)
more_room keys places room are enough number =
    rw (take_all room places enough) (more_zeros places (room - length places) number ∙ are number)

-- one more number is placed after the others
pub one_more : (keys places : List ℕ) (key : ℕ) → ArePlaces keys places → list_any (nat_eq key) keys ≡ false
    → key < length places → ArePlaces (keys ++ key ∷ []) (set places key (length keys + 1))
one_more keys places key are new below number = elim (cases_Bool (nat_eq number key)) [
  | inl same ↦
      rw (eqb-true number key same)
      (get_or-set_same places key (length keys + 1) 0 below
      ∙ sym (place_with keys key key new
      ∙ ap (λ b. cond b (length keys + 1) (place_after keys key)) (eq-eqb key key refl)))
  | inr other ↦
      get_or-set_other places key number (length keys + 1) 0 (λ same. true≢false (sym (eq-eqb number key same) ∙ other))
      ∙ are number
      ∙ sym (place_with keys key number new ∙ ap (λ b. cond b (length keys + 1) (place_after keys number)) other)
]

-- a number that comes after the others stands at their length
pub place_of_last : (keys : List ℕ) (key : ℕ) → list_any (nat_eq key) keys ≡ false
    → position_or_len (nat_eq key) (keys ++ key ∷ []) ≡ length keys
place_of_last keys key new =
    position_or_len_push (nat_eq key) keys key
    ∙ last (position_or_len (nat_eq key) keys) (nat_eq key key) (none_at (nat_eq key) keys new) (eq-eqb key key refl)
  where
    last : (place : ℕ) (one : Bool) → place ≡ length keys → one ≡ true
        → cond (eqb place (length keys)) (length keys + cond one 0 1) place ≡ length keys
    last place one same is = rw (same, is, eq-eqb (length keys) (length keys) refl) (omega arith)

-- Ranges of numbers, and lists that stand in others from a place on.
use Rattle.std.proofs.Common.{◌≡◌, ℕ, zero, suc, ◌+◌, ◌-◌, ◌<◌, Bool, cond, List, [], ◌∷◌, ◌++◌, filter, length}
use Rattle.std.proofs.Common.{take, drop, get_or, sym, ap, ◌∙◌, inl, inr, arith, append_assoc, length-append}
use Rattle.std.specs.List.{range_with_len}
use Rattle.std.proofs.lemmas.Bool.{cases_Bool}
use Rattle.std.proofs.lemmas.List.{drop-drop, take_at, drop_at, get_or_append_left, get_or-append-add}
use Rattle.std.proofs.lemmas.List.Elements.{filter-append}
use borrow.Rule.Slice.PartMut.{put_mid}

-- a range goes on where another ends
pub range-append : (first count more : ℕ) →
    range_with_len first (count + more) ≡ range_with_len first count ++ range_with_len (first + count) more
range-append first zero more = (let at : first ≡ first + 0 = omega arith in let n : 0 + more ≡ more = omega arith in
    λ i. range_with_len (at i) (n i))
range-append first (suc count) more =
    let n : suc count + more ≡ suc (count + more) = omega arith in
    let at : first + 1 + count ≡ first + suc count = omega arith in
    ap (range_with_len first) n
    ∙ ap (λ (xs : List ℕ). first ∷ xs) (range-append (first + 1) count more
    ∙ ap (λ (k : ℕ). range_with_len (first + 1) count ++ range_with_len k more) at)

-- one more number at its end
pub range-push : (first count : ℕ) →
    range_with_len first (count + 1) ≡ range_with_len first count ++ (first + count) ∷ []
range-push first count = range-append first count 1

-- and one more of those that a filter keeps
pub filter-range-push : (p : ℕ → Bool) (n : ℕ) → filter p (range_with_len 0 (n + 1))
    ≡ filter p (range_with_len 0 n) ++ cond (p n) (n ∷ []) []
filter-range-push p n = rw (range-push 0 n) (filter-append p (range_with_len 0 n) ((0 + n) ∷ [])
    ∙ ap (λ (k : ℕ). filter p (range_with_len 0 n) ++ cond (p k) (k ∷ []) []) (omega arith))

-- what a filter keeps of a range is below its end
pub filter-range-below : (p : ℕ → Bool) (first n k : ℕ) → k < length (filter p (range_with_len first n)) →
    get_or (filter p (range_with_len first n)) k 0 < first + n
filter-range-below p first zero k h = absurd (omega arith)
filter-range-below p first (suc n) zero h = elim (cases_Bool (p first)) [
  | inl keeps ↦ rw keeps (omega arith)
  | inr drops ↦ rw drops (omega (arith, filter-range-below p (first + 1) n zero (rw drops at h)))
]
filter-range-below p first (suc n) (suc k) h = elim (cases_Bool (p first)) [
  | inl keeps ↦ let within : suc k < suc (length (filter p (range_with_len (first + 1) n))) =
      rw keeps at h in rw keeps (omega (arith, filter-range-below p (first + 1) n k (omega arith)))
  | inr drops ↦ rw drops (omega (arith, filter-range-below p (first + 1) n (suc k) (rw drops at h)))
]

-- ---- lists that stand in others

-- the list has these elements from the place on
abbrev pub HasPart : {X : Type 0} → X → List X → ℕ → List X → Type 0
HasPart d xs place part = (k : ℕ) → k < length part → get_or xs (place + k) d ≡ get_or part k d

module _ {X : Type 0} (d : X) (list : List X) (place : ℕ) (xs ys : List X) (has : HasPart d list place (xs ++ ys)) where
  -- then it has the first of them
  pub has_front : HasPart d list place xs
  has_front k within = has k (omega (arith, within, length-append xs ys)) ∙ get_or_append_left xs ys d k within

  -- and the others after those
  pub has_rest : (after : ℕ) → after ≡ place + length xs → HasPart d list after ys
  has_rest after at k within =
      ap (λ (n : ℕ). get_or list n d) (omega (arith, at))
      ∙ has (length xs + k) (omega (arith, within, length-append xs ys))
      ∙ get_or-append-add xs ys k d

-- the rest of a list without its first element
pub rest_of_drop : {X : Type 0} (n : ℕ) (xs : List X) (x : X) (rest : List X) → x ∷ rest ≡ drop n xs →
    rest ≡ drop (n + 1) xs
rest_of_drop n xs x rest e = ap (λ (ys : List _). drop 1 ys) e ∙ drop-drop 1 n xs

-- ---- lists that are written piece by piece

-- what is written over an old list, up to a place
pub record WrittenTo (old : List ℕ) (at : ℕ) (front out : List ℕ) : Type 0 where
  pub is : out ≡ front ++ drop at old
  pub len : length front ≡ at

-- a piece that is written next
pub piece_written : {old front out : List ℕ} {at : ℕ} → WrittenTo old at front out → (piece : List ℕ) (end : ℕ) →
    end ≡ at + length piece → WrittenTo old end (front ++ piece) (put_mid at (end - at) out piece)
piece_written {old = old} {front = front} {out = out} {at = at} w piece end e =
    let n : ℕ = end - at in
    let before : take at out ≡ front = ap (λ (xs : List ℕ). take at xs) w.is ∙ take_at front (drop at old) at w.len in
    let after : drop at out ≡ drop at old = ap (λ (xs : List ℕ). drop at xs) w.is
    ∙ drop_at front (drop at old) at w.len in
    let last : at + n ≡ end = omega (arith, e) in
    record {
      is = (λ i. before i ++ (piece ++ drop n (after i)))
          ∙ sym (append_assoc front piece (drop n (drop at old)))
          ∙ ap (λ (xs : List ℕ). (front ++ piece) ++ xs) (drop-drop n at old ∙ ap (λ (k : ℕ). drop k old) last);
      len = omega (arith, length-append front piece, w.len, e);
    }

-- The digits of a number and of the next.
use Rattle.std.proofs.Common.{◌≡◌, ℕ, ◌+◌, ◌-◌, ◌/◌, ◌%◌, ◌^◌, ◌<◌, ◌≤◌, List, [], ◌∷◌, ◌++◌, length, take, decimal}
use Rattle.std.proofs.Common.{inl, inr, sym, subst, ap, ◌∙◌, arith, length-take}
use Rattle.std.proofs.Math.ListN.{get_or, set}
use Rattle.std.proofs.lemmas.Bool.{cases_lt}
use Rattle.std.proofs.lemmas.Fmt.{decimal_step, decimal_digit, decimal_nonempty}
use Rattle.std.proofs.lemmas.List.{append_cancel_left, length_push, take_at, take_more, take_more_set}

-- These digits stand before the last, and the next number has them too where the last isn't 9.
pub record Before (n : ℕ) (front : List ℕ) : Type 0 where
  pub now : decimal n ≡ front ++ (48 + n % 10) ∷ []
  pub next : n % 10 < 9 → decimal (n + 1) ≡ front ++ (48 + n % 10 + 1) ∷ []

-- a number of one digit
one_digit : (n : ℕ) → n < 10 → Before n []
one_digit n small = record {
  now = decimal_digit n small ∙ ap (λ (x : ℕ). x ∷ []) (omega arith);
  next = λ below. decimal_digit (n + 1) (omega arith) ∙ ap (λ (x : ℕ). x ∷ []) (omega arith);
}

-- a number of more
more_digits : (n : ℕ) → 10 ≤ n → n + 1 < 2 ^ 64 → Before n (decimal (n / 10))
more_digits n large fits = record {
  now = decimal_step n large (omega (arith, fits));
  next = λ below. decimal_step (n + 1) (omega arith) fits
      ∙ ap (λ k. decimal k ++ (48 + (n + 1) % 10) ∷ []) (omega arith)
      ∙ ap (λ (x : ℕ). decimal (n / 10) ++ x ∷ []) (omega arith);
}

-- each number has some
pub before_last : (n : ℕ) → n + 1 < 2 ^ 64 → (front : List ℕ) × Before n front
before_last n fits = elim (cases_lt n 10) [
  | inl small ↦ ([], one_digit n small)
  | inr large ↦ (decimal (n / 10), more_digits n large fits)
]

-- where digits stand up to a place, those of the next number stand there once one is added to the last
counted_to : (digits : List ℕ) (last n : ℕ) → last < length digits → n + 1 < 2 ^ 64 →
    take (last + 1) digits ≡ decimal n → get_or digits last 0 < 57 →
    take (last + 1) (set digits last (get_or digits last 0 + 1)) ≡ decimal (n + 1)
counted_to digits last n there fits is below =
    let before = before_last n fits in
    let front = before.0 in
    let x : ℕ = get_or digits last 0 in
    let b : ℕ = 48 + n % 10 in
    let both : take last digits ++ x ∷ [] ≡ front ++ b ∷ [] =
    sym (take_more digits last 0 there) ∙ is ∙ before.1.now in
    let size : length (take last digits) ≡ last = omega (arith, there, length-take last digits) in
    let short : length front ≡ last =
    omega (arith, size, ap length both, length_push (take last digits) x, length_push front b) in
    let same : take last digits ≡ front =
    sym (take_at (take last digits) (x ∷ []) last size) ∙ ap (take last) both ∙ take_at front (b ∷ []) last short in
    let byte : x ≡ b =
    ap (λ (l : List ℕ). get_or l 0 0) (append_cancel_left front (x ∷ []) (b ∷ []) (rw same at both)) in
    take_more_set digits last (x + 1) there
    ∙ ap (λ (l : List ℕ). l ++ (x + 1) ∷ []) same
    ∙ ap (λ (y : ℕ). front ++ (y + 1) ∷ []) byte
    ∙ sym (before.1.next (omega (arith, byte, below)))

-- a number has a digit
pub some_digits : (digits : List ℕ) (len n : ℕ) → n < 2 ^ 64 → take len digits ≡ decimal n → 1 ≤ len
some_digits digits len n fits is = omega (arith, ap length is, length-take len digits, decimal_nonempty n fits)

-- Where the digits of a number stand at the front of some bytes, those of the next stand there once one is added to the
-- last, if it isn't 9.
pub counted_up : (digits : List ℕ) (len n : ℕ) → len ≤ length digits → n + 1 < 2 ^ 64 → take len digits ≡ decimal n →
    get_or digits (len - 1) 0 < 57 →
    take len (set digits (len - 1) (get_or digits (len - 1) 0 + 1)) ≡ decimal (n + 1)
counted_up digits len n there fits is below =
    let some = some_digits digits len n (omega (arith, fits)) is in
    let back : len - 1 + 1 ≡ len = omega (arith, some) in
    subst (λ k. take k (set digits (len - 1) (get_or digits (len - 1) 0 + 1)) ≡ decimal (n + 1)) back
    (counted_to digits (len - 1) n (omega (arith, some, there)) fits
    (subst (λ k. take k digits ≡ decimal n) (sym back) is) below)

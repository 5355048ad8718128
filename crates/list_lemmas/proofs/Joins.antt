-- Texts that are parts joined by a separator, and their parts.
use Rattle.std.proofs.Common.{map, ◌*◌, refl, arith, List, sym, ℕ, append_assoc, length, ◌≡◌, ◌<◌, [], ◌∷◌, ◌++◌, suc}
use Rattle.std.proofs.Common.{take, zero, length-append, ◌≤◌, ap, get_or, ◌+◌, ◌∙◌, Bool, true}
use Rattle.std.specs.List.{join_with_byte, AllByRecursion, list_all, onto_first}
use Rattle.std.proofs.lemmas.List.{length-take-le, take_more}
use Rattle.std.proofs.lemmas.List.Folds.{list_all-append}
use Rattle.std.proofs.lemmas.Bool.{and_from}

-- one part more, after others
pub join_with_byte_push : (separator : ℕ) (parts : List (List ℕ)) (part : List ℕ) → 0 < length parts
    → join_with_byte separator (parts ++ part ∷ []) ≡ join_with_byte separator parts ++ separator ∷ part
join_with_byte_push separator [] part some = absurd (omega arith)
join_with_byte_push separator (first ∷ []) part some = refl
join_with_byte_push separator (first ∷ next ∷ parts) part some =
    rw (join_with_byte_push separator (next ∷ parts) part (omega arith))
    (sym (append_assoc first (separator ∷ join_with_byte separator (next ∷ parts)) (separator ∷ part)))

-- the first parts joined are no longer than all of them
pub length-join_with_byte-take : (separator : ℕ) (parts : List (List ℕ)) (n : ℕ)
    → length (join_with_byte separator (take n parts)) ≤ length (join_with_byte separator parts)
length-join_with_byte-take separator parts zero = omega arith
length-join_with_byte-take separator [] (suc n) = omega arith
length-join_with_byte-take separator (first ∷ []) (suc zero) = omega arith
length-join_with_byte-take separator (first ∷ []) (suc (suc n)) = omega arith
length-join_with_byte-take separator (first ∷ next ∷ parts) (suc zero) =
    omega (arith, length-append first (separator ∷ join_with_byte separator (next ∷ parts)))
length-join_with_byte-take separator (first ∷ next ∷ parts) (suc (suc n)) =
    omega (
      arith,
      length-append first (separator ∷ join_with_byte separator (next ∷ parts)),
      length-append first
          (separator ∷ join_with_byte separator (next ∷ take n parts)),
      length-join_with_byte-take separator
          (next ∷ parts) (suc n),
    )

-- the first parts joined, one part on
pub join_with_byte_more : (separator : ℕ) (parts : List (List ℕ)) (n : ℕ) → 0 < n → n < length parts
    → join_with_byte separator (take (n + 1) parts) ≡ join_with_byte separator
    (take n parts) ++ separator ∷ get_or parts n []
join_with_byte_more separator parts n some inside =
    ap (join_with_byte separator) (take_more parts n [] inside)
    ∙ join_with_byte_push separator (take n parts) (get_or parts n []) (omega (arith, length-take-le n parts))

-- the first part alone
pub join_with_byte_first : (separator : ℕ) (parts : List (List ℕ)) → 0 < length parts
    → join_with_byte separator (take 1 parts) ≡ get_or parts 0 []
join_with_byte_first separator [] some = absurd (omega arith)
join_with_byte_first separator (first ∷ parts) some = refl

-- the parts joined have room for the first part
pub first_part_fits : (separator : ℕ) (parts : List (List ℕ)) → 0 < length parts
    → length (get_or parts 0 []) ≤ length (join_with_byte separator parts)
first_part_fits separator parts some =
    omega (arith, ap length (join_with_byte_first separator parts some), length-join_with_byte-take separator parts 1)

-- and for each later one, after those before it and a separator
pub next_part_fits : (separator : ℕ) (parts : List (List ℕ)) (n : ℕ) → 0 < n → n < length parts
    → length (join_with_byte separator (take n parts)) + 1 + length (get_or parts n []) ≤ length
    (join_with_byte separator parts)
next_part_fits separator parts n some inside =
    omega (
      arith,
      ap length (join_with_byte_more separator parts n some inside),
      length-append
          (join_with_byte separator (take n parts))
          (separator ∷ get_or parts n []),
      length-join_with_byte-take separator parts (n + 1),
    )

-- what the separator and the elements of all parts pass, all of them joined pass
pub all-join : (p : ℕ → Bool) (separator : ℕ) (parts : List (List ℕ)) → p separator ≡ true
    → AllByRecursion (λ part. list_all p part ≡ true) parts → list_all p (join_with_byte separator parts) ≡ true
all-join p separator [] here all = refl
all-join p separator (part ∷ []) here all = all.0
all-join p separator (part ∷ next ∷ parts) here all =
    list_all-append p part (separator ∷ join_with_byte separator (next ∷ parts))
    ∙ and_from (list_all p part) _ all.0
    (and_from (p separator) _ here (all-join p separator (next ∷ parts) here all.1))

-- an element put before the first of some parts leaves the last one
pub onto_first-append : (c : ℕ) (parts : List (List ℕ)) (last : List ℕ) → 0 < length parts
    → onto_first c (parts ++ last ∷ []) ≡ onto_first c parts ++ last ∷ []
onto_first-append c [] last some = absurd (omega arith)
onto_first-append c (part ∷ parts) last some = refl

-- parts of a bounded length, joined: a separator stands before each but the first
pub length-join_with_byte-map : (separator k : ℕ) (P : ℕ → Type 0) (write : ℕ → List ℕ) (numbers : List ℕ)
    → ((n : ℕ) → P n → length (write n) ≤ k) → AllByRecursion P numbers → 0 < length numbers
    → length (join_with_byte separator (map write numbers)) + 1 ≤ length numbers * (k + 1)
length-join_with_byte-map separator k P write [] short all some = absurd (omega arith)
length-join_with_byte-map separator k P write (n ∷ []) short all some = omega (arith, short n all.0)
length-join_with_byte-map separator k P write (n ∷ next ∷ numbers) short all some =
    omega (
      arith,
      short n all.0,
      length-append (write n) (separator ∷ join_with_byte separator (map write (next ∷ numbers))),
      length-join_with_byte-map separator k P write (next ∷ numbers) short all.1 (omega arith),
    )

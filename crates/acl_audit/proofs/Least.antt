-- The least key is the first of all keys that passes.
use Rattle.std.proofs.Common.{◌≡◌, ℕ, zero, suc, ◌+◌, List, [], ◌∷◌, ◌++◌, map, Bool, Option, Some}
use Rattle.std.proofs.Common.{None, refl, sym, ap, ◌∙◌, inl, inr, arith}
use Rattle.std.specs.List.{find, flat_map}
use Rattle.std.proofs.lemmas.Bool.{cases_Bool}
use Rattle.std.proofs.lemmas.List.{append-nil}
use Rattle.std.proofs.lemmas.List.Concat.{flat_map-append}
use Rattle.field_defs.specs.Faults.{first_of}
use Rattle.group_states.specs.Found.{all_bytes, prefixes}
use Rattle.acl_audit.specs.Least.{least_from}
use Rattle.acl_audit.specs.Laws.{TheLeastIsTheFirstOfAllKeys}

-- each list of bytes, followed by each byte in turn
abbrev pub longer : List ℕ → List (List ℕ)
longer before = flat_map (λ byte. (before ++ byte ∷ []) ∷ []) all_bytes

-- the lists of so many bytes more
abbrev completed : ℕ → List (List ℕ) → List (List ℕ)
completed zero starts = starts
completed (suc lacking) starts = completed lacking (flat_map longer starts)

-- the first that passes of some answers and of others after them
abbrev pub first_then : {X : Type 0} → Option X → Option X → Option X
first_then None other = other
first_then (Some x) other = Some x

-- the first that passes in two lists is that of the first one, or else that of the second
pub find-then : {X : Type 0} (p : X → Bool) (xs ys : List X) → find p (xs ++ ys) ≡ first_then (find p xs) (find p ys)
find-then p [] ys = refl
find-then p (x ∷ xs) ys = elim (cases_Bool (p x)) [
  | inl e ↦ rw e refl
  | inr e ↦ rw e (find-then p xs ys)
]

-- the lists that two lists of starts are completed to are those of each
completed-append : (n : ℕ) (xs ys : List (List ℕ)) → completed n (xs ++ ys) ≡ completed n xs ++ completed n ys
completed-append zero xs ys = refl
completed-append (suc n) xs ys =
    ap (completed n) (flat_map-append longer xs ys) ∙ completed-append n (flat_map longer xs) (flat_map longer ys)

-- without a start there is nothing that is completed
completed-nil : (n : ℕ) → completed n [] ≡ []
completed-nil zero = refl
completed-nil (suc n) = completed-nil n

-- the first of some answers is the one in front, or else that of the others
first_of-cons : {X : Type 0} (o : Option X) (os : List (Option X)) → first_of (o ∷ os) ≡ first_then o (first_of os)
first_of-cons None os = refl
first_of-cons (Some x) os = refl

module _ (test : List ℕ → Bool) where
  -- the least key that goes on with some byte is the first of all those, if that holds of each byte
  by_bytes : (lacking : ℕ)
      → ((key : List ℕ) → least_from test lacking key ≡ find test (completed lacking (key ∷ [])))
      → (key bytes : List ℕ)
      → first_of (map (λ byte. least_from test lacking (key ++ byte ∷ [])) bytes)
      ≡ find test (completed lacking (flat_map (λ byte. (key ++ byte ∷ []) ∷ []) bytes))
  by_bytes lacking each key [] = ap (find test) (sym (completed-nil lacking))
  by_bytes lacking each key (byte ∷ bytes) =
      first_of-cons (least_from test lacking (key ++ byte ∷ [])) _
      ∙ (λ i. first_then (each (key ++ byte ∷ []) i) (by_bytes lacking each key bytes i))
      ∙ sym (find-then test _ _)
      ∙ ap (find test) (sym (completed-append lacking ((key ++ byte ∷ []) ∷ []) _))

  -- the least key that begins with some bytes is the first of all those
  least_among : (lacking : ℕ) (key : List ℕ) → least_from test lacking key ≡ find test (completed lacking (key ∷ []))
  least_among zero key = refl
  least_among (suc lacking) key =
      by_bytes lacking (least_among lacking) key all_bytes
      ∙ ap (λ l. find test (completed lacking l)) (sym (append-nil (longer key)))

-- all keys, byte by byte from the first or from the last
completed_prefixes : (n m : ℕ) → completed n (prefixes m) ≡ prefixes (n + m)
unfolding prefixes
completed_prefixes zero m = (let e : m ≡ 0 + m = omega arith in ap prefixes e)
completed_prefixes (suc n) m =
    (let e : n + suc m ≡ suc n + m = omega arith in completed_prefixes n (suc m) ∙ ap prefixes e)

-- the least key that passes a test is the first of all keys, ascending, that does
pub least_is_first : TheLeastIsTheFirstOfAllKeys
unfolding prefixes
least_is_first test len =
    (let e : len + 0 ≡ len = omega arith in
    least_among test len [] ∙ ap (find test) (completed_prefixes len 0 ∙ ap prefixes e))

-- Parts of a list that stand one after the other, and what stands after them.
use Rattle.std.proofs.Common.{◌≡◌, ℕ, ◌+◌, ◌<◌, ◌≤◌, List, ◌++◌, length, take, drop, refl, sym, ap, ◌∙◌, arith}
use Rattle.std.proofs.Common.{append_assoc}
use Rattle.std.proofs.Common.{length-append, length-drop}
use Rattle.std.proofs.lemmas.List.{take_at, drop_at, drop-drop}

-- what stands after a part of the bytes
pub after : (at : ℕ) (bytes text rest : List ℕ) → drop at bytes ≡ text ++ rest → drop (at + length text) bytes ≡ rest
after at bytes text rest e =
    sym (drop-drop (length text) at bytes) ∙ ap (drop (length text)) e ∙ drop_at text rest (length text) refl

-- a part that isn't empty lies within the bytes
pub within : (at : ℕ) (bytes text rest : List ℕ) → drop at bytes ≡ text ++ rest → 0 < length text →
    at + length text ≤ length bytes
within at bytes text rest e some =
    let lens : length (drop at bytes) ≡ length text + length rest = ap length e ∙ length-append text rest in
    omega (arith, lens, length-drop at bytes)

-- so does any part that begins within them
pub inside : (at : ℕ) (bytes text rest : List ℕ) → at ≤ length bytes → drop at bytes ≡ text ++ rest →
    at + length text ≤ length bytes
inside at bytes text rest begins e =
    let lens : length (drop at bytes) ≡ length text + length rest = ap length e ∙ length-append text rest in
    omega (arith, lens, length-drop at bytes)

-- the rest of the bytes from a place on, which isn't beyond their end
pub record RestAt (bytes : List ℕ) (at : ℕ) (rest : List ℕ) : Type 0 where
  pub text : drop at bytes ≡ rest
  pub within : at ≤ length bytes

-- two parts, one after the other
pub joined : {A : Type 0} (xs one other more rest : List A) → xs ≡ one ++ more → more ≡ other ++ rest →
    xs ≡ (one ++ other) ++ rest
joined xs one other more rest e f = e ∙ ap (λ ys. one ++ ys) f ∙ sym (append_assoc one other rest)

-- the part that stands after the first elements of a list
pub part_of : (p n : ℕ) (first part rest : List ℕ) → p ≡ length first → n ≡ length part →
    take n (drop p (first ++ (part ++ rest))) ≡ part
part_of p n first part rest e f =
    ap (take n) (drop_at first (part ++ rest) p (sym e)) ∙ take_at part rest n (sym f)

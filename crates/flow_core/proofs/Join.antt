-- The greater of each two words of two rows, as lanes are compared and chosen.
use Rattle.std.proofs.Common.{◌≡◌, ℕ, ◌-◌, ◌^◌, List, sym, ap, ◌∙◌, arith, length, get_or, map, cond, Bool, false}
use Rattle.std.proofs.Common.{inl, inr, refl, [], ◌∷◌}
use Rattle.std.proofs.lemmas.Nat.{le_or_l, le_or_r}
use Rattle.std.proofs.lemmas.List.{get_or-replicate}
use Rattle.std.specs.Prelude.{max, replicate}
use Rattle.std.specs.Int.Bits.{bit_or}
use Rattle.std.specs.Simd.Lanes.{zip2, sel_l, top, fold_l}
use Rattle.std.proofs.lemmas.Bool.{cases_Bool, ltb-true, ltb-false}
use Rattle.std.proofs.lemmas.List.FromFn.{fill_by_all}
use Rattle.std.proofs.lemmas.Simd.{tops_compared, length-sel_l, get_or-sel_l, get_or-zip2, length-zip2}
use Rattle.std.specs.Int.{w64}
use Rattle.std.proofs.Common.{ltb}
use Rattle.table_sizes.specs.Sizes.{row_len}
use Rattle.flow_core.specs.Rows.{joined_row, zero_row}

-- the other number, if the first is below it, is the greater of both
chosen : (a b : ℕ) → cond (ltb a b) b a ≡ max a b
chosen a b = elim (cases_Bool (ltb a b)) [
  | inl less ↦ rw less (omega (arith, ltb-true a b less))
  | inr not_less ↦ rw not_less (omega (arith, ltb-false a b not_less))
]

-- the words that are chosen by comparing two rows are those of the rows joined
pub greater_words : (row other : List ℕ) → length row ≡ 16 → length other ≡ 16 →
    sel_l (map (top 63) (zip2 (λ a b. cond (ltb a b) (2 ^ 64 - 1) 0) row other)) other row ≡ joined_row row other
unfolding joined_row
greater_words row other long as_long =
    let less : List Bool = zip2 ltb row other in
    let count : length less ≡ 16 = length-zip2 ltb row other (long ∙ sym as_long) ∙ long in
    ap (λ (lanes : List Bool). sel_l lanes other row) (tops_compared w64 ltb row other)
    ∙ fill_by_all (λ c. max (get_or row c 0) (get_or other c 0)) (sel_l less other row) row_len 0
    (length-sel_l less other row (count ∙ sym as_long) (count ∙ sym long) ∙ count)
    (λ k below.
    get_or-sel_l less other row k 0 (omega arith) (omega arith) (omega arith)
    ∙ ap (λ (lane : Bool). cond lane (get_or other k 0) (get_or row k 0))
    (get_or-zip2 ltb row other k 0 0 false (omega arith) (omega arith))
    ∙ chosen (get_or row k 0) (get_or other k 0))

-- a row that is joined into one of zeros
pub joined_zero : (other : List ℕ) → length other ≡ 16 → other ≡ joined_row zero_row other
unfolding joined_row zero_row
joined_zero other long =
    fill_by_all (λ c. max (get_or zero_row c 0) (get_or other c 0)) other row_len 0 long
    (λ k below. omega (arith, get_or-replicate {A = ℕ} row_len k 0 0 below))

-- numbers whose bits together are none are zeros
none_set : (a : ℕ) (xs : List ℕ) → fold_l bit_or a xs ≡ 0 → (a ≡ 0) × (xs ≡ replicate (length xs) 0)
none_set a [] none = (none, refl)
none_set a (x ∷ xs) none =
    let (both, rest) = none_set (bit_or a x) xs none in
    let first : x ≡ 0 = omega (arith, le_or_r a x, both) in
    (omega (arith, le_or_l a x, both), λ i. first i ∷ rest i)

-- and a row of such is one of zeros
pub zeros_of : (row : List ℕ) → length row ≡ 16 → fold_l bit_or 0 row ≡ 0 → row ≡ zero_row
unfolding zero_row
zeros_of row long none = (none_set 0 row none).1 ∙ ap (λ (n : ℕ). replicate n 0) long

-- The blocks that a span takes let its numbers through, and no others.
use Rattle.std.proofs.Common.{◌≡◌, ℕ, zero, suc, ◌+◌, ◌*◌, ◌/◌, ◌^◌, ◌≤◌, ◌<◌, Bool, true, false, ◌&&◌, ◌||◌}
use Rattle.std.proofs.Common.{refl, ap, ◌∙◌, inl, inr, arith}
use Rattle.std.proofs.Math.Dec.{leb, ltb, eqb}
use Rattle.std.proofs.Math.Nat.{two-pow-succ, div-lt_iff_lt-mul, mul-add, add-mul, le-div_iff_mul-le}
use Rattle.std.specs.List.{list_any}
use Rattle.std.proofs.lemmas.Bool.{cases_Bool}
use Rattle.std.proofs.lemmas.Bool.Decides.{leb_tells, eqb_tells}
use Rattle.std.proofs.lemmas.List.Folds.{list_any-append}
use Rattle.field_defs.specs.declared.field.FieldValue.{FieldValue}
use Rattle.list_chains.specs.declared.span.Span.{Span}
use Rattle.list_chains.specs.Spans.{in_span}
use Rattle.list_chains.specs.Values.{blocks_of}

-- the numbers of a block
abbrev pub in_block : ℕ → ℕ → ℕ → Bool
in_block count base x = leb base x && ltb x (base + count)

-- a block of one number of the span
one_number : (span : Span) (base x : ℕ) → in_span span base ≡ true →
    (in_block 1 base x || false) ≡ (in_block 1 base x && in_span span x)
one_number span base x e = grind (
  arith,
  leb_tells base x,
  leb_tells (suc x) (base + 1),
  leb_tells span.low base,
  leb_tells base span.high,
  leb_tells span.low x,
  leb_tells x span.high,
  e,
)

-- a number that isn't in the span
no_number : (span : Span) (base x : ℕ) → in_span span base ≡ false →
    false ≡ (in_block 1 base x && in_span span x)
no_number span base x e = grind (
  arith,
  leb_tells base x,
  leb_tells (suc x) (base + 1),
  leb_tells span.low base,
  leb_tells base span.high,
  leb_tells span.low x,
  leb_tells x span.high,
  e,
)

-- a block within the span
whole_block : (span : Span) (count base x : ℕ) →
    (leb span.low base && leb (base + count) (span.high + 1)) ≡ true →
    (in_block count base x || false) ≡ (in_block count base x && in_span span x)
whole_block span count base x e = grind (
  arith,
  leb_tells base x,
  leb_tells (suc x) (base + count),
  leb_tells span.low base,
  leb_tells (base + count) (span.high + 1),
  leb_tells span.low x,
  leb_tells x span.high,
  e,
)

-- a block beside the span
no_block : (span : Span) (count base x : ℕ) → (ltb span.high base || leb (base + count) span.low) ≡ true →
    false ≡ (in_block count base x && in_span span x)
no_block span count base x e = grind (
  arith,
  leb_tells base x,
  leb_tells (suc x) (base + count),
  leb_tells (suc span.high) base,
  leb_tells (base + count) span.low,
  leb_tells span.low x,
  leb_tells x span.high,
  e,
)

-- two halves of a block
two_blocks : (both count base x : ℕ) (rest : Bool) → both ≡ count + count →
    ((in_block count base x && rest) || (in_block count (base + count) x && rest)) ≡ (in_block both base x && rest)
two_blocks both count base x rest e = grind (
  arith,
  leb_tells base x,
  leb_tells (suc x) (base + count),
  leb_tells (base + count) x,
  leb_tells (suc x) (base + count + count),
  leb_tells (suc x) (base + both),
  e,
)

-- where the first half of a block begins
first_half : (p both q base : ℕ) → both ≡ p + p → base ≡ q * both → base ≡ (q + q) * p
first_half p both q base e multiple = multiple ∙ rw (e, mul-add q p p, add-mul q q p) refl

-- and the second one
second_half : (p both q base : ℕ) → both ≡ p + p → base ≡ q * both → base + p ≡ (q + q + 1) * p
second_half p both q base e multiple =
    ap (λ b. b + p) (first_half p both q base e multiple) ∙ rw (add-mul (q + q) 1 p) (omega arith)

module _ (value : ℕ → ℕ → FieldValue) (test : FieldValue → Bool) (total x : ℕ)
    (blocks : (free q : ℕ) → free ≤ total → q * 2 ^ free + 2 ^ free ≤ 2 ^ total →
    test (value free (q * 2 ^ free)) ≡ in_block (2 ^ free) (q * 2 ^ free) x) where
  -- the blocks of any value that lets its block through
  pub blocks_cover : (free base q : ℕ) → free ≤ total → base ≡ q * 2 ^ free → base + 2 ^ free ≤ 2 ^ total →
      (span : Span) →
      list_any test (blocks_of value free base span) ≡ (in_block (2 ^ free) base x && in_span span x)
  blocks_cover zero base q within multiple fits span =
      let here : test (value 0 base) ≡ in_block 1 base x =
      rw multiple (blocks 0 q within (rw (← multiple) fits)) in
      elim (cases_Bool (in_span span base)) [
        | inl e ↦ rw (e, here) (one_number span base x e)
        | inr e ↦ rw e (no_number span base x e)
      ]
  blocks_cover (suc free) base q within multiple fits span =
      let here : test (value (suc free) base) ≡ in_block (2 ^ suc free) base x =
      rw multiple (blocks (suc free) q within (rw (← multiple) fits)) in
      let twice = two-pow-succ free in
      elim (cases_Bool (leb span.low base && leb (base + 2 ^ suc free) (span.high + 1))) [
        | inl e ↦ rw (e, here) (whole_block span (2 ^ suc free) base x e)
        | inr e ↦ elim (cases_Bool (ltb span.high base || leb (base + 2 ^ suc free) span.low)) [
          | inl f ↦ rw (e, f) (no_block span (2 ^ suc free) base x f)
          | inr f ↦ rw (e, f) (
              list_any-append test (blocks_of value free base span) (blocks_of value free (base + 2 ^ free) span)
              ∙ rw (
                blocks_cover free base (q + q) (omega (arith, within))
                    (first_half (2 ^ free) (2 ^ suc free) q base twice multiple)
                    (omega (arith, fits, twice)) span,
                blocks_cover free (base + 2 ^ free) (q + q + 1) (omega (arith, within))
                    (second_half (2 ^ free) (2 ^ suc free) q base twice multiple)
                    (omega (arith, fits, twice)) span,
              )
              (two_blocks (2 ^ suc free) (2 ^ free) base x (in_span span x) twice))
        ]
      ]

-- a block by division: the numbers with a quotient
pub same_quotient : (x q count : ℕ) → 0 < count → eqb (x / count) q ≡ in_block count (q * count) x
same_quotient x q count some =
    let below = div-lt_iff_lt-mul {k = count} {x = x} {y = q + 1} some in
    let above = le-div_iff_mul-le {k = count} {x = q} {y = x} some in
    let next : (q + 1) * count ≡ q * count + count = rw (add-mul q 1 count) (omega arith) in
    grind (
      arith,
      below,
      above,
      next,
      eqb_tells (x / count) q,
      leb_tells (q * count) x,
      leb_tells (suc x) (q * count + count),
    )

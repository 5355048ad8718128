-- The place that a lane finds by the halves of its word.
use Rattle.std.proofs.Common.{◌≡◌, ℕ, zero, suc, ◌+◌, ◌-◌, ◌*◌, ◌/◌, ◌%◌, ◌<◌, ◌^◌, ltb, eqb, cond, true}
use Rattle.std.proofs.Common.{sym, ◌∙◌, arith, [], ◌∷◌}
use Rattle.std.proofs.lemmas.Nat.{and_mask}
use Rattle.std.proofs.lemmas.Bool.Decides.{nat_tests}
use Rattle.std.specs.Prelude.{nat_lt, count_by, bit_and, min, ◌==◌, ◌||◌, ◌&&◌, if◌then◌else◌}
use Rattle.flat_table.specs.Word.{boundaries_of, full, index_of, is_node, kind_of, next_place, offset_of, quad, single}

-- a byte, less another, and no more than a third
pub excess_is : (b d m : ℕ) → b < 256 → d < 256 → m < 256 →
    cond (ltb ((cond (ltb b d) d b + (256 - d)) % 256) m) ((cond (ltb b d) d b + (256 - d)) % 256) m ≡ min (b - d) m
excess_is b d m small few most = grind (arith, nat_tests)

-- ---- what the boundaries count

-- how much each of them counts at most, by the kind of the word
abbrev pub most_by : ℕ → ℕ
most_by kind = if kind == full then 255 else (if kind == quad then 0x01010101 else 0)

-- the two kinds that count are never one
pub most_joined : (kind : ℕ) → (cond (eqb kind 3) 16843009 0 + cond (eqb kind 0) 255 0) % 2 ^ 32 ≡ most_by kind
most_joined zero = omega arith
most_joined (suc zero) = omega arith
most_joined (suc (suc zero)) = omega arith
most_joined (suc (suc (suc zero))) = omega arith
most_joined (suc (suc (suc (suc kind)))) = grind (arith, nat_tests)

-- what the boundary counts, of a word whose high half is known
abbrev pub counts : ℕ → ℕ → ℕ → ℕ → ℕ
counts kind high byte n = min (byte - high / 256 ^ n % 256) (most_by kind / 256 ^ n % 256)

-- what all of them count
abbrev pub counted : ℕ → ℕ → ℕ → ℕ
counted kind high byte = counts kind high byte 0 + counts kind high byte 1 + counts kind high byte 2
    + counts kind high byte 3

-- how many of them are below the byte
abbrev below : ℕ → ℕ → ℕ
below high byte = cond (nat_lt (high % 256) byte) 1 0 + cond (nat_lt (high / 256 % 256) byte) 1 0
    + cond (nat_lt (high / 65536 % 256) byte) 1 0 + cond (nat_lt (high / 16777216 % 256) byte) 1 0

-- how far a byte is above a boundary, and at most 1, says whether it is above
at_most_one : (byte boundary : ℕ) → min (byte - boundary) 1 ≡ cond (nat_lt boundary byte) 1 0
at_most_one byte boundary = grind (arith, nat_tests)

-- what is at most a byte is a byte
counts_small : (over most : ℕ) → min over (most % 256) < 256
counts_small over most = grind (arith, nat_tests)

-- by kind, where a node without runs has no boundaries
counted_by_kind : (kind high byte : ℕ) → byte < 256 →
    (kind == quad || ((kind == full || kind == single) && high == 0)) ≡ true →
    counted kind high byte ≡ (if kind == full then byte else (if kind == quad then below high byte else 0))
counted_by_kind zero high byte small node =
    let none : high ≡ 0 = grind (arith, nat_tests, node) in
    rw none (omega (arith, small))
counted_by_kind (suc zero) high byte small node = omega arith
counted_by_kind (suc (suc zero)) high byte small node = absurd (grind (arith, nat_tests, node))
counted_by_kind (suc (suc (suc zero))) high byte small node =
    omega (
      arith,
      at_most_one byte (high % 256),
      at_most_one byte (high / 256 % 256),
      at_most_one byte (high / 65536 % 256),
      at_most_one byte (high / 16777216 % 256),
    )
counted_by_kind (suc (suc (suc (suc kind)))) high byte small node = absurd (grind (arith, nat_tests, node))

-- the boundaries of the word that has these halves
boundaries_are : (low high byte : ℕ) → low < 2 ^ 32 →
    count_by (λ boundary. nat_lt boundary byte) (boundaries_of (low + 2 ^ 32 * high)) ≡ below high byte
boundaries_are low high byte small =
    let w : ℕ = low + 2 ^ 32 * high in
    let first : w / 2 ^ 32 % 256 ≡ high % 256 = omega (arith, small) in
    let second : w / 2 ^ 40 % 256 ≡ high / 256 % 256 = omega (arith, small) in
    let third : w / 2 ^ 48 % 256 ≡ high / 65536 % 256 = omega (arith, small) in
    let fourth : w / 2 ^ 56 % 256 ≡ high / 16777216 % 256 = omega (arith, small) in
    (λ i. count_by (λ boundary. nat_lt boundary byte) (first i ∷ second i ∷ third i ∷ fourth i ∷ []))
    ∙ omega arith

-- the place that a lane finds is the one that the word leads to
pub place_is : (low high byte sum : ℕ) → low < 2 ^ 32 → byte < 256 → is_node (low + 2 ^ 32 * high) ≡ true →
    sum ≡ counted (low / 2 ^ 29) high byte →
    (bit_and low 536870911 + sum) % 2 ^ 32 ≡ next_place (low + 2 ^ 32 * high) byte
place_is low high byte sum small few node sum_is =
    let w : ℕ = low + 2 ^ 32 * high in
    let kind : kind_of w ≡ low / 2 ^ 29 = omega (arith, small) in
    let high_is : w / 2 ^ 32 ≡ high = omega (arith, small) in
    let by_halves : (low / 2 ^ 29 == quad || ((low / 2 ^ 29 == full || low / 2 ^ 29 == single) && high == 0)) ≡ true =
    (λ i. (sym kind i == quad || ((sym kind i == full || sym kind i == single) && sym high_is i == 0))) ∙ node in
    let offset : sum ≡ offset_of w byte =
    sum_is ∙ counted_by_kind (low / 2 ^ 29) high byte few by_halves
    ∙ (λ i. if sym kind i == full then byte else (if sym kind i == quad then sym (boundaries_are low high byte small) i
    else 0)) in
    let index : bit_and low 536870911 ≡ index_of w = and_mask low 29 ∙ omega arith in
    omega (
      arith,
      index,
      offset,
      sum_is,
      counts_small (byte - high / 256 ^ 0 % 256) (most_by (low / 2 ^ 29) / 256 ^ 0),
      counts_small (byte - high / 256 ^ 1 % 256) (most_by (low / 2 ^ 29) / 256 ^ 1),
      counts_small (byte - high / 256 ^ 2 % 256) (most_by (low / 2 ^ 29) / 256 ^ 2),
      counts_small (byte - high / 256 ^ 3 % 256) (most_by (low / 2 ^ 29) / 256 ^ 3),
    )

-- The rest after one more byte is the step of the rest: of an interval by its parts, of a bitmask by blocks of bits.
use Rattle.std.proofs.Common.{◌≡◌, ℕ, ◌+◌, ◌-◌, ◌*◌, ◌<◌, ◌≤◌, min, max, Some, None, sym, ◌∙◌, inl, inr, arith, zero}
use Rattle.std.proofs.Common.{suc, ◌/◌, ◌^◌, ◌&&◌, cond, leb, eqb, Option, refl, ap, List, [], ◌∷◌, length}
use Rattle.std.proofs.Common.{fold}
use Rattle.std.proofs.Math.Nat.{mul-le-mul_right, pow-suc, mul_comm, div-one, add-zero}
use Rattle.std.proofs.lemmas.Bool.{cases_lt, le-leb, lt-leb, cond-true, cond-false, eq-eqb, ne_eqb, cases_Bool, lt-ltb}
use Rattle.node_expand.specs.Rest.{Interval, part, Rest, Live, mask_low, mask_high, live_where, open_rest, rest_after}
use Rattle.node_expand.specs.Rest.{rest_step, rest_through}
use Rattle.std.specs.Option.{option_and_then, option_map}
use Rattle.std.proofs.lemmas.Nat.{pow_pos}
use Rattle.field_defs.specs.declared.field.FieldValue.{FieldValue}
use Rattle.field_defs.specs.declared.field.FieldValue.TheVariants.{Mask, Range, Bitmask}
use Rattle.field_defs.specs.FieldMatch.{field_match}
use Rattle.list_lemmas.proofs.Powers.{bytes_above_0}
use Rattle.list_lemmas.proofs.Numbers.{quotient_of_block}
use Rattle.std.specs.List.{AllByRecursion}
use Rattle.std.proofs.lemmas.List.Elements.{recursion_from_All}
use Rattle.byte_numbers.specs.Number.{number_of}
use Rattle.node_expand.specs.Laws.{RestsGoStepByStep}
use Rattle.list_lemmas.proofs.Agreeing.{agrees, agree_in_two}
use Rattle.std.proofs.lemmas.Bool.Decides.{nat_tests}

-- no number of the interval lies in the block
pub part_none : (low high count prefix : ℕ) → min high (prefix * count + (count - 1)) < max low (prefix * count) →
    part low high count prefix ≡ None
unfolding part
part_none low high count prefix h = cond-false _ _ _ (lt-leb _ _ h)

-- some do
pub part_some : (low high count prefix : ℕ) → max low (prefix * count) ≤ min high (prefix * count + (count - 1)) →
    part low high count prefix ≡ Some (Interval (max low (prefix * count) - prefix * count)
    (min high (prefix * count + (count - 1)) - prefix * count))
unfolding part
part_some low high count prefix h = cond-true _ _ _ (le-leb _ _ h)

-- The part of a smaller block is the part of the part of a larger one: they lie alike, a first number of the larger
-- block apart.
part_inside : (low high count prefix byte : ℕ) → 0 < count → byte < 256 →
    max low (prefix * (256 * count)) ≤ min high (prefix * (256 * count) + (256 * count - 1)) →
    part low high count (prefix * 256 + byte)
    ≡ part (max low (prefix * (256 * count)) - prefix * (256 * count))
    (min high (prefix * (256 * count) + (256 * count - 1)) - prefix * (256 * count)) count byte
unfolding part
part_inside low high count prefix byte positive below met =
    let room : byte * count + count ≤ 256 * count = omega (arith, mul-le-mul_right count below) in
    grind (arith, nat_tests)

-- with no byte left an interval says no more than that it isn't empty
abbrev pub closing : ℕ → Option Rest → Option Rest
closing zero part = option_map (λ _. Live) part
closing (suc left) part = part

-- a whole field is live where its number matches
pub rest_whole : (value : FieldValue) (size number : ℕ) →
    rest_after value size size number ≡ live_where (field_match value size number)
unfolding rest_after
rest_whole value size number = cond-true _ _ _ (eq-eqb size size refl)

-- a field with bytes left has an open rest
pub rest_open : (value : FieldValue) (size place prefix : ℕ) → place < size →
    rest_after value size place prefix ≡ open_rest value size (256 ^ (size - place)) prefix
unfolding rest_after
rest_open value size place prefix begun = cond-false _ _ _ (ne_eqb place size (λ e. omega arith))

-- a number alone is part of an interval where it lies in it
within_part : (low high number : ℕ) → live_where (leb low number && leb number high)
    ≡ option_map (λ _. Live) (part low high 1 number)
unfolding part
within_part low high number = grind (arith, nat_tests)

-- the rest of a range is the part of it that begins with the prefix
pub range_rest : (low high size place prefix left : ℕ) → size ≡ place + left →
    rest_after (Range low high) size place prefix ≡ closing left (part low high (256 ^ left) prefix)
range_rest low high size place prefix zero e =
    let whole : place ≡ size = omega arith in
    rw whole (rest_whole (Range low high) size prefix ∙ within_part low high prefix)
range_rest low high size place prefix (suc left) e =
    let after : size - place ≡ suc left = omega arith in
    rest_open (Range low high) size place prefix (omega arith) ∙ rw after

-- where no part is left there is no rest
pub closing-none : (left : ℕ) → closing left None ≡ None
closing-none zero = refl
closing-none (suc left) = refl

-- a range goes step by step
range_step : (low high size place prefix byte : ℕ) → place < size → byte < 256 →
    rest_after (Range low high) size (place + 1) (prefix * 256 + byte)
    ≡ option_and_then (λ before. rest_step (Range low high) size place before byte)
    (rest_after (Range low high) size place prefix)
unfolding rest_step
range_step low high size place prefix byte begun below =
    let left : ℕ = size - (place + 1) in
    let count : ℕ = 256 ^ left in
    let block : 256 ^ suc left ≡ 256 * count = pow-suc 256 left ∙ mul_comm count 256 in
    rw (
      range_rest low high size (place + 1) (prefix * 256 + byte) left (omega arith),
      range_rest low high size place prefix (suc left) (omega arith),
      block,
    )
    (elim (cases_lt (min high (prefix * (256 * count) + (256 * count - 1))) (max low (prefix * (256 * count)))) [
      | inl apart ↦ rw (
        part_none low high (256 * count) prefix apart,
        part_none low high count (prefix * 256 + byte)
            (omega (arith, mul-le-mul_right count below, bytes_above_0 left)),
      ) (closing-none left)
      | inr met ↦ rw (
        part_some low high (256 * count) prefix met,
        part_inside low high count prefix byte (bytes_above_0 left) below met,
      ) (sym (range_rest _ _ (size - place) 1 byte left (omega arith)))
    ])

-- what a mask lets through is a range
pub mask_as_range : (value bits size number : ℕ) →
    field_match (Mask value bits) size number
    ≡ field_match (Range (mask_low value bits size) (mask_high value bits size)) size number
unfolding mask_low mask_high
mask_as_range value bits size number = quotient_of_block number (value / 2 ^ (8 * size - bits)) (2 ^ (8 * size - bits))
    (pow_pos (8 * size - bits))

-- so is each rest of a mask that of the range
pub rest_as_range : (value bits size place prefix : ℕ) →
    rest_after (Mask value bits) size place prefix
    ≡ rest_after (Range (mask_low value bits size) (mask_high value bits size)) size place prefix
unfolding rest_after
rest_as_range value bits size place prefix =
    ap (λ whole. cond (eqb place size) (live_where whole)
    (open_rest (Mask value bits) size (256 ^ (size - place)) prefix)) (mask_as_range value bits size prefix)

-- a step from an interval asks no value, and a mask has no other rest to step from
pub step_as_range : (value bits low high size place byte : ℕ) (before : Rest) →
    rest_step (Range low high) size place before byte ≡ rest_step (Mask value bits) size place before byte
unfolding rest_step
step_as_range value bits low high size place byte (Interval first last) = refl
step_as_range value bits low high size place byte Live = refl

-- the rest of a bitmask, a whole field among them
pub bitmask_rest : (value mask size place prefix left : ℕ) → size ≡ place + left →
    rest_after (Bitmask value mask) size place prefix ≡ live_where (agrees value mask (256 ^ left) prefix)
bitmask_rest value mask size place prefix zero e =
    let whole : place ≡ size = omega arith in
    rw (whole, div-one mask, div-one value) (rest_whole (Bitmask value mask) size prefix)
bitmask_rest value mask size place prefix (suc left) e =
    let after : size - place ≡ suc left = omega arith in
    rest_open (Bitmask value mask) size place prefix (omega arith) ∙ rw after refl

-- a bitmask goes step by step
bitmask_step : (value mask size place prefix byte : ℕ) → place < size → byte < 256 →
    rest_after (Bitmask value mask) size (place + 1) (prefix * 256 + byte)
    ≡ option_and_then (λ before. rest_step (Bitmask value mask) size place before byte)
    (rest_after (Bitmask value mask) size place prefix)
unfolding rest_step
bitmask_step value mask size place prefix byte begun below =
    let left : ℕ = size - (place + 1) in
    let count : ℕ = 256 ^ left in
    let block : 256 ^ suc left ≡ 256 * count = pow-suc 256 left ∙ mul_comm count 256 in
    let after : size - place ≡ suc left = omega arith in
    rw (
      bitmask_rest value mask size (place + 1) (prefix * 256 + byte) left (omega arith),
      bitmask_rest value mask size place prefix (suc left) (omega arith),
      block,
      agree_in_two value mask count prefix byte (bytes_above_0 left) below,
    )
    (elim (cases_Bool (agrees value mask (256 * count) prefix)) [
      | inl agree ↦ rw (agree, lt-ltb place size begun, after, block)
          (sym (bitmask_rest _ _ (suc left) 1 byte left (omega arith)))
      | inr differ ↦ rw differ refl
    ])

-- one step, for each kind
pub rest_steps : (value : FieldValue) (size place prefix byte : ℕ) → place < size → byte < 256 →
    rest_after value size (place + 1) (prefix * 256 + byte)
    ≡ option_and_then (λ before. rest_step value size place before byte) (rest_after value size place prefix)
rest_steps (Mask value bits) size place prefix byte begun below =
    let low = mask_low value bits size in
    let high = mask_high value bits size in
    rw (rest_as_range value bits size (place + 1) (prefix * 256 + byte), rest_as_range value bits size place prefix)
    (range_step low high size place prefix byte begun below
    ∙ λ i. option_and_then (λ r. step_as_range value bits low high size place byte r i)
    (rest_after (Range low high) size place prefix))
rest_steps (Range low high) size place prefix byte begun below = range_step low high size place prefix byte begun below
rest_steps (Bitmask value mask) size place prefix byte begun below =
    bitmask_step value mask size place prefix byte begun below

-- any number of steps, as long as bytes are left
through : (value : FieldValue) (size place prefix : ℕ) (bytes : List ℕ) → place + length bytes ≤ size →
    AllByRecursion (λ byte. byte < 256) bytes →
    rest_through value size place (rest_after value size place prefix) bytes
    ≡ rest_after value size (place + length bytes) (fold (λ n b. n * 256 + b) prefix bytes)
unfolding rest_through
through value size place prefix [] within below = rw add-zero refl
through value size place prefix (byte ∷ bytes) within below =
    let next : place + length (byte ∷ bytes) ≡ place + 1 + length bytes = omega arith in
    rw (next, sym (rest_steps value size place prefix byte (omega arith) below.0))
    (through value size (place + 1) (prefix * 256 + byte) bytes (omega arith) below.1)

-- of which a field has as many as bytes
pub rests_step : RestsGoStepByStep
rests_step = record {
  step = rest_steps;
  whole = λ value size bytes is below.
      let end : 0 + length bytes ≡ size = omega arith in
      through value size 0 0 bytes (omega arith) (recursion_from_All _ bytes below)
      ∙ rw end (rest_whole value size (number_of bytes));
}

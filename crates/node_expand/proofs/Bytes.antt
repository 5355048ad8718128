-- What the bytes of an interval's ends at one place say of the rest after a byte there.
use Rattle.std.proofs.lemmas.Bool.Decides.{nat_tests}
use Rattle.std.proofs.Common.{◌≡◌, ℕ, zero, suc, ◌+◌, ◌-◌, ◌*◌, ◌/◌, ◌%◌, ◌^◌, ◌<◌, ◌≤◌, Bool, true, false}
use Rattle.std.proofs.Common.{if◌then◌else◌, ltb, Some, None, refl, sym, ◌∙◌, ap, arith}
use Rattle.std.specs.Prelude.{bit_and}
use Rattle.std.specs.Option.{option_map}
use Rattle.std.proofs.Math.Nat.{pow-suc, mul_comm, le_trans, div-mul-le_self, mul-le-mul_right}
use Rattle.std.proofs.lemmas.Nat.{div-add-mod', mod_below, le-div}
use Rattle.std.proofs.lemmas.Bool.{lt-ltb}
use Rattle.list_lemmas.proofs.Powers.{shift_count, inner_low, inner_high, bytes_above_0}
use Rattle.field_defs.specs.declared.field.FieldValue.{FieldValue}
use Rattle.field_defs.specs.declared.field.FieldValue.TheVariants.{Mask, Range, Bitmask}
use Rattle.node_expand.specs.declared.allowed.Allowed.{Allowed}
use Rattle.node_expand.specs.declared.allowed.Allowed.TheVariants.{Between, Agreeing}
use Rattle.node_expand.specs.declared.edge.Edge.{Edge}
use Rattle.node_expand.specs.declared.edge.Edge.TheVariants.{Free}
use Rattle.node_expand.specs.Rest.{part, mask_low, mask_high, live_where, rest_after, rest_step}
use Rattle.node_expand.specs.Edges.{edge_of, has_low, has_high, edge_step, StandsBefore, is_bitmask}
use Rattle.node_expand.specs.Allowed.{answer_of, between, IsFilled, IsBetween}
use Rattle.node_expand.proofs.Steps.{bitmask_rest, closing, range_rest}
use Rattle.node_expand.proofs.Completions.{rests_hold_completions}
use Rattle.node_expand.proofs.EdgeRests.{rest_of_open, edge_says_rest, as_its_range}
use Rattle.list_lemmas.proofs.Numbers.{end_of_end, byte_of_end}
use Rattle.list_lemmas.proofs.Agreeing.{low_in_block, high_in_block}

-- the edge after a byte, by the quotients and remainders of the ends
edge_of_part : (low high count byte : ℕ) → low ≤ high → 0 < count →
    option_map (edge_of count) (part low high count byte)
    ≡ answer_of (Between (low / count) (high / count) (ltb 0 (low % count)) (ltb (high % count) (count - 1))) byte
unfolding answer_of edge_of part
edge_of_part low high count byte filled positive =
    let low_split = div-add-mod' low count in
    let high_split = div-add-mod' high count in
    let low_end : low % count < count = mod_below low count positive in
    let high_end : high % count < count = mod_below high count positive in
    let below = λ (h : byte < low / count). mul-le-mul_right count h in
    let reached = λ (h : low / count ≤ byte). mul-le-mul_right count h in
    let within = λ (h : byte ≤ high / count). mul-le-mul_right count h in
    let above = λ (h : high / count < byte). mul-le-mul_right count h in
    let lower = λ (h : low / count ≤ byte). low_in_block low count byte h positive in
    let upper = λ (h : byte ≤ high / count). high_in_block high count byte h positive in
    grind (arith, nat_tests)

-- with no byte left the form says no more than that there is a rest
edge_closing : (left low high byte : ℕ) → option_map (edge_of (256 ^ left))
    (closing left (part low high (256 ^ left) byte))
    ≡ option_map (edge_of (256 ^ left)) (part low high (256 ^ left) byte)
unfolding edge_of part
edge_closing zero low high byte = grind (arith, nat_tests)
edge_closing (suc left) low high byte = refl

-- the lower and the upper end that an edge leaves of numbers from low to high
abbrev low_of : Edge → ℕ → ℕ → ℕ
low_of edge low count = if has_low edge then low % count else 0

-- the upper end that an edge leaves of numbers from low to high
abbrev high_of : Edge → ℕ → ℕ → ℕ
high_of edge high count = if has_high edge then high % count else count - 1

-- the bytes of the ends, with the byte at the place and `left` more bytes to be read
module _ (low high left : ℕ) (edge : Edge) (lawful : left < 8)
    (filled : low_of edge low (256 ^ suc left) ≤ high_of edge high (256 ^ suc left)) where
  -- the bytes between the ends are those of the leading parts, each with what it keeps of its end
  between_ends : between (if has_low edge then low else 0) (if has_high edge then high else 2 ^ 64 - 1) (256 ^ left)
      ≡ Between (low_of edge low (256 ^ suc left) / 256 ^ left) (high_of edge high (256 ^ suc left) / 256 ^ left)
      (ltb 0 (low_of edge low (256 ^ suc left) % 256 ^ left))
      (ltb (high_of edge high (256 ^ suc left) % 256 ^ left) (256 ^ left - 1))
  unfolding between
  between_ends =
      let count : ℕ = 256 ^ left in
      let block : 256 ^ suc left ≡ 256 * count = pow-suc 256 left ∙ mul_comm count 256 in
      let first : ℕ = if has_low edge then low else 0 in
      let last : ℕ = if has_high edge then high else 2 ^ 64 - 1 in
      let lower : first % (256 * count) ≡ low_of edge low (256 ^ suc left) =
      rw block (inner_low (has_low edge) low (256 * count)) in
      let upper : last % (256 * count) ≡ high_of edge high (256 ^ suc left) =
      rw (← block) (inner_high (has_high edge) high (suc left) (omega arith)) in
      let byte = λ (n : ℕ). sym (byte_of_end n count (bytes_above_0 left)) in
      let end = λ (n : ℕ). sym (end_of_end n count (bytes_above_0 left)) in
      rw (byte first, byte last, end first, end last, lower, upper) refl

  -- answer as the interval does
  between_answer : (byte : ℕ) →
      answer_of (between (if has_low edge then low else 0) (if has_high edge then high else 2 ^ 64 - 1) (256 ^ left))
      byte
      ≡ option_map (edge_of (256 ^ left))
      (rest_after (Range (low_of edge low (256 ^ suc left)) (high_of edge high (256 ^ suc left))) (suc left) 1 byte)
  between_answer byte = rw between_ends
      (sym (ap (option_map (edge_of (256 ^ left))) (range_rest _ _ (suc left) 1 byte left (omega arith))
      ∙ edge_closing left _ _ byte ∙ edge_of_part _ _ (256 ^ left) byte filled (bytes_above_0 left)))

  -- so some byte is allowed
  between_filled : IsFilled (between (if has_low edge then low else 0) (if has_high edge then high else 2 ^ 64 - 1)
      (256 ^ left))
  between_filled =
      let lower : ℕ = low_of edge low (256 ^ suc left) in
      rw between_ends (le-div (lower / 256 ^ left) (high_of edge high (256 ^ suc left)) (256 ^ left)
      (bytes_above_0 left) (le_trans (div-mul-le_self lower (256 ^ left)) filled))

-- an edge of a range that stands leaves some number
stands_filled : (low high size place : ℕ) (edge : Edge) → place < size → StandsBefore (Range low high) size place edge →
    low_of edge low (256 ^ (size - place)) ≤ high_of edge high (256 ^ (size - place))
stands_filled low high size place edge begun stands =
    ((rests_hold_completions.begun (Range low high) size place stands.prefix (omega arith)).bounds _ _
    (edge_says_rest (Range low high) size place stands.prefix edge (omega arith) stands.form
    ∙ ap Some (rest_of_open (Range low high) size place edge begun))).0

-- The bytes allowed at a place answer as the step from the edge does, there is one, and they lie between two ends.
pub record Answers (value : FieldValue) (size place : ℕ) (edge : Edge) (allowed : Allowed) : Type 0 where
  pub answer : (byte : ℕ) → byte < 256 → answer_of allowed byte ≡ edge_step value size place edge byte
  pub filled : IsFilled allowed
  pub between : is_bitmask value ≡ false → IsBetween allowed

-- the bytes that the ends of numbers from low to high have at a place
abbrev pub bytes_of_ends : ℕ → ℕ → ℕ → ℕ → Edge → Allowed
bytes_of_ends low high size place edge = between (if has_low edge then low else 0)
    (if has_high edge then high else 2 ^ 64 - 1) (2 ^ (8 * (size - 1 - place)))

-- what a range allows
pub range_answers : (low high size place : ℕ) (edge : Edge) → size ≤ 8 → place < size →
    StandsBefore (Range low high) size place edge →
    Answers (Range low high) size place edge (bytes_of_ends low high size place edge)
unfolding edge_step rest_step between
range_answers low high size place edge lawful begun stands =
    let left : ℕ = size - (place + 1) in
    let after : size - place ≡ suc left = omega arith in
    let filled = rw after at (stands_filled low high size place edge begun stands) in
    rw (shift_count size place) (record {
      answer = λ byte below. between_answer low high left edge (omega arith) filled byte
          ∙ sym (rw (rest_of_open (Range low high) size place edge begun, after) refl);
      filled = between_filled low high left edge (omega arith) filled;
      between = λ _. tt;
    })

-- and a mask as its range
pub mask_answers : (value bits size place : ℕ) (edge : Edge) → size ≤ 8 → place < size →
    StandsBefore (Mask value bits) size place edge →
    Answers (Mask value bits) size place edge
    (bytes_of_ends (mask_low value bits size) (mask_high value bits size) size place edge)
mask_answers value bits size place edge lawful begun stands =
    let same = as_its_range (Mask value bits) size in
    let range = range_answers _ _ size place edge lawful begun ((same.stands place edge).1 stands) in
    record {
      answer = λ byte below. range.answer byte below ∙ same.step place byte edge;
      filled = range.filled;
      between = range.between;
    }

-- live is free
edge_of_live : (count : ℕ) (test : Bool) →
    option_map (edge_of count) (live_where test) ≡ (if test then Some Free else None)
unfolding edge_of
edge_of_live count true = refl
edge_of_live count false = refl

-- the bytes of a bitmask answer as its rest does
pub agreeing_answer : (value mask size place byte : ℕ) (edge : Edge) → place < size →
    let count = 256 ^ (size - (place + 1)) in
    answer_of (Agreeing (bit_and (value / count % 256) (mask / count % 256)) (mask / count % 256)) byte
    ≡ edge_step (Bitmask value mask) size place edge byte
unfolding answer_of edge_step rest_step
agreeing_answer value mask size place byte edge begun =
    let left : ℕ = size - (place + 1) in
    let count : ℕ = 256 ^ left in
    let after : size - place ≡ suc left = omega arith in
    let block : 256 ^ suc left ≡ 256 * count = pow-suc 256 left ∙ mul_comm count 256 in
    let numbers : 256 ^ (size - place) ≡ 256 * count = rw after block in
    let value_byte = byte_of_end value count (bytes_above_0 left) in
    let mask_byte = byte_of_end mask count (bytes_above_0 left) in
    rw (
      rest_of_open (Bitmask value mask) size place edge begun,
      lt-ltb place size begun,
      bitmask_rest (value % 256 ^ (size - place)) (mask % 256 ^ (size - place)) (size - place) 1 byte left
          (omega arith),
      numbers,
    )
    (sym (edge_of_live count _ ∙ rw (value_byte, mask_byte) refl))

-- The rows of a box match its keys, and no others.
use Rattle.std.proofs.Common.{◌≡◌, ℕ, zero, suc, ◌+◌, ◌*◌, ◌-◌, ◌/◌, ◌^◌, ◌≤◌, ◌<◌, List, [], ◌∷◌, ◌++◌, map, Bool, true, false, ◌&&◌, ◌||◌}
use Rattle.std.proofs.Common.{refl, sym, ap, ◌∙◌, inl, inr, arith, cond, take, drop, fold, Some}
use Rattle.std.proofs.Math.Dec.{ltb, eqb}
use Rattle.std.proofs.Math.Nat.{mul-div_cancel, pow-suc, mul-le-mul_right, mul-le-mul_left}
use Rattle.std.specs.List.{list_any, list_all}
use Rattle.std.proofs.lemmas.List.Concat.{flat_map-cons}
use Rattle.std.proofs.lemmas.Bool.{cases_Bool, and_parts, and_from, ltb-true}
use Rattle.std.proofs.lemmas.Bool.Decides.{leb_tells, eqb_tells}
use Rattle.std.proofs.lemmas.List.Folds.{list_any-append}
use Rattle.std.proofs.lemmas.Nat.{pow_pos}
use Rattle.std.proofs.lemmas.Nat.Bits.{and_high_mask}
use Rattle.byte_numbers.specs.Number.{number_of}
use Rattle.list_lemmas.proofs.Powers.{bytes_as_bits, bytes_above_0}
use Rattle.field_defs.specs.FieldMatch.{field_match}
use Rattle.field_defs.specs.declared.field.FieldDef.{FieldDef}
use Rattle.field_defs.specs.declared.field.FieldKind.{FieldKind}
use Rattle.field_defs.specs.declared.field.FieldKind.TheVariants as kinds
use Rattle.field_defs.specs.declared.field.FieldValue.{FieldValue}
use Rattle.rule_set.specs.Winner.{rule_match}
use Rattle.list_chains.specs.Flat.{Entry, first_answer}
use Rattle.list_chains.specs.declared.span.Span.{Span}
use Rattle.list_chains.specs.Spans.{in_span, in_box, whole_box}
use Rattle.list_chains.specs.Values.{block, span_values, span_values_of, each_before, box_rows}
use Rattle.list_chains.specs.Ranked.{expanded}
use Rattle.list_chains.proofs.Blocks.{in_block, same_quotient, blocks_cover}

-- a mask is a block
mask_blocks : (size x free q : ℕ) → free ≤ 8 * size →
    field_match (block kinds.Mask (8 * size) free (q * 2 ^ free)) size x ≡ in_block (2 ^ free) (q * 2 ^ free) x
mask_blocks size x free q within =
    let left : 8 * size - (8 * size - free) ≡ free = omega (arith, within) in
    rw (left, mul-div_cancel q (pow_pos free)) (same_quotient x q (2 ^ free) (pow_pos free))

-- two products by one factor are one if the others are
same_product : (a b n : ℕ) → 0 < n → eqb (a * n) (b * n) ≡ eqb a b
same_product a b n some = elim (eqb_tells a b) [
  | inl same ↦ rw same.1 (grind (arith, eqb_tells (b * n) (b * n), eqb_tells b b))
  | inr other_one ↦
      let one : a * n / n ≡ a = mul-div_cancel a some in
      let other : b * n / n ≡ b = mul-div_cancel b some in
      elim (eqb_tells (a * n) (b * n)) [
        | inl same ↦ absurd (other_one.1 (sym one ∙ ap (λ m. m / n) same.1 ∙ other))
        | inr differ ↦ differ.0 ∙ sym other_one.0
      ]
]

-- a bitmask of first bits is a block
bitmask_blocks : (size x free q : ℕ) → free ≤ 8 * size → x < 2 ^ (8 * size) → q * 2 ^ free < 2 ^ (8 * size) →
    field_match (block kinds.Bitmask (8 * size) free (q * 2 ^ free)) size x ≡ in_block (2 ^ free) (q * 2 ^ free) x
bitmask_blocks size x free q within small fits =
    rw (
      and_high_mask (8 * size) free within x small,
      and_high_mask (8 * size) free within (q * 2 ^ free) fits,
      mul-div_cancel q (pow_pos free),
      same_product (x / 2 ^ free) q (2 ^ free) (pow_pos free),
    )
    (same_quotient x q (2 ^ free) (pow_pos free))

-- nothing beside a test
or_false : (b : Bool) → (b || false) ≡ b
or_false true = refl
or_false false = refl

-- the block of all numbers
all_of_block : (count x : ℕ) (b : Bool) → x < count → (in_block count 0 x && b) ≡ b
all_of_block count x b small = grind (arith, leb_tells 0 x, leb_tells (suc x) (0 + count), small)

-- the values of a span let its numbers through
pub span_is : (kind : FieldKind) (size : ℕ) (span : Span) (x : ℕ) → x < 2 ^ (8 * size) →
    list_any (λ value. field_match value size x) (span_values_of kind (8 * size) span) ≡ in_span span x
span_is kinds.Range size span x small = or_false (in_span span x)
span_is kinds.Mask size span x small =
    blocks_cover (block kinds.Mask (8 * size)) (λ value. field_match value size x) (8 * size) x
    (λ free q within fits. mask_blocks size x free q within) (8 * size) 0 0 (omega arith) (omega arith)
    (omega arith) span
    ∙ all_of_block (2 ^ (8 * size)) x (in_span span x) small
span_is kinds.Bitmask size span x small =
    blocks_cover (block kinds.Bitmask (8 * size)) (λ value. field_match value size x) (8 * size) x
    (λ free q within fits. bitmask_blocks size x free q within small
    (let some : 0 < 2 ^ free = pow_pos free in omega (arith, fits, some)))
    (8 * size) 0 0 (omega arith) (omega arith) (omega arith) span
    ∙ all_of_block (2 ^ (8 * size)) x (in_span span x) small

-- bytes spell a number of so many bytes
abbrev pub are_bytes : List ℕ → Bool
are_bytes bytes = list_all (λ byte. ltb byte 256) bytes

-- a factor that isn't 0
enough : (a b : ℕ) → 1 ≤ b → a < (a + 1) * b
enough a b some = let h = mul-le-mul_left (a + 1) some in omega (arith, h)

-- bytes that spell a number after another
number_from : (start size : ℕ) (bytes : List ℕ) → are_bytes bytes ≡ true →
    fold (λ n b. n * 256 + b) start (take size bytes) < (start + 1) * 256 ^ size
number_from start zero bytes below = omega arith
number_from start (suc size) [] below =
    let some : 1 ≤ 256 ^ suc size = bytes_above_0 (suc size) in
    enough start (256 ^ suc size) some
number_from start (suc size) (byte ∷ bytes) below =
    let parts = and_parts (ltb byte 256) (are_bytes bytes) below in
    let rest = number_from (start * 256 + byte) size bytes parts.1 in
    let power : 256 ^ suc size ≡ 256 ^ size * 256 = pow-suc 256 size in
    let small : byte < 256 = ltb-true byte 256 parts.0 in
    let le : start * 256 + byte + 1 ≤ (start + 1) * 256 = omega (arith, small) in
    rw power (omega (arith, rest, mul-le-mul_right (256 ^ size) le))

-- bytes after some are left out
bytes_dropped : (size : ℕ) (bytes : List ℕ) → are_bytes bytes ≡ true → are_bytes (drop size bytes) ≡ true
bytes_dropped zero bytes below = below
bytes_dropped (suc size) [] below = refl
bytes_dropped (suc size) (byte ∷ bytes) below =
    bytes_dropped size bytes (and_parts (ltb byte 256) (are_bytes bytes) below).1

-- the number of a field
pub field_small : (size : ℕ) (key : List ℕ) → are_bytes key ≡ true → number_of (take size key) < 2 ^ (8 * size)
field_small size key below = let h = number_from 0 size key below in rw (bytes_as_bits size) (omega (arith, h))

-- nothing after a test
and_false : (b : Bool) → (b && false) ≡ false
and_false true = refl
and_false false = refl

-- one test and either of two
and_or : (a b c : Bool) → ((a && b) || (a && c)) ≡ (a && (b || c))
and_or true b c = refl
and_or false b c = refl

-- either of two tests and one
or_and : (a b c : Bool) → ((a && c) || (b && c)) ≡ ((a || b) && c)
or_and true b true = refl
or_and true true false = refl
or_and true false false = refl
or_and false b c = refl

-- a value before each of some rests
one_before : (def : FieldDef) (defs : List FieldDef) (key : List ℕ) (value : FieldValue)
    (rests : List (List FieldValue)) →
    list_any (λ values. rule_match (def ∷ defs) values key) (map (λ rest. value ∷ rest) rests)
    ≡ (field_match value def.size (number_of (take def.size key))
    && list_any (λ values. rule_match defs values (drop def.size key)) rests)
one_before def defs key value [] = sym (and_false (field_match value def.size (number_of (take def.size key))))
one_before def defs key value (rest ∷ rests) =
    ap (λ b.
    field_match value def.size (number_of (take def.size key)) && rule_match defs rest (drop def.size key) || b)
    (one_before def defs key value rests)
    ∙ and_or (field_match value def.size (number_of (take def.size key))) (rule_match defs rest (drop def.size key))
    (list_any (λ values. rule_match defs values (drop def.size key)) rests)

-- each value before each of some rests
each_is : (def : FieldDef) (defs : List FieldDef) (key : List ℕ) (values : List FieldValue)
    (rests : List (List FieldValue)) →
    list_any (λ values. rule_match (def ∷ defs) values key) (each_before values rests)
    ≡ (list_any (λ value. field_match value def.size (number_of (take def.size key))) values
    && list_any (λ values. rule_match defs values (drop def.size key)) rests)
each_is def defs key [] rests = refl
each_is def defs key (value ∷ values) rests =
    ap (list_any (λ values. rule_match (def ∷ defs) values key))
    (flat_map-cons (λ value. map (λ rest. value ∷ rest) rests) value values)
    ∙ list_any-append (λ values. rule_match (def ∷ defs) values key) (map (λ rest. value ∷ rest) rests)
    (each_before values rests)
    ∙ rw (one_before def defs key value rests, each_is def defs key values rests)
    (or_and (field_match value def.size (number_of (take def.size key)))
    (list_any (λ value. field_match value def.size (number_of (take def.size key))) values)
    (list_any (λ values. rule_match defs values (drop def.size key)) rests))

-- the rows of a box
box_is : (defs : List FieldDef) (box : List Span) (key : List ℕ) → are_bytes key ≡ true →
    list_any (λ values. rule_match defs values key) (box_rows defs box) ≡ in_box defs box key
box_is [] [] key bytes = refl
box_is [] (span ∷ spans) key bytes = refl
box_is (def ∷ defs) [] key bytes = refl
box_is (def ∷ defs) (span ∷ spans) key bytes =
    each_is def defs key (span_values def span) (box_rows defs spans)
    ∙ rw (
      span_is def.kind def.size span (number_of (take def.size key)) (field_small def.size key bytes),
      box_is defs spans (drop def.size key) (bytes_dropped def.size key bytes),
    ) refl

-- the first of some rows with one answer
first_of_rows : (test : List FieldValue → Bool) (userdata : ℕ) (rows : List (List FieldValue))
    (rest : List (Entry (List FieldValue))) →
    first_answer test (map (λ values. record { box = values; userdata = userdata }) rows ++ rest)
    ≡ cond (list_any test rows) (Some userdata) (first_answer test rest)
first_of_rows test userdata [] rest = refl
first_of_rows test userdata (row ∷ rows) rest = elim (cases_Bool (test row)) [
  | inl e ↦ rw e refl
  | inr e ↦ rw e (first_of_rows test userdata rows rest)
]

-- the first row that matches is of the first box that a key is in
pub expanded_is : (layout : List FieldDef) (key : List ℕ) (entries : List (Entry (List Span))) → are_bytes key ≡ true →
    first_answer (λ values. rule_match layout values key) (expanded layout entries)
    ≡ first_answer (λ box. in_box layout box key) entries
expanded_is layout key [] bytes = refl
expanded_is layout key (entry ∷ entries) bytes =
    first_of_rows (λ values. rule_match layout values key) entry.userdata (box_rows layout entry.box)
    (expanded layout entries)
    ∙ rw (box_is layout entry.box key bytes, expanded_is layout key entries bytes) refl

-- the box of all keys
pub in_whole : (layout : List FieldDef) (key : List ℕ) → are_bytes key ≡ true →
    in_box layout (whole_box layout) key ≡ true
in_whole [] key bytes = refl
in_whole (def ∷ defs) key bytes =
    let n : ℕ = number_of (take def.size key) in
    let small : n < 256 ^ def.size = rw (← bytes_as_bits def.size) (field_small def.size key bytes) in
    and_from (in_span (record { low = 0; high = 256 ^ def.size - 1 }) n)
    (in_box defs (whole_box defs) (drop def.size key))
    (grind (arith, leb_tells 0 n, leb_tells n (256 ^ def.size - 1), small))
    (in_whole defs (drop def.size key) (bytes_dropped def.size key bytes))

-- A rule that covers another applies wherever that one does.
use Rattle.std.proofs.Common.{◌≡◌, ℕ, ◌+◌, ◌-◌, ◌*◌, ◌/◌, ◌^◌, ◌==◌, ◌≤◌, List, [], ◌∷◌, take, drop}
use Rattle.std.proofs.Common.{true, false}
use Rattle.std.proofs.Common.{Option, Some, None, refl, sym, ap, ◌∙◌, arith}
use Rattle.std.specs.Prelude.{nat_le, bit_and, slice_get}
use Rattle.std.specs.Int.{bit_at}
use Rattle.std.specs.Option.{option_map_or}
use Rattle.std.proofs.lemmas.Bool.{and_parts, and_from, leb-true, le-leb, eqb-true, eq-eqb, false≢true}
use Rattle.std.proofs.lemmas.Nat.{and_assoc, and_comm, pow-add}
use Rattle.std.proofs.lemmas.Nat.Bits.{bit_at_and, bit_at-lt}
use Rattle.std.proofs.Math.Nat.{div-div-eq-div-mul}
use Rattle.byte_numbers.specs.Number.{number_of}
use Rattle.field_defs.specs.declared.field.FieldDef.{FieldDef}
use Rattle.field_defs.specs.declared.field.FieldValue.{FieldValue}
use Rattle.field_defs.specs.declared.field.FieldValue.TheVariants.{Mask, Range, Bitmask}
use Rattle.field_defs.specs.FieldMatch.{field_match}
use Rattle.rule_set.specs.Rule.{RuleView}
use Rattle.covered_rules.specs.Covered.{covers_value, covers_values, covers_rule, has_bits, covers}
use Rattle.covered_rules.specs.Laws.{CoveredRulesApplyWithTheirCover}
use Rattle.rule_set.specs.Rank.{comes_below}
use Rattle.rule_set.specs.Winner.{rule_match, is_in_category, applies}

-- a mask of no more bits lets through what one lets through that agrees with it
mask_lets : (value bits other more size x : ℕ) → bits ≤ more →
    field_match (Mask value bits) size other ≡ true → field_match (Mask other more) size x ≡ true →
    field_match (Mask value bits) size x ≡ true
mask_lets value bits other more size x fewer agrees lets =
    let least : ℕ = 8 * size - more in
    let gap : ℕ = (8 * size - bits) - least in
    let parts : 8 * size - bits ≡ least + gap = omega (arith, fewer) in
    let power : 2 ^ (8 * size - bits) ≡ 2 ^ least * 2 ^ gap = ap (λ k. 2 ^ k) parts ∙ pow-add 2 least gap in
    let quotient : (y : ℕ) → y / 2 ^ (8 * size - bits) ≡ y / 2 ^ least / 2 ^ gap =
    λ y. ap (λ d. y / d) power ∙ sym (div-div-eq-div-mul y (2 ^ least) (2 ^ gap)) in
    let same : x / 2 ^ least ≡ other / 2 ^ least = eqb-true _ _ lets in
    eq-eqb _ _ (quotient x ∙ ap (λ q. q / 2 ^ gap) same ∙ sym (quotient other) ∙ eqb-true _ _ agrees)

-- so does a bitmask of some of the bits
bitmask_lets : (value mask other more x : ℕ) → bit_and mask more ≡ mask →
    bit_and other mask ≡ bit_and value mask → bit_and x more ≡ bit_and other more →
    bit_and x mask ≡ bit_and value mask
bitmask_lets value mask other more x fewer agrees lets =
    let part : (y : ℕ) → bit_and y mask ≡ bit_and (bit_and y more) mask =
    λ y. ap (bit_and y) (sym (and_comm more mask ∙ fewer)) ∙ sym (and_assoc mask y more) in
    part x ∙ ap (λ z. bit_and z mask) lets ∙ sym (part other) ∙ agrees

-- a value lets through what one does that it covers
value_lets : (value other : FieldValue) (size x : ℕ) → covers_value value other size ≡ true →
    field_match other size x ≡ true → field_match value size x ≡ true
value_lets (Mask value bits) (Mask other more) size x covers lets =
    let parts = and_parts (nat_le bits more) (field_match (Mask value bits) size other) covers in
    mask_lets value bits other more size x (leb-true bits more parts.0) parts.1 lets
value_lets (Range low high) (Range from to) size x covers lets =
    let parts = and_parts (nat_le low from) (nat_le to high) covers in
    let its = and_parts (nat_le from x) (nat_le x to) lets in
    and_from _ _ (le-leb low x (omega (arith, leb-true low from parts.0, leb-true from x its.0)))
    (le-leb x high (omega (arith, leb-true to high parts.1, leb-true x to its.1)))
value_lets (Bitmask value mask) (Bitmask other more) size x covers lets =
    let parts = and_parts (bit_and mask more == mask) (field_match (Bitmask value mask) size other) covers in
    eq-eqb _ _ (bitmask_lets value mask other more x (eqb-true _ _ parts.0) (eqb-true _ _ parts.1) (eqb-true _ _ lets))
value_lets (Mask value bits) (Range from to) size x covers lets = absurd (false≢true covers)
value_lets (Mask value bits) (Bitmask other more) size x covers lets = absurd (false≢true covers)
value_lets (Range low high) (Mask other more) size x covers lets = absurd (false≢true covers)
value_lets (Range low high) (Bitmask other more) size x covers lets = absurd (false≢true covers)
value_lets (Bitmask value mask) (Mask other more) size x covers lets = absurd (false≢true covers)
value_lets (Bitmask value mask) (Range from to) size x covers lets = absurd (false≢true covers)

-- so for each field
values_let : (defs : List FieldDef) (values others : List FieldValue) (key : List ℕ) →
    covers_values defs values others ≡ true → rule_match defs others key ≡ true → rule_match defs values key ≡ true
values_let [] [] [] key covers lets = refl
values_let (def ∷ defs) (value ∷ values) (other ∷ others) key covers lets =
    let parts = and_parts (covers_value value other def.size) (covers_values defs values others) covers in
    let x : ℕ = number_of (take def.size key) in
    let its = and_parts (field_match other def.size x) (rule_match defs others (drop def.size key)) lets in
    and_from _ _ (value_lets value other def.size x parts.0 its.0)
    (values_let defs values others (drop def.size key) parts.1 its.1)
values_let [] [] (other ∷ others) key covers lets = absurd (false≢true covers)
values_let [] (value ∷ values) others key covers lets = absurd (false≢true covers)
values_let (def ∷ defs) [] others key covers lets = absurd (false≢true covers)
values_let (def ∷ defs) (value ∷ values) [] key covers lets = absurd (false≢true covers)

-- a mask with all bits of another has its categories
bits_let : (mask other category : ℕ) → has_bits mask other ≡ true → (bit_at other category == 1) ≡ true →
    (bit_at mask category == 1) ≡ true
bits_let mask other category covers lets =
    let one : bit_at other category ≡ 1 = eqb-true _ _ lets in
    let both = bit_at_and mask other category in
    let same : bit_at (bit_and mask other) category ≡ bit_at other category =
    ap (λ m. bit_at m category) (eqb-true _ _ covers) in
    eq-eqb _ _ (omega (arith, one, both, same, bit_at-lt mask category))

-- a rule applies where one does that it covers
rule_lets : (layout : List FieldDef) (key : List ℕ) (category : ℕ) (rule other : RuleView) →
    covers_rule layout rule other ≡ true → applies layout key category other ≡ true →
    applies layout key category rule ≡ true
rule_lets layout key category rule other covers lets =
    let parts = and_parts (has_bits rule.tag.category_mask other.tag.category_mask)
    (covers_values layout rule.fields other.fields) covers in
    let its = and_parts (rule_match layout other.fields key) (is_in_category other.tag category) lets in
    and_from _ _ (values_let layout rule.fields other.fields key parts.1 its.0)
    (bits_let rule.tag.category_mask other.tag.category_mask category parts.0 its.1)

-- so for the rules at two places, if there are rules
found_lets : (layout : List FieldDef) (key : List ℕ) (category : ℕ) (one other : Option RuleView) →
    option_map_or (λ rule. option_map_or (covers_rule layout rule) other false) one false ≡ true →
    option_map_or (applies layout key category) other false ≡ true →
    option_map_or (applies layout key category) one false ≡ true
found_lets layout key category None other covers lets = absurd (false≢true covers)
found_lets layout key category (Some rule) None covers lets = absurd (false≢true covers)
found_lets layout key category (Some rule) (Some other) covers lets =
    rule_lets layout key category rule other covers lets

-- a covered rule applies only where its cover does
pub cover_applies : CoveredRulesApplyWithTheirCover
cover_applies layout rules key category place other covers lets =
    found_lets layout key category (slice_get rules place) (slice_get rules other)
    (and_parts (comes_below rules place other) _ covers).1 lets

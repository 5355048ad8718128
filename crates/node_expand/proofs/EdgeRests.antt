-- The edge and the rest that it stands for: each is made of the other, both go step by step, a mask is as its range.
use Rattle.std.proofs.lemmas.Bool.Decides.{nat_tests}
use Rattle.node_expand.proofs.Steps.{step_as_range, part_none, part_some, rest_whole, rest_open, rest_as_range}
use Rattle.node_expand.proofs.Steps.{bitmask_rest, rest_steps, mask_as_range, closing, range_rest}
use Rattle.std.proofs.Common.{◌≡◌, ℕ, ◌+◌, ◌-◌, ◌*◌, ◌%◌, ◌^◌, ◌<◌, ◌≤◌, min, max, Bool, true, false, ltb, Option, Some}
use Rattle.std.proofs.Common.{None, refl, sym, ◌∙◌, ap, inl, inr, arith, IfSome, zero, suc, ◌/◌, ◌&&◌, not}
use Rattle.std.specs.Option.{option_map, option_and_then}
use Rattle.std.proofs.lemmas.Nat.{mod-mul-add, pow-add}
use Rattle.std.proofs.lemmas.Bool.{cases_lt, cond-true, cond-false, eq-eqb, ne_eqb, leb-true, le-leb, ltb-true, lt-ltb}
use Rattle.std.proofs.lemmas.Bool.{and_from, and_parts, and_right, eqb-true, le-ltb, false≢true}
use Rattle.field_defs.specs.declared.field.FieldValue.{FieldValue}
use Rattle.field_defs.specs.declared.field.FieldValue.TheVariants.{Mask, Range, Bitmask}
use Rattle.node_expand.specs.declared.edge.Edge.{Edge}
use Rattle.node_expand.specs.Rest.{Rest, Interval, part, mask_low, mask_high, open_rest, rest_after, rest_step}
use Rattle.node_expand.specs.Rest.{as_range}
use Rattle.node_expand.specs.Edges.{edge_with, edge_of, has_low, has_high, edge_after, StandsBefore, interval_at}
use Rattle.node_expand.specs.Edges.{open_rest_of, rest_of, edge_step, is_cut, same_edge, is_change, is_bitmask, AreEnds}
use Rattle.node_expand.specs.Edges.{AnswersWithin}
use Rattle.node_expand.specs.Laws.{EdgesSayRests, EdgesAreOneWhereRestsAre, IsAsItsRange, ValuesAreTheirRanges}
use Rattle.node_expand.specs.Laws.{WildValuesStayFree, FreeEdgesStayFree}
use Rattle.node_expand.proofs.Completions.{live_only}
use Rattle.list_lemmas.proofs.Numbers.{outermost_low, outermost_high}
use Rattle.list_lemmas.proofs.Options.{from_option_map}
use Rattle.list_lemmas.proofs.Powers.{bytes_above_0}
use Rattle.std.proofs.Math.Nat.{pow-suc, div-eq_of_lt, zero-div, mul-le-mul_right, one-le-pow}
use Rattle.std.proofs.Math.Numerals.{add-one}
use Rattle.node_expand.specs.declared.edge.Edge.TheVariants.{Free}
use Rattle.field_defs.specs.FieldBounds.{CanMatch, is_wild}
use Rattle.field_defs.proofs.Offered.{wild_is_every}
use Rattle.node_expand.proofs.Changes.{change_alike, one_edge}
use Rattle.list_lemmas.proofs.Tests.{same_truth}
use Rattle.list_lemmas.proofs.Agreeing.{IfSome_from, leading_within}
use Rattle.std.specs.Int.Bits.{and_zero_r}

-- an edge has the ends that it was made with
pub ends-edge_with : (low high : Bool) →
    (has_low (edge_with low high) ≡ low) × (has_high (edge_with low high) ≡ high)
ends-edge_with false false = (refl, refl)
ends-edge_with true false = (refl, refl)
ends-edge_with false true = (refl, refl)
ends-edge_with true true = (refl, refl)

-- the edge of a part leads back to it
edge_says_part : (low high count prefix : ℕ) (before : Rest) → 0 < count → part low high count prefix ≡ Some before →
    interval_at low high count (edge_of count before) ≡ before
unfolding edge_of
edge_says_part low high count prefix before positive is =
    elim (cases_lt (min high (prefix * count + (count - 1))) (max low (prefix * count))) [
      | inl none ↦ let never = part_none low high count prefix none in cc
      | inr met ↦
          let first : ℕ = prefix * count in
          let lower : ℕ = max low first - first in
          let upper : ℕ = min high (first + (count - 1)) - first in
          let whole : Interval lower upper ≡ before = let some = part_some low high count prefix met in cc in
          let low_end : 0 < lower → low % count ≡ lower = λ h.
          (let is : low ≡ prefix * count + lower = omega arith in
          ap (λ n. n % count) is ∙ mod-mul-add prefix count lower (omega arith)) in
          let high_end : upper < count - 1 → high % count ≡ upper = λ h.
          (let is : high ≡ prefix * count + upper = omega arith in
          ap (λ n. n % count) is ∙ mod-mul-add prefix count upper (omega arith)) in
          let ends = ends-edge_with (ltb 0 lower) (ltb upper (count - 1)) in
          rw (← whole) (rw (
            ends.0,
            ends.1,
            outermost_low lower (low % count) low_end,
            outermost_high upper (high % count) (count - 1) (omega arith) high_end,
          ) refl)
    ]

-- the edge of a rest leads back to it, while bytes are left
open_says : (value : FieldValue) (size count prefix : ℕ) (before : Rest) → 0 < count →
    open_rest value size count prefix ≡ Some before → open_rest_of value size count (edge_of count before) ≡ before
open_says (Mask value bits) size count prefix before = edge_says_part _ _ count prefix before
open_says (Range low high) size count prefix before = edge_says_part low high count prefix before
open_says (Bitmask value mask) size count prefix before = λ positive is. sym (live_only _ before is)

-- an edge of a field with bytes left stands for what the value leaves
pub rest_of_open : (value : FieldValue) (size place : ℕ) (edge : Edge) → place < size →
    rest_of value size place edge ≡ open_rest_of value size (256 ^ (size - place)) edge
unfolding rest_of
rest_of_open value size place edge begun = cond-false _ _ _ (ne_eqb place size (λ e. omega arith))

-- the edge of a rest leads back to it
rest_says : (value : FieldValue) (size place prefix : ℕ) (before : Rest) → place ≤ size →
    rest_after value size place prefix ≡ Some before →
    rest_of value size place (edge_of (256 ^ (size - place)) before) ≡ before
unfolding rest_of
rest_says value size place prefix before within is =
    elim (cases_lt place size) [
      | inl begun ↦ rest_of_open value size place _ begun
          ∙ open_says value size (256 ^ (size - place)) prefix before (bytes_above_0 (size - place))
          (sym (rest_open value size place prefix begun) ∙ is)
      | inr end ↦
          let whole : place ≡ size = omega arith in
          let at_end = rw whole at is in
          rw whole (cond-true _ _ _ (eq-eqb size size refl)
          ∙ sym (live_only _ before (sym (rest_whole value size prefix) ∙ at_end)))
    ]

-- an edge that is the form of a rest stands for it
pub edge_says_rest : (value : FieldValue) (size place prefix : ℕ) (edge : Edge) → place ≤ size →
    edge_after value size place prefix ≡ Some edge →
    rest_after value size place prefix ≡ Some (rest_of value size place edge)
unfolding edge_after
edge_says_rest value size place prefix edge within is =
    let made = from_option_map (edge_of (256 ^ (size - place))) (rest_after value size place prefix) edge is in
    made.1 ∙ ap Some (sym (rest_says value size place prefix made.0 within made.1)
    ∙ ap (rest_of value size place) made.2)

-- an edge that stands before a place is the form of the rest that it stands for
rest_says_edge : (value : FieldValue) (size place : ℕ) (edge : Edge) → place ≤ size →
    StandsBefore value size place edge → edge_of (256 ^ (size - place)) (rest_of value size place edge) ≡ edge
unfolding edge_after
rest_says_edge value size place edge within stands =
    let is = edge_says_rest value size place stands.prefix edge within stands.form in
    let both : Some (edge_of (256 ^ (size - place)) (rest_of value size place edge)) ≡ Some edge =
    sym (ap (option_map (edge_of (256 ^ (size - place)))) is) ∙ stands.form in
    cc

-- an edge and the rest that it stands for are each made of the other
pub edges_say_rests : EdgesSayRests
edges_say_rests = record { rest = edge_says_rest; form = rest_says_edge }

-- the same for what there is of a rest
pub edges_say : (value : FieldValue) (size place prefix : ℕ) → place ≤ size →
    option_map (rest_of value size place) (edge_after value size place prefix) ≡ rest_after value size place prefix
unfolding edge_after
edges_say value size place prefix within = back (rest_after value size place prefix) refl
  where
    back : (found : Option Rest) → rest_after value size place prefix ≡ found →
        option_map (rest_of value size place) (option_map (edge_of (256 ^ (size - place))) found) ≡ found
    back None is = refl
    back (Some before) is = ap Some (rest_says value size place prefix before within is)

-- two edges that stand before a place are one where their rests are
pub edges_are_one : EdgesAreOneWhereRestsAre
edges_are_one value size place one other within stands other_stands = (
  ap (rest_of value size place),
  λ same. sym (rest_says_edge value size place one within stands)
      ∙ ap (edge_of (256 ^ (size - place))) same
      ∙ rest_says_edge value size place other within other_stands,
)

-- before the first byte a range leaves all of itself
pub range_start : (low high size : ℕ) → 0 < size → low ≤ high → high < 256 ^ size →
    edge_after (Range low high) size 0 0 ≡ Some (edge_of (256 ^ size) (Interval low high))
unfolding edge_after
range_start low high size lawful filled within =
    let all : size - 0 ≡ size = omega arith in
    let first : max low (0 * 256 ^ size) - 0 * 256 ^ size ≡ low = omega arith in
    let last : min high (0 * 256 ^ size + (256 ^ size - 1)) - 0 * 256 ^ size ≡ high = omega arith in
    rw (rest_open (Range low high) size 0 0 lawful, all, part_some low high (256 ^ size) 0 (omega arith), first, last)
    refl

-- the numbers of a mask are numbers of its field, and there is one
mask_within : (value bits size : ℕ) → bits ≤ 8 * size → value < 256 ^ size →
    (mask_low value bits size ≤ mask_high value bits size) × (mask_high value bits size < 256 ^ size)
unfolding mask_low mask_high
mask_within value bits size within fits = (omega arith, leading_within value bits size within fits)

-- what is left of a mask has the form of what is left of its range
edge_as_range : (value bits size place prefix : ℕ) →
    edge_after (Range (mask_low value bits size) (mask_high value bits size)) size place prefix
    ≡ edge_after (Mask value bits) size place prefix
unfolding edge_after
edge_as_range value bits size place prefix = ap (option_map (edge_of (256 ^ (size - place))))
    (sym (rest_as_range value bits size place prefix))

-- before the first byte a mask leaves the range that it lets through
pub mask_start : (value bits size : ℕ) → 0 < size → bits ≤ 8 * size → value < 256 ^ size →
    edge_after (Mask value bits) size 0 0 ≡ Some
    (edge_of (256 ^ size) (Interval (mask_low value bits size) (mask_high value bits size)))
mask_start value bits size lawful within fits =
    let ends = mask_within value bits size within fits in
    sym (edge_as_range value bits size 0 0) ∙ range_start _ _ size lawful ends.0 ends.1

-- and a bitmask is live
pub bitmask_start : (value mask size : ℕ) → value < 256 ^ size → edge_after (Bitmask value mask) size 0 0 ≡ Some Free
unfolding edge_after edge_of
bitmask_start value mask size fits =
    rw (bitmask_rest value mask size 0 0 size (omega arith), div-eq_of_lt fits) refl

-- What is said of the edge before the first byte.
pub record Starts (value : FieldValue) (size : ℕ) (edge : Edge) : Type 0 where
  pub form : edge_after value size 0 0 ≡ Some edge
  pub rest : rest_after value size 0 0 ≡ Some (rest_of value size 0 edge)
  pub stands : StandsBefore value size 0 edge

-- all of it follows from the form
pub starts : (value : FieldValue) (size : ℕ) (edge : Edge) → edge_after value size 0 0 ≡ Some edge →
    Starts value size edge
starts value size edge is = record {
  form = is;
  rest = edge_says_rest value size 0 0 edge (omega arith) is;
  stands = record { prefix = 0; within = omega arith; form = is };
}

-- the step from an edge that is the form of a rest
module _ (value : FieldValue) (size place prefix byte : ℕ) (edge : Edge) (begun : place < size) (below : byte < 256)
    (is : edge_after value size place prefix ≡ Some edge) where
  -- one more byte takes the rest of the edge to the rest of the longer prefix
  step_rest : rest_step value size place (rest_of value size place edge) byte
      ≡ rest_after value size (place + 1) (prefix * 256 + byte)
  step_rest = sym (rest_steps value size place prefix byte begun below
      ∙ ap (option_and_then (λ r. rest_step value size place r byte))
      (edge_says_rest value size place prefix edge (omega arith) is))

  -- is the form of the rest after one more byte
  pub step_form : edge_step value size place edge byte ≡ edge_after value size (place + 1) (prefix * 256 + byte)
  unfolding edge_after edge_step
  step_form = ap (option_map (edge_of (256 ^ (size - (place + 1))))) step_rest

-- What is said of the answer to a step.
pub record Stepped (value : FieldValue) (size place byte : ℕ) (edge : Edge) (result : Option Edge) : Type 0 where
  pub form : (prefix : ℕ) → edge_after value size place prefix ≡ Some edge →
      result ≡ edge_after value size (place + 1) (prefix * 256 + byte)
  pub answer : result ≡ edge_step value size place edge byte
  pub rest : option_map (rest_of value size (place + 1)) result
      ≡ rest_step value size place (rest_of value size place edge) byte
  pub stands : IfSome result (StandsBefore value size (place + 1))

-- all of it follows where the answer is the step's
pub stepped : (value : FieldValue) (size place byte : ℕ) (edge : Edge) (result : Option Edge) → place < size →
    byte < 256 → StandsBefore value size place edge → result ≡ edge_step value size place edge byte →
    Stepped value size place byte edge result
stepped value size place byte edge result begun below stands is =
    let after : result ≡ edge_after value size (place + 1) (stands.prefix * 256 + byte) =
    is ∙ step_form value size place stands.prefix byte edge begun below stands.form in
    record {
      form = λ prefix form. is ∙ step_form value size place prefix byte edge begun below form;
      answer = is;
      rest = ap (option_map (rest_of value size (place + 1))) after
          ∙ edges_say value size (place + 1) (stands.prefix * 256 + byte) (omega arith)
          ∙ sym (step_rest value size place stands.prefix byte edge begun below stands.form);
      stands = IfSome_from result (λ next found. record {
        prefix = stands.prefix * 256 + byte;
        within = (let more : 256 ^ (place + 1) ≡ 256 ^ place * 256 = rw add-one (pow-suc 256 place) in
            omega (arith, more, stands.within));
        form = sym after ∙ found;
      });
    }

-- what stands before a place does so for a value with the same edges
stands_alike : (value other : FieldValue) (size place : ℕ) (edge : Edge) →
    ((prefix : ℕ) → edge_after value size place prefix ≡ edge_after other size place prefix) →
    StandsBefore value size place edge → StandsBefore other size place edge
stands_alike value other size place edge same stands = record {
  prefix = stands.prefix;
  within = stands.within;
  form = sym (same stands.prefix) ∙ stands.form;
}

-- a mask is as its range
module _ (value bits size : ℕ) where
  -- the range that the mask is
  range : FieldValue
  range = Range (mask_low value bits size) (mask_high value bits size)

  -- an edge goes on by a byte as that of the range does
  edge_step_as_range : (place byte : ℕ) (edge : Edge) →
      edge_step range size place edge byte ≡ edge_step (Mask value bits) size place edge byte
  unfolding edge_step rest_of range
  edge_step_as_range place byte edge = ap (option_map (edge_of (256 ^ (size - (place + 1)))))
      (step_as_range value bits _ _ size place byte (rest_of range size place edge))

  -- its numbers are numbers of the size
  lawful_as_range : CanMatch (Mask value bits) size → CanMatch range size
  unfolding range
  lawful_as_range can =
      let ends = mask_within value bits size (leb-true bits (8 * size) can.mask_within)
      (ltb-true value (256 ^ size) can.within_size) in
      record {
        lawful_size = can.lawful_size;
        within_size = and_from _ _ (lt-ltb _ _ (omega arith)) (lt-ltb _ _ ends.1);
        mask_within = refl;
      }

  -- it is wild where the mask is
  wild_as_range : CanMatch (Mask value bits) size → is_wild range size ≡ is_wild (Mask value bits) size
  unfolding range
  wild_as_range can =
      let mask_wild = wild_is_every (Mask value bits) size can in
      let range_wild = wild_is_every range size (lawful_as_range can) in
      same_truth _ _
      (λ wild. mask_wild.1 (λ x below. mask_as_range value bits size x ∙ range_wild.0 wild x below))
      (λ wild. range_wild.1 (λ x below. sym (mask_as_range value bits size x) ∙ mask_wild.0 wild x below))

  -- all that is said of the mask is said of its range
  mask_as_its_range : IsAsItsRange (Mask value bits) size
  unfolding range is_cut mask_low mask_high
  mask_as_its_range = record {
    lawful = lawful_as_range;
    filled = λ _. le-leb _ _ (omega arith);
    wild = wild_as_range;
    matches = λ number. sym (mask_as_range value bits size number);
    rest = λ place prefix. sym (rest_as_range value bits size place prefix);
    edge = edge_as_range value bits size;
    stands = λ place edge. (
      stands_alike _ _ size place edge (edge_as_range value bits size place),
      stands_alike _ _ size place edge (λ prefix. sym (edge_as_range value bits size place prefix)),
    );
    step = edge_step_as_range;
    cut = λ place byte edge. change_alike _ _ byte (edge_step_as_range place byte edge)
        (edge_step_as_range place (byte - 1) edge);
  }

-- another value is its own range
itself : (value : FieldValue) (size : ℕ) → as_range value size ≡ value → IsAsItsRange value size
itself value size same = record {
  lawful = λ can. rw same can;
  filled = λ filled. rw same filled;
  wild = λ _. rw same refl;
  matches = λ number. rw same refl;
  rest = λ place prefix. rw same refl;
  edge = λ place prefix. rw same refl;
  stands = λ place edge. rw same (λ stands. stands, λ stands. stands);
  step = λ place byte edge. rw same refl;
  cut = λ place byte edge. rw same refl;
}

-- a value of a field may be taken as its range
pub as_its_range : ValuesAreTheirRanges
as_its_range (Mask value bits) size = mask_as_its_range value bits size
as_its_range (Range low high) size = itself (Range low high) size refl
as_its_range (Bitmask value mask) size = itself (Bitmask value mask) size refl

-- the form of all numbers, with no byte left too
all_is_free : (left : ℕ) → option_map (edge_of (256 ^ left)) (closing left (Some (Interval 0 (256 ^ left - 1))))
    ≡ Some Free
unfolding edge_of
all_is_free zero = refl
all_is_free (suc left) = rw (le-ltb (256 ^ suc left - 1) (256 ^ suc left - 1) (omega arith)) refl

-- the range of all numbers is free after any bytes
all_stays_free : (size place prefix : ℕ) → place ≤ size → prefix < 256 ^ place →
    edge_after (Range 0 (256 ^ size - 1)) size place prefix ≡ Some Free
unfolding edge_after
all_stays_free size place prefix begun within =
    let left : ℕ = size - place in
    let count : ℕ = 256 ^ left in
    let positive : 0 < count = bytes_above_0 left in
    let e : size ≡ place + left = omega arith in
    let whole : 256 ^ size ≡ 256 ^ place * count =
    ap (λ n. 256 ^ n) e ∙ pow-add 256 place left in
    let room : suc prefix * count ≤ 256 ^ place * count = mul-le-mul_right count within in
    let first : max 0 (prefix * count) - prefix * count ≡ 0 = omega arith in
    let last : min (256 ^ size - 1) (prefix * count + (count - 1)) - prefix * count ≡ count - 1 =
    omega (arith, whole, room) in
    rw (
      range_rest 0 (256 ^ size - 1) size place prefix left e,
      part_some 0 (256 ^ size - 1) count prefix (omega (arith, whole, room)),
      first,
      last,
    )
    (all_is_free left)

-- so is a wild range
wild_range : (low high size place prefix : ℕ) → CanMatch (Range low high) size → is_wild (Range low high) size ≡ true →
    place ≤ size → prefix < 256 ^ place → edge_after (Range low high) size place prefix ≡ Some Free
wild_range low high size place prefix can wild begun within =
    let first : low ≡ 0 = grind (arith, nat_tests) in
    let last : high ≡ 256 ^ size - 1 = grind (arith, nat_tests, can.within_size) in
    rw (first, last) (all_stays_free size place prefix begun within)

-- and every wild value
wild_after : (value : FieldValue) (size place prefix : ℕ) → CanMatch value size → is_wild value size ≡ true →
    place ≤ size → prefix < 256 ^ place → edge_after value size place prefix ≡ Some Free
wild_after (Range low high) size place prefix = wild_range low high size place prefix
wild_after (Mask value bits) size place prefix = λ can wild begun within.
    let same = as_its_range (Mask value bits) size in
    sym (same.edge place prefix)
    ∙ wild_range _ _ size place prefix (same.lawful can) (same.wild can ∙ wild) begun within
wild_after (Bitmask value mask) size place prefix = λ can wild begun within.
    let left : ℕ = size - place in
    rw (eqb-true mask 0 wild) (unfold edge_after edge_of in rw (
      bitmask_rest value 0 size place prefix left (omega arith),
      zero-div (256 ^ left),
      and_zero_r prefix,
      and_zero_r (value / 256 ^ left),
    ) refl)

-- the edge of a wild value is free after any bytes
pub wild_stays_free : WildValuesStayFree
wild_stays_free = record {
  edge = wild_after;
  step = λ value size place byte can wild begun below.
      let more : 256 ≤ 256 ^ (place + 1) = (let next : 256 ^ (place + 1) ≡ 256 ^ place * 256 =
      rw add-one (pow-suc 256 place) in omega (arith, next, one-le-pow place 256 (omega arith))) in
      let next : 0 * 256 + byte < 256 ^ (place + 1) = omega (arith, more) in
      step_form value size place 0 byte Free begun below
      (wild_after value size place 0 can wild (omega arith) (bytes_above_0 place))
      ∙ wild_after value size (place + 1) (0 * 256 + byte) can wild (omega arith) next;
}

-- a free edge of a range stands for all numbers
free_step : (low high size place byte : ℕ) → place < size → byte < 256 →
    edge_step (Range low high) size place Free byte ≡ Some Free
unfolding edge_step rest_step edge_after
free_step low high size place byte begun below =
    let one : 256 ^ 1 ≡ 256 = refl in
    let left : size - (place + 1) ≡ size - place - 1 = omega arith in
    let all : edge_after (Range 0 (256 ^ (size - place) - 1)) (size - place) 1 byte ≡ Some Free =
    all_stays_free (size - place) 1 byte (omega arith) (omega arith) in
    rw (rest_of_open (Range low high) size place Free begun, left) all

-- a mask or a range that leaves all numbers leaves all after one more byte
pub free_stays_free : FreeEdgesStayFree
free_stays_free = record {
  mask = λ value bits size place byte begun below.
      sym ((as_its_range (Mask value bits) size).step place byte Free) ∙ free_step _ _ size place byte begun below;
  range = free_step;
}

-- where an interval is left of which neither end is inner, each byte leaves one again
pub all_left_step : (value : FieldValue) (size place byte : ℕ) (edge : Edge) →
    (same_edge edge Free && not (is_bitmask value)) ≡ true →
    place < size → byte < 256 → edge_step value size place edge byte ≡ Some Free
all_left_step value size place byte edge all begun below =
    let parts = and_parts (same_edge edge Free) (not (is_bitmask value)) all in
    rw (one_edge edge Free parts.0) (free value parts.1)
  where
    free : (v : FieldValue) → not (is_bitmask v) ≡ true → edge_step v size place Free byte ≡ Some Free
    free (Mask value bits) interval = free_stays_free.mask value bits size place byte begun below
    free (Range low high) interval = free_step low high size place byte begun below
    free (Bitmask value mask) interval = absurd (false≢true interval)

-- What is so where each byte leaves all numbers.
module _ (value : FieldValue) (size place : ℕ) (edge : Edge)
    (all : (same_edge edge Free && not (is_bitmask value)) ≡ true) (begun : place < size) where
  -- there is no cut
  pub all_left_uncut : (byte : ℕ) → byte < 256 → is_cut value size place edge byte ≡ false
  unfolding is_cut is_change
  all_left_uncut byte below = rw (
    all_left_step value size place byte edge all begun below,
    all_left_step value size place (byte - 1) edge all begun (omega arith),
  ) (and_right (ltb 0 byte) false refl)

  -- and the ends are the outermost bytes
  pub all_left_within : AnswersWithin (edge_step value size place edge) 0 255
  all_left_within byte above below = rw (all_left_step value size place byte edge all begun (omega arith)) refl

  -- there are answers from the first byte to the last one
  pub all_left_ends : AreEnds (edge_step value size place edge) 0 255
  all_left_ends = record {
    first_answers = all_left_within 0 (omega arith) (omega arith);
    last_answers = all_left_within 255 (omega arith) (omega arith);
    ordered = omega arith;
    none_outside = λ byte below some. (omega arith, omega arith);
  }

-- What two boxes have in common has the packets of both.
use Rattle.std.proofs.Common.{◌≡◌, ℕ, List, [], ◌∷◌, Bool, true, false, ◌&&◌, Option, Some, None}
use Rattle.std.proofs.Common.{refl, sym, ◌∙◌, inl, inr, arith, take, drop, cond}
use Rattle.std.proofs.Math.Dec.{leb}
use Rattle.std.proofs.lemmas.Bool.{cases_Bool, and_parts, and_from}
use Rattle.std.proofs.lemmas.Bool.Decides.{leb_tells}
use Rattle.byte_numbers.specs.Number.{number_of}
use Rattle.field_defs.specs.declared.field.FieldDef.{FieldDef}
use Rattle.list_chains.specs.FlatLaws.{holds_in, IsMeet}
use Rattle.list_chains.specs.declared.span.Span.{Span}
use Rattle.list_chains.specs.Spans.{in_span, in_box, common, before, box_meet, lies_in, is_inside}

-- the numbers of both spans
span_met : (one other : Span) (x : ℕ) → in_span (common one other) x ≡ (in_span one x && in_span other x)
span_met one other x = grind (
  arith,
  leb_tells one.low other.low,
  leb_tells one.high other.high,
  leb_tells one.low x,
  leb_tells other.low x,
  leb_tells x one.high,
  leb_tells x other.high,
)

-- where there are none
no_span : (one other : Span) (x : ℕ) → leb (common one other).low (common one other).high ≡ false →
    (in_span one x && in_span other x) ≡ false
no_span one other x none = grind (
  arith,
  leb_tells one.low other.low,
  leb_tells one.high other.high,
  leb_tells one.low x,
  leb_tells other.low x,
  leb_tells x one.high,
  leb_tells x other.high,
  leb_tells (common one other).low (common one other).high,
)

-- nothing after a test
and_false : (b : Bool) → (b && false) ≡ false
and_false true = refl
and_false false = refl

-- two tests of each of two
four : (a b c d : Bool) → ((a && b) && (c && d)) ≡ ((a && c) && (b && d))
four true true c d = refl
four true false true d = refl
four true false false d = refl
four false b c d = refl

-- the same where the first two can't both be
nowhere : (a b c d : Bool) → (a && b) ≡ false → ((a && c) && (b && d)) ≡ false
nowhere true true c d e = absurd (cc)
nowhere true false true d e = refl
nowhere true false false d e = refl
nowhere false b c d e = refl

-- no box without fields has a span
nothing : (b : Bool) (span : Span) (rest : Option (List Span)) (key : List ℕ) →
    holds_in (λ box. in_box [] box key) (cond b (before span rest) None) ≡ false
nothing false span rest key = refl
nothing true span None key = refl
nothing true span (Some spans) key = refl

-- a span before a box
in_before : (def : FieldDef) (defs : List FieldDef) (span : Span) (rest : Option (List Span)) (key : List ℕ) →
    holds_in (λ box. in_box (def ∷ defs) box key) (before span rest)
    ≡ (in_span span (number_of (take def.size key)) && holds_in (λ box. in_box defs box (drop def.size key)) rest)
in_before def defs span None key = sym (and_false (in_span span (number_of (take def.size key))))
in_before def defs span (Some spans) key = refl

-- the keys of both boxes
in_met : (defs : List FieldDef) (one other : List Span) (key : List ℕ) →
    holds_in (λ box. in_box defs box key) (box_meet one other) ≡ (in_box defs one key && in_box defs other key)
in_met [] [] [] key = refl
in_met [] [] (y ∷ ys) key = refl
in_met [] (x ∷ xs) [] key = refl
in_met [] (x ∷ xs) (y ∷ ys) key = nothing (leb (common x y).low (common x y).high) (common x y) (box_meet xs ys) key
in_met (def ∷ defs) [] [] key = refl
in_met (def ∷ defs) [] (y ∷ ys) key = refl
in_met (def ∷ defs) (x ∷ xs) [] key = sym (and_false (in_box (def ∷ defs) (x ∷ xs) key))
in_met (def ∷ defs) (x ∷ xs) (y ∷ ys) key =
    let n : ℕ = number_of (take def.size key) in
    elim (cases_Bool (leb (common x y).low (common x y).high)) [
      | inl e ↦ rw e (in_before def defs (common x y) (box_meet xs ys) key
          ∙ rw (span_met x y n, in_met defs xs ys (drop def.size key))
          (four (in_span x n) (in_span y n) (in_box defs xs (drop def.size key)) (in_box defs ys (drop def.size key))))
      | inr e ↦ rw e (sym (nowhere (in_span x n) (in_span y n) (in_box defs xs (drop def.size key))
          (in_box defs ys (drop def.size key)) (no_span x y n e)))
    ]

-- and of no others
pub box_meet_is_meet : (defs : List FieldDef) (key : List ℕ) → IsMeet (λ box. in_box defs box key) box_meet
box_meet_is_meet defs key one other = in_met defs one other key

-- a number of a span is in one that it lies in
in_wider : (one other : Span) (x : ℕ) → lies_in one other ≡ true → in_span one x ≡ true → in_span other x ≡ true
in_wider one other x inside holds = grind (
  arith,
  leb_tells other.low one.low,
  leb_tells one.high other.high,
  leb_tells one.low x,
  leb_tells x one.high,
  leb_tells other.low x,
  leb_tells x other.high,
  inside,
  holds,
)

-- and so is a key of a box
pub in_wider_box : (defs : List FieldDef) (one other : List Span) (key : List ℕ) → is_inside one other ≡ true →
    in_box defs one key ≡ true → in_box defs other key ≡ true
in_wider_box [] [] [] key inside holds = refl
in_wider_box [] [] (y ∷ ys) key inside holds = absurd (cc)
in_wider_box [] (x ∷ xs) other key inside holds = absurd (cc)
in_wider_box (def ∷ defs) [] other key inside holds = absurd (cc)
in_wider_box (def ∷ defs) (x ∷ xs) [] key inside holds = absurd (cc)
in_wider_box (def ∷ defs) (x ∷ xs) (y ∷ ys) key inside holds =
    let n : ℕ = number_of (take def.size key) in
    let parts = and_parts (lies_in x y) (is_inside xs ys) inside in
    let held = and_parts (in_span x n) (in_box defs xs (drop def.size key)) holds in
    and_from (in_span y n) (in_box defs ys (drop def.size key)) (in_wider x y n parts.0 held.0)
    (in_wider_box defs xs ys (drop def.size key) parts.1 held.1)

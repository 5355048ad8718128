-- What two boxes have in common, one span after another.
use Rattle.std.proofs.Common.{◌≡◌, ℕ, suc, ◌≤◌, ◌<◌, List, [], ◌∷◌, ◌++◌, length, drop, get_or, cond, Bool, true, false, ◌&&◌}
use Rattle.std.proofs.Common.{Option, Some, None, refl, sym, ap, ◌∙◌, subst, arith}
use Rattle.std.specs.Option.{option_map}
use Rattle.std.proofs.Math.Dec.{leb}
use Rattle.std.proofs.Math.Seq.{drop-cons}
use Rattle.std.proofs.lemmas.Bool.{le-leb}
use Rattle.std.proofs.lemmas.Bool.Decides.{leb_tells}
use Rattle.list_chains.specs.declared.span.Span.{Span}
use Rattle.list_chains.specs.Spans.{common, before, box_meet, lies_in, is_inside}

-- whether a first span has a number or not, there is no box without a box of the others
either_none : (b : Bool) → cond {A = Option (List Span)} b None None ≡ None
either_none true = refl
either_none false = refl

-- boxes of different lengths have nothing in common
pub differ : (ones others : List Span) → (length ones ≡ length others → ⊥) → box_meet ones others ≡ None
differ [] [] h = absurd (h refl)
differ [] (y ∷ ys) h = refl
differ (x ∷ xs) [] h = refl
differ (x ∷ xs) (y ∷ ys) h =
    rw (differ xs ys (λ e. h (ap (λ n. suc n) e))) (either_none (leb (common x y).low (common x y).high))

-- the span of a number
abbrev pub zero_span : Span
zero_span = record { low = 0; high = 0 }

-- a number that is above another isn't at most that one
not_below : (a b : ℕ) → b < a → leb a b ≡ false
not_below a b h = grind (arith, leb_tells a b, h)

-- what two boxes have in common from a place on is that of the spans there, and that of those after it
pub no_more : (ones others : List Span) (i : ℕ) (met : Span) → i < length ones → length ones ≡ length others →
    met ≡ common (get_or ones i zero_span) (get_or others i zero_span) → met.high < met.low →
    box_meet (drop i ones) (drop i others) ≡ None
no_more ones others i met within same e empty =
    let it : (common (get_or ones i zero_span) (get_or others i zero_span)).high
    < (common (get_or ones i zero_span) (get_or others i zero_span)).low =
    subst (λ m. m.high < m.low) e empty in
    rw (drop-cons ones i zero_span within, drop-cons others i zero_span (rw (← same) within), not_below _ _ it) refl

-- an element after some is before the rest
appended : (xs : List Span) (x : Span) (ys : List Span) → xs ++ (x ∷ ys) ≡ (xs ++ (x ∷ [])) ++ ys
appended [] x ys = refl
appended (z ∷ xs) x ys = ap (λ rest. z ∷ rest) (appended xs x ys)

-- the spans so far, and one more
kept : (items : List Span) (x : Span) (rest : Option (List Span)) →
    option_map (λ r. items ++ r) (before x rest) ≡ option_map (λ r. (items ++ (x ∷ [])) ++ r) rest
kept items x None = refl
kept items x (Some rest) = ap (λ r. Some r) (appended items x rest)

-- the same for a span that has a number
one_more_at : (items ones others : List Span) (i : ℕ) → i < length ones → length ones ≡ length others →
    (common (get_or ones i zero_span) (get_or others i zero_span)).low
    ≤ (common (get_or ones i zero_span) (get_or others i zero_span)).high →
    option_map (λ r. items ++ r) (box_meet (drop i ones) (drop i others))
    ≡ option_map (λ r. (items ++ (common (get_or ones i zero_span) (get_or others i zero_span) ∷ [])) ++ r)
    (box_meet (drop (suc i) ones) (drop (suc i) others))
one_more_at items ones others i within same filled =
    rw (drop-cons ones i zero_span within, drop-cons others i zero_span (rw (← same) within), le-leb _ _ filled)
    (kept items (common (get_or ones i zero_span) (get_or others i zero_span))
    (box_meet (drop (suc i) ones) (drop (suc i) others)))

-- and with the span that was made
pub one_more : (items ones others : List Span) (i : ℕ) (met : Span) → i < length ones → length ones ≡ length others →
    met ≡ common (get_or ones i zero_span) (get_or others i zero_span) → met.low ≤ met.high →
    option_map (λ r. items ++ r) (box_meet (drop i ones) (drop i others))
    ≡ option_map (λ r. (items ++ (met ∷ [])) ++ r) (box_meet (drop (suc i) ones) (drop (suc i) others))
one_more items ones others i met within same e filled =
    one_more_at items ones others i within same (subst (λ m. m.low ≤ m.high) e filled)
    ∙ ap (λ m. option_map (λ r. (items ++ (m ∷ [])) ++ r) (box_meet (drop (suc i) ones) (drop (suc i) others))) (sym e)

-- none of the spans so far
pub from_none : (r : Option (List Span)) → r ≡ option_map (λ (rest : List Span). [] ++ rest) r
from_none None = refl
from_none (Some rest) = refl

-- boxes of different lengths don't lie in one another
pub outside : (ones others : List Span) → (length ones ≡ length others → ⊥) → is_inside ones others ≡ false
outside [] [] h = absurd (h refl)
outside [] (y ∷ ys) h = refl
outside (x ∷ xs) [] h = refl
outside (x ∷ xs) (y ∷ ys) h = rw (outside xs ys (λ e. h (ap (λ n. suc n) e))) (and_none (lies_in x y))
  where
    and_none : (b : Bool) → (b && false) ≡ false
    and_none true = refl
    and_none false = refl

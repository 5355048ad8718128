-- The rest after a prefix is what completes it to a number that matches, and rests are compared by their numbers.
use Rattle.std.proofs.lemmas.Bool.Decides.{nat_tests}
use Rattle.std.proofs.Common.{◌&&◌}
use Rattle.std.proofs.Common.{◌≡◌, ◌==◌, true, refl, ℕ, zero, suc, ◌+◌, ◌-◌, ◌*◌, ◌%◌, ◌^◌, ◌<◌, ◌≤◌, min, max}
use Rattle.std.proofs.Common.{Bool, false, Some, None, IsSome, sym, ◌∙◌, inl, inr, arith, leb}
use Rattle.std.proofs.lemmas.Bool.{and_parts, and_from, eq-eqb, cases_lt, le-leb, leb-true}
use Rattle.node_expand.specs.Rest.{Rest, Interval, Live, same_rest, live_where, rest_after}
use Rattle.node_expand.specs.Laws.{RestsAreCompared, HoldsCompletions, RestsHoldCompletions, Completes}
use Rattle.std.proofs.lemmas.Nat.{mod_below}
use Rattle.list_lemmas.proofs.Powers.{bytes_as_bits, bytes_above_0}
use Rattle.field_defs.specs.declared.field.FieldValue.{FieldValue}
use Rattle.field_defs.specs.declared.field.FieldValue.TheVariants.{Mask, Range, Bitmask}
use Rattle.field_defs.specs.FieldMatch.{field_match}
use Rattle.list_lemmas.proofs.Agreeing.{agrees, completed_bits, bits_agree}
use Rattle.node_expand.proofs.Steps.{closing, closing-none, part_none, part_some, range_rest, rest_whole, rest_as_range}
use Rattle.node_expand.proofs.Steps.{mask_as_range, bitmask_rest}

-- what is one is compared as one
same_rest-refl : (rest : Rest) → same_rest rest rest ≡ true
same_rest-refl (Interval low high) = and_from (low == low) (high == high) (eq-eqb low low refl) (eq-eqb high high refl)
same_rest-refl Live = refl

-- and what is compared as one is one
one_rest : (one other : Rest) → same_rest one other ≡ true → one ≡ other
one_rest (Interval low high) (Interval low' high') same = grind (arith, nat_tests)
one_rest Live Live same = refl
one_rest (Interval low high) Live same = absurd cc
one_rest Live (Interval low high) same = absurd cc

-- two rests are one exactly if the comparison says so
pub rests_compared : RestsAreCompared
rests_compared one other = (one_rest one other, λ same. rw same (same_rest-refl other))

-- with no byte left there is a rest where the part isn't empty, and no interval
some_closing : (left : ℕ) (r : Rest) → IsSome (closing left (Some r))
some_closing zero r = refl
some_closing (suc left) r = refl

-- what is left of a rest as an interval was that interval before
closing_interval : (left first last : ℕ) (found : Rest) → closing left (Some found) ≡ Some (Interval first last) →
    found ≡ Interval first last
closing_interval zero first last found is = cc
closing_interval (suc left) first last found is = cc

-- the rest of what matches as a range does is what completes the prefix
range_holds : (value : FieldValue) (low high size place prefix : ℕ) → place ≤ size →
    rest_after value size place prefix ≡ rest_after (Range low high) size place prefix →
    ((number : ℕ) → field_match value size number ≡ (leb low number && leb number high)) →
    HoldsCompletions value size place prefix
range_holds value low high size place prefix within is alike =
    let left : ℕ = size - place in
    let count : ℕ = 256 ^ left in
    let positive : 0 < count = bytes_above_0 left in
    let rest = is ∙ range_rest low high size place prefix left (omega arith) in
    let inside : (number : ℕ) → Completes value size place prefix number →
    (low ≤ prefix * count + number) × (prefix * count + number ≤ high) = λ number completes.
    (let parts = and_parts _ _ (sym (alike _) ∙ completes) in (leb-true _ _ parts.0, leb-true _ _ parts.1)) in
    elim (cases_lt (min high (prefix * count + (count - 1))) (max low (prefix * count))) [
      | inl none ↦
          let never : rest_after value size place prefix ≡ None =
          rest ∙ rw (part_none low high count prefix none) (closing-none left) in record {
            live = (
              λ h. absurd cc,
              λ w. absurd (let at = inside w.0 w.2 in omega (arith, none, w.1, at.0, at.1)),
            );
            interval = λ first last h. absurd cc;
            bounds = λ first last h. absurd cc;
          }
      | inr met ↦
          let first_left : ℕ = max low (prefix * count) - prefix * count in
          let last_left : ℕ = min high (prefix * count + (count - 1)) - prefix * count in
          let found : rest_after value size place prefix ≡ closing left (Some (Interval first_left last_left)) =
          rw (part_some low high count prefix met) at rest in
          let completes : (number : ℕ) → low ≤ prefix * count + number → prefix * count + number ≤ high →
          Completes value size place prefix number = λ number above below.
          alike _ ∙ and_from _ _ (le-leb _ _ above) (le-leb _ _ below) in
          let ends : (first last : ℕ) → rest_after value size place prefix ≡ Some (Interval first last) →
          Interval first_left last_left ≡ Interval first last = λ first last h.
          closing_interval left first last _ (sym found ∙ h) in
          record {
            live = (
              λ _. (first_left, omega arith, completes first_left (omega arith) (omega arith)),
              λ _. rw found (some_closing left _),
            );
            interval = λ first last h number below.
                let e = ends first last h in
                let lower : first_left ≡ first = cc in
                let upper : last_left ≡ last = cc in (
                  λ w. (let at = inside number w in (omega (arith, at.0, lower), omega (arith, at.1, upper))),
                  λ w. completes number (omega (arith, w.0, lower)) (omega (arith, w.1, upper)),
                );
            bounds = λ first last h.
                let e = ends first last h in
                let lower : first_left ≡ first = cc in
                let upper : last_left ≡ last = cc in
                (omega (arith, lower, upper), omega (arith, upper));
          }
    ]

-- what is live is no interval
pub live_only : (test : Bool) (before : Rest) → live_where test ≡ Some before → before ≡ Live
live_only true before is = cc
live_only false before is = cc

-- what is live is there where the test passes
some_live : (test : Bool) → (IsSome (live_where test) → test ≡ true) × (test ≡ true → IsSome (live_where test))
some_live true = (λ _. refl, λ _. refl)
some_live false = (λ h. absurd cc, λ h. absurd cc)

-- the rest of a bitmask is what completes the prefix
bitmask_holds : (value mask size place prefix : ℕ) → place ≤ size →
    HoldsCompletions (Bitmask value mask) size place prefix
bitmask_holds value mask size place prefix within =
    let left : ℕ = size - place in
    let bits : 256 ^ left ≡ 2 ^ (8 * left) = sym (bytes_as_bits left) in
    let is : rest_after (Bitmask value mask) size place prefix ≡ live_where (agrees value mask (256 ^ left) prefix) =
    bitmask_rest value mask size place prefix left (omega arith) in
    let live = some_live (agrees value mask (256 ^ left) prefix) in
    record {
      live = rw is (
        λ h. (
          value % 256 ^ left,
          mod_below value (256 ^ left) (bytes_above_0 left),
          rw bits (completed_bits value mask (8 * left) prefix (rw bits at (live.0 h))),
        ),
        λ w. live.1 (rw bits (bits_agree value mask (8 * left) prefix w.0 (rw bits at w.1) (rw bits at w.2))),
      );
      interval = λ first last h number below. absurd (let never = live_only _ (Interval first last) (sym is ∙ h) in cc);
      bounds = λ first last h. absurd (let never = live_only _ (Interval first last) (sym is ∙ h) in cc);
    }

-- each kind's rest is what completes the prefix
begun : (value : FieldValue) (size place prefix : ℕ) → place ≤ size → HoldsCompletions value size place prefix
begun (Mask value bits) size place prefix within = range_holds (Mask value bits) _ _ size place prefix within
    (rest_as_range value bits size place prefix) (mask_as_range value bits size)
begun (Range low high) size place prefix within = range_holds (Range low high) low high size place prefix within refl
    (λ number. refl)
begun (Bitmask value mask) size place prefix within = bitmask_holds value mask size place prefix within

-- every rest is what completes its prefix to a number that matches
pub rests_hold_completions : RestsHoldCompletions
rests_hold_completions = record { begun = begun; whole = rest_whole }

-- Steps within so many numbers come back to one of them.
use Rattle.std.proofs.Common.{◌≡◌, ℕ, zero, suc, ◌+◌, ◌-◌, ◌<◌, ◌≤◌, eqb, ltb, cond, ◌⊎◌, inl, inr, sym, ap, ◌∙◌}
use Rattle.std.proofs.Common.{arith, zero-add}
use Rattle.std.proofs.lemmas.Bool.{cases_Bool, cases_lt, cond-true, cond-false, eq-eqb, eqb-true, false≢true, le-ltb}
use Rattle.std.proofs.lemmas.Bool.{lt-ltb}

-- so many steps from a number
abbrev pub steps : (ℕ → ℕ) → ℕ → ℕ → ℕ
steps onward zero x = x
steps onward (suc count) x = steps onward count (onward x)

-- some steps and then more
pub steps_more : (onward : ℕ → ℕ) (first second x : ℕ)
    → steps onward (first + second) x ≡ steps onward second (steps onward first x)
steps_more onward zero second x = ap (λ count. steps onward count x) (zero-add second)
steps_more onward (suc first) second x =
    let on : suc first + second ≡ suc (first + second) = omega arith in
    ap (λ count. steps onward count x) on ∙ steps_more onward first second (onward x)

-- a number stands at a place below another
record IsAmong (at : ℕ → ℕ) (x count : ℕ) : Type 0 where
  place : ℕ
  within : place < count
  is : at place ≡ x

-- it doesn't
abbrev IsNotAmong : (ℕ → ℕ) → ℕ → ℕ → Type 0
IsNotAmong at x count = (place : ℕ) → place < count → at place ≡ x → ⊥

-- one of both
among : (at : ℕ → ℕ) (x count : ℕ) → IsAmong at x count ⊎ IsNotAmong at x count
among at x zero = inr (λ place within is. omega (arith, within))
among at x (suc count) = elim (cases_Bool (eqb (at count) x)) [
  | inl same ↦ inl (record { place = count; within = omega arith; is = eqb-true (at count) x same })
  | inr other ↦ elim (among at x count) [
    | inl found ↦ inl (record { place = found.place; within = omega (arith, found.within); is = found.is })
    | inr none ↦ inr (λ place within is. elim (cases_lt place count) [
      | inl below ↦ none place below is
      | inr past ↦
          let last : place ≡ count = omega (arith, within, past) in
          false≢true (sym other ∙ eq-eqb (at count) x (ap at (sym last) ∙ is))
    ])
  ]
]

-- the numbers without one of them, in their order
abbrev without : ℕ → ℕ → ℕ
without one x = cond (ltb x one) x (x - 1)

-- those below it stay
without_below : (one x : ℕ) → x < one → without one x ≡ x
without_below one x below = cond-true (ltb x one) _ _ (lt-ltb x one below)

-- and those above move by one
without_above : (one x : ℕ) → one ≤ x → without one x ≡ x - 1
without_above one x above = cond-false (ltb x one) _ _ (le-ltb x one above)

-- so they are one fewer
without_less : (one x count : ℕ) → one < suc count → x < suc count → (x ≡ one → ⊥) → without one x < count
without_less one x count there within other = elim (cases_lt x one) [
  | inl below ↦ omega (arith, without_below one x below, below, there)
  | inr above ↦ elim (cases_lt one x) [
    | inl higher ↦ omega (arith, without_above one x above, higher, within)
    | inr lower ↦ absurd (other (omega (arith, above, lower)))
  ]
]

-- and two of them are one only if they were
without_same : (one x y : ℕ) → (x ≡ one → ⊥) → (y ≡ one → ⊥) → without one x ≡ without one y → x ≡ y
without_same one x y other another same = elim (cases_lt x one) [
  | inl below ↦ elim (cases_lt y one) [
    | inl lower ↦ sym (without_below one x below) ∙ same ∙ without_below one y lower
    | inr above ↦ elim (cases_lt one y) [
      | inl higher ↦
          absurd (omega (arith, without_below one x below, same, without_above one y above, below, higher))
      | inr equal ↦ absurd (another (omega (arith, above, equal)))
    ]
  ]
  | inr above ↦ elim (cases_lt one x) [
    | inl higher ↦ elim (cases_lt y one) [
      | inl below ↦
          absurd (omega (arith, without_above one x above, same, without_below one y below, below, higher))
      | inr over ↦ elim (cases_lt one y) [
        | inl upper ↦
            omega (arith, without_above one x above, same, without_above one y over, higher, upper)
        | inr equal ↦ absurd (another (omega (arith, over, equal)))
      ]
    ]
    | inr equal ↦ absurd (other (omega (arith, above, equal)))
  ]
]

-- at two places stands one number
pub record IsTwice (at : ℕ → ℕ) (count : ℕ) : Type 0 where
  pub first : ℕ
  pub second : ℕ
  pub apart : first < second
  pub within : second ≤ count
  pub same : at first ≡ at second

-- of one number more than there are below a bound, all below it, one comes twice
pub twice : (count : ℕ) (at : ℕ → ℕ) → ((place : ℕ) → place ≤ count → at place < count) → IsTwice at count
twice zero at below = absurd (omega (arith, below 0 (omega arith)))
twice (suc count) at below =
    let last = at (suc count) in
    elim (among at last (suc count)) [
      | inl found ↦ record {
        first = found.place;
        second = suc count;
        apart = found.within;
        within = omega arith;
        same = found.is;
      }
      | inr none ↦
          let rest = twice count (λ place. without last (at place))
          (λ place within. without_less last (at place) count (below (suc count) (omega arith))
          (below place (omega (arith, within))) (none place (omega (arith, within)))) in
          record {
            first = rest.first;
            second = rest.second;
            apart = rest.apart;
            within = omega (arith, rest.within);
            same =
                without_same last (at rest.first) (at rest.second)
                (none rest.first (omega (arith, rest.apart, rest.within)))
                (none rest.second (omega (arith, rest.within))) rest.same;
          }
    ]

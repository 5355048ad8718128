use Rattle.std.proofs.Common.{◌≡◌, ℕ, ◌++◌, ◌∷◌, [], List, false, refl, sym, ap, ◌∙◌, arith}
use Rattle.covered_rules.specs.Covered.{is_covered, is_wide_at}
use Rattle.covered_rules.proofs.Keeping.{wide_before, kept_same, kept_more, wide_put, narrow_left, full_left}
use Rattle.covered_rules.proofs.covered.Kept.meet.Goals.{else-len-lt-MOST_WIDE-via-then-len-lt-MOST_WIDE+else-is_wide}
use Rattle.covered_rules.proofs.covered.Kept.meet.Goals.{else-len-lt-MOST_WIDE-via-else-len-lt-MOST_WIDE}
use Rattle.covered_rules.proofs.covered.Kept.meet.Goals as goal

pub is_covered-requires-clause-wide : goal.is_covered-requires-clause-wide
is_covered-requires-clause-wide c =
    rw c.as_slice.ensures.value
    (wide_before c.args.rules.now c.args.place c.args.self.now.places.items c.args.self.now.wide.items c.requires.kept)

pub returns-then-is_covered : goal.returns-then-is_covered
returns-then-is_covered c =
    let set = c.args.rules.now in
    let self = c.args.self.now in
    let asked = ap (λ (ws : List ℕ). is_covered set.layout set.rules ws c.args.place) (sym c.as_slice.ensures.value) in
    kept_same set c.args.place self.places.items self.wide.items c.requires.kept
    (asked ∙ sym c.is_covered.ensures ∙ c.if-is_covered.true)

pub overflow_cast-place : goal.overflow_cast-place
overflow_cast-place c = omega (arith, c.requires.place, c.requires.few)

pub overflow_cast-place-then-is_wide : goal.overflow_cast-place-then-is_wide
overflow_cast-place-then-is_wide c = omega (arith, c.requires.place, c.requires.few)

pub returns-in_ok-push-2 : goal.returns-in_ok-push-2
returns-in_ok-push-2 c =
    let set = c.args.rules.now in
    let place = c.args.place in
    let places = c.args.self.now.places.items in
    let wide = c.args.self.now.wide.items in
    let asked = ap (λ (ws : List ℕ). is_covered set.layout set.rules ws place) (sym c.as_slice.ensures.value) in
    rw (c.in_ok-push.ensures.items, c.in_ok-push-2.ensures.items)
    (kept_more set place places wide (wide ++ place ∷ []) c.requires.kept
    (asked ∙ sym c.is_covered.ensures ∙ c.if-is_covered.false)
    (wide_put set.layout set.rules places wide place c.requires.kept.wide_are
    (omega (arith, c.if-len-lt-MOST_WIDE.true, c.len.ensures)) (sym c.is_wide.ensures ∙ c.if-is_wide.true)))

pub returns-else-len-lt-MOST_WIDE : goal.returns-else-len-lt-MOST_WIDE
returns-else-len-lt-MOST_WIDE c =
    let set = c.args.rules.now in
    let place = c.args.place in
    let places = c.args.self.now.places.items in
    let wide = c.args.self.now.wide.items in
    let asked = ap (λ (ws : List ℕ). is_covered set.layout set.rules ws place) (sym c.as_slice.ensures.value) in
    let free : is_covered set.layout set.rules wide place ≡ false =
    asked ∙ sym c.is_covered.ensures ∙ c.if-is_covered.false in
    let are = c.requires.kept.wide_are in
    rw c.in_ok-push.ensures.items (kept_more set place places wide wide c.requires.kept free
    (elim c.else-len-lt-MOST_WIDE.branch [
      | else-len-lt-MOST_WIDE-via-then-len-lt-MOST_WIDE+else-is_wide w ↦
          narrow_left set.layout set.rules places wide place are (sym w.is_wide.ensures ∙ w.if-is_wide.false)
      | else-len-lt-MOST_WIDE-via-else-len-lt-MOST_WIDE w ↦
          full_left set.layout set.rules places wide place are (is_wide_at set.layout set.rules place) refl
          (omega (arith, w.if-len-lt-MOST_WIDE.false, c.len.ensures))
    ]))

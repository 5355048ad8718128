use Rattle.std.proofs.Common.{◌≤◌, ◌≡◌, ◌<◌, ◌++◌, ◌/◌, false, length, take, [], ◌∷◌, arith, sym}
use Rattle.std.proofs.Common.{ap, ◌∙◌, append_assoc}
use Rattle.std.proofs.Math.Nat.{div-lt_self}
use Rattle.std.specs.Fmt.{digits}
use Rattle.list_lemmas.proofs.Texts.{digits_below, digits_above}
use Rattle.text_scan.proofs.digits.+put_digits.Goals as goal
use Rattle.text_scan.proofs.digits.+put_digits.Goals.{then-value-base, else-value-base}
use Rattle.list_lemmas.proofs.Digits.{digits_more}
use Rattle.list_lemmas.proofs.Parts.{set_last}

pub put_digits-place-requires : goal.put_digits-place-requires
put_digits-place-requires t c = (
  omega (arith, div-lt_self {n = c.args.value} {k = c.args.base} (omega arith) (omega arith)),
  (
    c.requires.base,
    omega (arith, digits_above c.args.base c.args.value c.requires.base c.if-value-base.false (omega arith)),
  ),
)

pub bounds-into-place : goal.bounds-into-place
bounds-into-place t c =
    let short = λ (small : c.args.value < c.args.base).
    ap length (digits_below c.args.base c.args.value c.requires.base small) in
    let long = λ (large : c.args.base ≤ c.args.value).
    digits_above c.args.base c.args.value c.requires.base large (omega arith) in
    grind arith

pub returns-clause-len : goal.returns-clause-len
returns-clause-len t c =
    let short = λ (small : c.args.value < c.args.base).
    ap length (digits_below c.args.base c.args.value c.requires.base small) in
    let long = λ (large : c.args.base ≤ c.args.value).
    digits_above c.args.base c.args.value c.requires.base large (omega arith) in
    grind arith

pub returns-clause-text : goal.returns-clause-text
returns-clause-text t c =
    let a = c.args in
    let front = c.if-value-base.place in
    let into = c.if-value-base.into in
    elim c.if-value-base.branch [
      | then-value-base w ↦
          let text = digits_below a.base a.value c.requires.base w.if-value-base.true in
          let inside : front < length into = omega (arith, ap length text) in
          let before : take front into ≡ take a.at a.into.now = cc in
          set_last into front c.digit_char.result (take a.at a.into.now) inside before
          ∙ ap (λ ds. take a.at a.into.now ++ ds) (ap (λ d. d ∷ []) c.digit_char.ensures ∙ sym text)
      | else-value-base w ↦
          let text = digits_more a.base a.value (omega arith) w.if-value-base.false (omega arith) in
          let long = digits_above a.base a.value c.requires.base w.if-value-base.false (omega arith) in
          let inside : front < length into = omega arith in
          let before : take front into ≡ take a.at a.into.now ++ digits a.base false (a.value / a.base) =
          cc (w.put_digits-place.ensures.text) in
          set_last into front c.digit_char.result
          (take a.at a.into.now ++ digits a.base false (a.value / a.base)) inside before
          ∙ append_assoc (take a.at a.into.now) (digits a.base false (a.value / a.base)) (c.digit_char.result ∷ [])
          ∙ ap (λ ds. take a.at a.into.now ++ ds)
          (ap (λ d. digits a.base false (a.value / a.base) ++ d ∷ []) c.digit_char.ensures ∙ sym text)
    ]

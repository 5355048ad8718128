use Rattle.std.proofs.Common.{◌≡◌, Some, ◌-◌, ◌^◌, true, nat_le, take, arith, sym, ap, ◌∙◌}
use Rattle.std.proofs.lemmas.Bool.{and_from, and_right, le-leb, cond-true, cond-false}
use Rattle.std.proofs.lemmas.List.Folds.{list_all_more}
use Rattle.std.proofs.lemmas.List.{take_all}
use Rattle.std.specs.Char.{is_digit}
use Rattle.text_scan.specs.Digits.{place_value, are_digits}
use Rattle.text_scan.proofs.Numerals.{place_value_more, place_value_above}
use Rattle.text_scan.proofs.digits.digits_value.Goals as goal
use Rattle.list_lemmas.proofs.Texts.{digit_at, product_is}

pub returns-in_err-checked_mul : goal.returns-in_err-checked_mul
returns-in_err-checked_mul c =
    let base = c.args.base in
    let text = c.args.text.now in
    let product =
    product_is c.loop-byte.value c.from-in-loop-byte.result base
    (place_value base (take c.loop-byte.byte-index text)) c.from-in-loop-byte.ensures c.loop-byte.invariant.value in
    let above = place_value_above base text c.loop-byte.byte-index (2 ^ 64 - 1) (omega arith) (omega arith)
    (omega (arith, c.in_err-checked_mul.ensures, product)) in
    c.from_residual-in_err-checked_mul.ensures ∙ sym (cond-false _ _ _ (and_right (are_digits base text) _ above))

pub returns-in_err-value : goal.returns-in_err-value
returns-in_err-value c =
    let base = c.args.base in
    let text = c.args.text.now in
    let value = digit_at c.args.base text c.loop-byte.byte-index c.from.result c.in_ok-digit.digit c.from.ensures
    c.in_ok-digit.ensures.value in
    let product =
    product_is c.loop-byte.value c.from-in-loop-byte.result base
    (place_value base (take c.loop-byte.byte-index text)) c.from-in-loop-byte.ensures c.loop-byte.invariant.value in
    let above = place_value_above base text c.loop-byte.byte-index (2 ^ 64 - 1) (omega arith) (omega arith)
    (omega (arith, c.in_err-value.ensures, c.in_ok-checked_mul.ensures, value, product)) in
    c.from_residual-in_err-value.ensures ∙ sym (cond-false _ _ _ (and_right (are_digits base text) _ above))

pub returns : goal.returns
returns c =
    let base = c.args.base in
    let text = c.args.text.now in
    let whole = take_all c.loop-byte.byte-index text (omega arith) in
    let value = c.loop-byte.invariant.value ∙ ap (place_value base) whole in
    let small : nat_le (place_value base text) (2 ^ 64 - 1) ≡ true =
    le-leb (place_value base text) (2 ^ 64 - 1) (omega (arith, c.loop-byte.invariant.fits)) in
    ap (λ n. Some n) value
    ∙ sym (cond-true _ _ _
    (and_from (are_digits base text) _ (ap (are_digits base) (sym whole) ∙ c.loop-byte.invariant.digits) small))

pub loop-byte-preserved : goal.loop-byte-preserved
loop-byte-preserved c =
    let base = c.args.base in
    let text = c.args.text.now in
    let i = c.loop-byte.byte-index in
    let digit = digit_at c.args.base text i c.from.result c.in_ok-digit.digit c.from.ensures
    c.in_ok-digit.ensures.value in
    let product =
    product_is c.loop-byte.value c.from-in-loop-byte.result base
    (place_value base (take i text)) c.from-in-loop-byte.ensures c.loop-byte.invariant.value in
    let sum = c.in_ok-value.ensures in
    record {
      digits = list_all_more (λ d. is_digit d base) text i 0 (omega arith)
          ∙ and_from (are_digits base (take i text)) _ c.loop-byte.invariant.digits digit.1;
      fits = omega (arith, sum);
      value = omega
          (arith, sum, c.in_ok-checked_mul.ensures, product, digit, place_value_more base text i (omega arith));
    }

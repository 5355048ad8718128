use Rattle.std.proofs.lemmas.Bool.Decides.{nat_tests}
use Rattle.std.proofs.Common.{◌≡◌, ℕ, List, ◌^◌, ◌-◌, ◌≤◌, false, ◌&&◌, nat_le, length, arith, sym, ◌∙◌}
use Rattle.std.proofs.lemmas.Bool.{and_parts, and_right, cond-false}
use Rattle.text_scan.specs.Digits.{place_value, are_digits, is_group}
use Rattle.text_scan.proofs.Numerals.{short_group}
use Rattle.text_scan.proofs.digits.group_value.Goals as goal
use Rattle.list_lemmas.proofs.Tests.{test_passed, test_failed}

-- up to four digits spell no more than 64 bits hold, so only another byte is refused
other_byte : (base : ℕ) (text : List ℕ) → 2 ≤ base → base ≤ 16 → length text ≤ 4
    → (are_digits base text && nat_le (place_value base text) (2 ^ 64 - 1)) ≡ false → are_digits base text ≡ false
other_byte base text low high short refused =
    let small = short_group base text low high short in grind (arith, nat_tests)

pub returns-in_err-digits_value : goal.returns-in_err-digits_value
returns-in_err-digits_value c =
    let base = c.args.base in
    let text = c.args.text.now in
    let other = other_byte c.args.base text c.requires.low c.requires.high (omega arith)
    (test_failed _ _ c.in_err-digits_value.ensures) in
    c.from_residual.ensures
    ∙ sym (cond-false (is_group base c.args.most text) _ _
    (and_right (nat_le 1 (length text) && nat_le (length text) c.args.most) _ other))

pub overflow_cast-result : goal.overflow_cast-result
overflow_cast-result c =
    let text = c.args.text.now in
    let passed = test_passed _ _ _ c.in_ok-digits_value.ensures in
    let digits = (and_parts (are_digits c.args.base text) _ passed.0).0 in
    omega (arith, passed.1, short_group c.args.base text c.requires.low c.requires.high (omega arith) digits)

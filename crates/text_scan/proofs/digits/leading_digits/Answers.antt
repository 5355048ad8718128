use Rattle.std.proofs.Common.{◌≡◌, ℕ, List, Some, ◌^◌, ◌-◌, true, false, nat_le, take, length, arith, sym, ap, ◌∙◌}
use Rattle.std.proofs.lemmas.Bool.{and_parts, and_from, and_right, le-leb, cond-true, cond-false}
use Rattle.std.specs.Char.{is_digit}
use Rattle.text_scan.specs.Digits.{place_value, are_digits, run_of}
use Rattle.list_lemmas.proofs.Texts.{all-run, take-length-run}
use Rattle.text_scan.proofs.digits.leading_digits.Goals as goal
use Rattle.list_lemmas.proofs.Tests.{test_passed, test_failed, second_failed}

-- the digits that were cut off are the run
run_is : (base len : ℕ) (text : List ℕ) → len ≡ length (run_of base text) → take len text ≡ run_of base text
run_is base len text is = ap (λ n. take n text) is ∙ take-length-run (λ c. is_digit c base) text

pub returns-in_err-digits_value : goal.returns-in_err-digits_value
returns-in_err-digits_value c =
    let base = c.args.base in
    let text = c.args.text.now in
    let run = run_of base text in
    let is = run_is base c.run_len-len.result text c.run_len-len.ensures in
    let refused = rw is at (test_failed _ _ c.in_err-digits_value.ensures) in
    let above : nat_le (place_value base run) (2 ^ 64 - 1) ≡ false =
    second_failed (are_digits base run) _ refused (all-run (λ c. is_digit c base) text) in
    c.from_residual.ensures ∙ sym (cond-false _ _ _ (and_right (nat_le 1 (length run)) _ above))

pub returns : goal.returns
returns c =
    let base = c.args.base in
    let text = c.args.text.now in
    let run = run_of base text in
    let is = run_is base c.run_len-len.result text c.run_len-len.ensures in
    let passed = test_passed _ _ _ c.in_ok-digits_value.ensures in
    let value : c.in_ok-digits_value.field-0 ≡ place_value base run = passed.1 ∙ ap (place_value base) is in
    let small : nat_le (place_value base run) (2 ^ 64 - 1) ≡ true =
    ap (λ ds. nat_le (place_value base ds) (2 ^ 64 - 1)) (sym is)
    ∙ (and_parts (are_digits base (take c.run_len-len.result text)) _ passed.0).1 in
    let some : nat_le 1 (length run) ≡ true = le-leb 1 (length run) (omega (arith, c.run_len-len.ensures)) in
    let answer : Some (c.in_ok-digits_value.field-0, c.run_len-len.result) ≡ Some (place_value base run, length run) =
    cc (value, c.run_len-len.ensures) in
    answer ∙ sym (cond-true _ _ _ (and_from (nat_le 1 (length run)) _ some small))

use Rattle.std.proofs.Common.{ℕ, ◌+◌, Some, sym, ap, ◌∙◌}
use Rattle.std.proofs.lemmas.Bool.{cond-true, cond-false}
use Rattle.std.proofs.lemmas.List.{take_rest}
use Rattle.list_lemmas.proofs.Tests.{test_passed, test_failed}
use Rattle.text_scan.specs.Digits.{run_of}
use Rattle.text_scan.proofs.Numerals.{leading_run, leading-marked, leading-plain}
use Rattle.text_scan.proofs.numeral.leading_number.Goals as goal

pub returns-then-is_hexadecimal : goal.returns-then-is_hexadecimal
returns-then-is_hexadecimal c =
    let text = c.args.text.now in
    let mark = sym c.is_hexadecimal.ensures ∙ c.if-is_hexadecimal.true in
    let passed = test_passed _ _ _ c.in_ok-value.ensures in
    ap (λ (p : ℕ × ℕ). Some (p.0, 2 + p.1)) passed.1
    ∙ sym (cond-true _ _ _ passed.0)
    ∙ ap (λ rest. leading_run 16 2 (run_of 16 rest)) (take_rest text 2)
    ∙ sym (leading-marked text mark)

pub returns-in_err-value : goal.returns-in_err-value
returns-in_err-value c =
    let text = c.args.text.now in
    let mark = sym c.is_hexadecimal.ensures ∙ c.if-is_hexadecimal.true in
    c.from_residual.ensures
    ∙ sym (cond-false _ _ _ (test_failed _ _ c.in_err-value.ensures))
    ∙ ap (λ rest. leading_run 16 2 (run_of 16 rest)) (take_rest text 2)
    ∙ sym (leading-marked text mark)

pub returns : goal.returns
returns c =
    c.leading_digits-2.ensures
    ∙ sym (leading-plain c.args.text.now (sym c.is_hexadecimal.ensures ∙ c.if-is_hexadecimal.false))

use Rattle.std.proofs.Common.{ℕ, ◌+◌, ◌-◌, ◌^◌, nat_le, sym, ap, ◌∙◌, arith}
use Rattle.std.proofs.lemmas.List.{take_rest}
use Rattle.std.specs.Bool.{then_some}
use Rattle.list_lemmas.proofs.Tests.{test_passed, test_failed}
use Rattle.text_scan.specs.Numeral.{begins_numeral, numeral_value, numeral_len}
use Rattle.text_scan.proofs.Numerals.{numeral_at-none, numeral_at-some}
use Rattle.text_scan.proofs.numeral.number.Goals as goal

pub returns-in_err-value : goal.returns-in_err-value
returns-in_err-value c =
    let bytes = c.args.bytes.now in
    let at = c.args.at in
    let none = ap (begins_numeral (2 ^ 64 - 1)) (sym (take_rest bytes at)) ∙ test_failed _ _ c.in_err-value.ensures in
    c.from_residual.ensures ∙ sym (numeral_at-none bytes at c.args.max (omega arith) none)

pub returns : goal.returns
returns c =
    let bytes = c.args.bytes.now in
    let at = c.args.at in
    let max = c.args.max in
    let rest = take_rest bytes at in
    let passed = test_passed _ _ _ c.in_ok-value.ensures in
    let begins = ap (begins_numeral (2 ^ 64 - 1)) (sym rest) ∙ passed.0 in
    let found = passed.1 ∙ ap (λ text. (numeral_value text, numeral_len text)) rest in
    c.then_some.ensures
    ∙ ap (λ (p : ℕ × ℕ). then_some (nat_le p.0 max) (p.0, at + p.1)) found
    ∙ numeral_at-some bytes at max begins

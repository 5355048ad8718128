-- A number below 10 is its digit.
use Rattle.std.proofs.Common.{◌++◌, ◌∙◌, sym, ap, arith, length, take}
use Rattle.std.proofs.lemmas.Fmt.{decimal_digit}
use Rattle.acl_report.proofs.line.append_digits.Goals as goal

pub append-requires : goal.append-requires
append-requires c = omega (arith, c.requires, ap length (decimal_digit c.args.number c.if-number-lt10.true))

pub returns-then-number-lt10-clause-end : goal.returns-then-number-lt10-clause-end
returns-then-number-lt10-clause-end c =
    omega (arith, c.append.ensures.end, ap length (decimal_digit c.args.number c.if-number-lt10.true))

pub returns-then-number-lt10-clause-line : goal.returns-then-number-lt10-clause-line
returns-then-number-lt10-clause-line c =
    let is = sym (decimal_digit c.args.number c.if-number-lt10.true) in
    c.append.ensures.line ∙ ap (λ digits. take c.args.at c.args.into.now ++ digits) is

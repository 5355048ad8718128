use Rattle.std.proofs.Common.{[], ◌∷◌, sym, ◌∙◌, arith}
use Rattle.list_lemmas.proofs.Tests.{test_failed}
use Rattle.text_scan.proofs.Addresses.{address_of-none}
use Rattle.text_scan.proofs.ip4.address_of.Goals as goal

pub returns-in_err-group_byte : goal.returns-in_err-group_byte
returns-in_err-group_byte c = c.from_residual.ensures ∙ sym (address_of-none
    (c.args.first.now ∷ c.args.second.now ∷ c.args.third.now ∷ c.args.fourth.now ∷ []) 0 (omega arith)
    (test_failed _ _ c.in_err-group_byte.ensures))

pub returns-in_err-group_byte-2 : goal.returns-in_err-group_byte-2
returns-in_err-group_byte-2 c = c.from_residual-in_err-group_byte-2.ensures ∙ sym (address_of-none
    (c.args.first.now ∷ c.args.second.now ∷ c.args.third.now ∷ c.args.fourth.now ∷ []) 1 (omega arith)
    (test_failed _ _ c.in_err-group_byte-2.ensures))

pub returns-in_err-group_byte-3 : goal.returns-in_err-group_byte-3
returns-in_err-group_byte-3 c = c.from_residual-in_err-group_byte-3.ensures ∙ sym (address_of-none
    (c.args.first.now ∷ c.args.second.now ∷ c.args.third.now ∷ c.args.fourth.now ∷ []) 2 (omega arith)
    (test_failed _ _ c.in_err-group_byte-3.ensures))

pub returns-in_err-group_byte-4 : goal.returns-in_err-group_byte-4
returns-in_err-group_byte-4 c = c.from_residual-in_err-group_byte-4.ensures ∙ sym (address_of-none
    (c.args.first.now ∷ c.args.second.now ∷ c.args.third.now ∷ c.args.fourth.now ∷ []) 3 (omega arith)
    (test_failed _ _ c.in_err-group_byte-4.ensures))

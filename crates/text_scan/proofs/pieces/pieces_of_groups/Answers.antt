use Rattle.std.proofs.Common.{◌≡◌, Some, true, false, eqb, nat_le, length, take, arith, sym, ap, ◌∙◌, rules, tests}
use Rattle.std.proofs.lemmas.Bool.{and_left, and_right, and_from, cond-true, cond-false, lt-leb, le-leb, ltb-true}
use Rattle.std.proofs.lemmas.Bool.{ltb-false}
use Rattle.std.proofs.lemmas.Iterator.Consumers.{YieldsList-turn, YieldsList-end}
use Rattle.std.proofs.lemmas.Iterator.Splits.{YieldsList-from_slice_split}
use Rattle.std.proofs.lemmas.List.{length_push, take_all}
use Rattle.std.proofs.lemmas.List.Folds.{list_all_at}
use Rattle.text_scan.specs.Parts.{colon, parts_of}
use Rattle.text_scan.specs.Ip6.{is_ip6_group, are_groups, pieces_of_all}
use Rattle.text_scan.specs.Pieces.{pieces_from}
use Rattle.text_scan.proofs.Addresses.{more_pieces, pieces_next}
use Rattle.text_scan.proofs.pieces.pieces_of_groups.Goals as goal
use Rattle.list_lemmas.proofs.Tests.{test_passed, test_failed}
use Rattle.list_lemmas.proofs.Elements.{list_all_next}

pub returns-in_err-group_value-clause-pieces : goal.returns-in_err-group_value-clause-pieces
returns-in_err-group_value-clause-pieces c =
    let turn = YieldsList-turn
    (YieldsList-from_slice_split {s = c.into_iter-part-iterator.result} _ (λ b. eqb b colon) c.args.text.now
    (search rules) (search rules) (search rules) (λ x r q k. search (rules, tests))) c.loop-part.yielded _
    c.loop-part.yielded_by _ _ c.in-Some.part c.in-Some.is c.next.ensures.steps in
    let parts = parts_of colon c.args.text.now in
    let other = test_failed _ _ c.in_err-group_value.ensures in
    c.from_residual.ensures
    ∙ sym (cond-false _ _ _
    (and_left (are_groups parts) _
    (list_all_at is_ip6_group parts (length c.loop-part.yielded) c.in-Some.part.now turn.0
    (ap is_ip6_group (sym turn.1) ∙ other))))

pub returns-in_err-pieces-clause-pieces : goal.returns-in_err-pieces-clause-pieces
returns-in_err-pieces-clause-pieces c =
    let turn = YieldsList-turn
    (YieldsList-from_slice_split {s = c.into_iter-part-iterator.result} _ (λ b. eqb b colon) c.args.text.now
    (search rules) (search rules) (search rules) (λ x r q k. search (rules, tests))) c.loop-part.yielded _
    c.loop-part.yielded_by _ _ c.in-Some.part c.in-Some.is c.next.ensures.steps in
    let parts = parts_of colon c.args.text.now in
    let full = ltb-false c.loop-part.pieces.count 8 (test_failed _ _ c.in_err-pieces.ensures.pieces) in
    let counted = ap (λ pieces. pieces.count) c.loop-part.invariant.pieces in
    let above : nat_le (length (pieces_of_all parts)) 8 ≡ false =
    lt-leb (length (pieces_of_all parts)) 8
    (omega (arith, more_pieces parts (length c.loop-part.yielded) turn.0, full, counted)) in
    c.from_residual-in_err-pieces.ensures ∙ sym (cond-false _ _ _ (and_right (are_groups parts) _ above))

pub loop-part-preserved : goal.loop-part-preserved
loop-part-preserved c =
    let turn = YieldsList-turn
    (YieldsList-from_slice_split {s = c.into_iter-part-iterator.result} _ (λ b. eqb b colon) c.args.text.now
    (search rules) (search rules) (search rules) (λ x r q k. search (rules, tests))) c.loop-part.yielded _
    c.loop-part.yielded_by _ _ c.in-Some.part c.in-Some.is c.next.ensures.steps in
    let parts = parts_of colon c.args.text.now in
    let part = c.in-Some.part.now in
    let n = length c.loop-part.yielded in
    let held = c.loop-part.invariant in
    let group = test_passed _ _ _ c.in_ok-group_value.ensures in
    let taken = test_passed _ _ _ c.in_ok-pieces.ensures.pieces in
    let longer = length_push c.loop-part.yielded c.in-Some.part in
    record {
      fits = c.in_ok-pieces.ensures.fits;
      few = omega (arith, ltb-true c.loop-part.pieces.count 8 taken.0, ap (λ pieces. pieces.count) taken.1);
      groups = ap (λ k. are_groups (take k parts)) longer
          ∙ list_all_next is_ip6_group parts n part turn held.groups group.0;
      pieces = taken.1
          ∙ pieces_next parts n c.in_ok-group_value.field-0 part c.loop-part.pieces turn group.0 group.1 held.pieces
          ∙ ap (λ k. pieces_from (pieces_of_all (take k parts))) (sym longer);
    }

pub returns-clause-pieces : goal.returns-clause-pieces
returns-clause-pieces c =
    let end = YieldsList-end
    (YieldsList-from_slice_split {s = c.into_iter-part-iterator.result} _ (λ b. eqb b colon) c.args.text.now
    (search rules) (search rules) (search rules) (λ x r q k. search (rules, tests))) c.loop-part.yielded _
    c.loop-part.yielded_by _ _ c.in-None.is c.next.ensures.steps in
    let parts = parts_of colon c.args.text.now in
    let held = c.loop-part.invariant in
    let whole = take_all (length c.loop-part.yielded) parts (omega (arith, end)) in
    let pieces = held.pieces ∙ ap (λ ps. pieces_from (pieces_of_all ps)) whole in
    let counted = ap (λ pieces. pieces.count) pieces in
    let few : nat_le (length (pieces_of_all parts)) 8 ≡ true =
    le-leb (length (pieces_of_all parts)) 8 (omega (arith, held.few, counted)) in
    ap (λ n. Some n) pieces
    ∙ sym (cond-true _ _ _ (and_from (are_groups parts) _ (ap are_groups (sym whole) ∙ held.groups) few))

use Rattle.std.proofs.Common.{◌≡◌, ◌≢◌, ℕ, ◌+◌, ◌-◌, ◌<◌, ◌≤◌, ◌&&◌, false, cond, eqb, nat_le, Option, Some, None, List}
use Rattle.std.proofs.Common.{[], ◌∷◌, ◌++◌, length, take, drop, get_or, refl, arith, sym, ap, ◌∙◌}
use Rattle.std.proofs.lemmas.Bool.{and_parts, cond-false}
use Rattle.std.proofs.lemmas.List.{take_rest}
use Rattle.text_scan.specs.declared.pieces.Pieces.{Pieces}
use Rattle.text_scan.specs.Parts.{colon, parts_of}
use Rattle.text_scan.specs.Ip6.{is_ip6_end, are_groups, are_last_groups, groups_of, pieces_of, pieces_of_all}
use Rattle.text_scan.specs.Pieces.{pieces_from, with_pieces}
use Rattle.text_scan.proofs.Addresses.{read_last, refused_before_last}
use Rattle.list_lemmas.proofs.Texts.{Lacks-drop, parts_of_one, parts_of_split}
use Rattle.text_scan.proofs.pieces.last_pieces.Goals as goal
use Rattle.list_lemmas.proofs.Tests.{test_passed, test_failed}

-- what is answered of groups
abbrev answer : List (List ℕ) → Option Pieces
answer groups =
    cond (are_last_groups groups && nat_le (length (pieces_of_all groups)) 8)
    (Some (pieces_from (pieces_of_all groups))) None

-- what is answered of pieces and a last part
abbrev ended : Pieces → List ℕ → Option Pieces
ended pieces last =
    cond (is_ip6_end last && nat_le (pieces.count + length (pieces_of last)) 8)
    (Some (with_pieces pieces (pieces_of last))) None

-- the groups of a text whose last part begins after a colon
groups_split : (text : List ℕ) (last : ℕ) → eqb (length text) 0 ≡ false → 0 < last → last ≤ length text
    → get_or text (last - 1) 0 ≡ colon → ((k : ℕ) → last ≤ k → k < length text → get_or text k 0 ≢ colon)
    → groups_of text ≡ parts_of colon (take (last - 1) text) ++ drop last text ∷ []
groups_split text last some after within here lacks =
    cond-false _ _ _ some ∙ parts_of_split colon last text after within here lacks

pub returns-then-last-eq0-clause-pieces : goal.returns-then-last-eq0-clause-pieces
returns-then-last-eq0-clause-pieces c =
    let text = c.args.text.now in
    let found = c.last_part-last.ensures in
    let some : eqb (length text) 0 ≡ false = sym c.is_empty.ensures ∙ c.if-is_empty.false in
    let one : groups_of text ≡ text ∷ [] = cond-false _ _ _ some
    ∙ parts_of_one colon text (Lacks-drop colon 0 text (λ k from inside. found.last k (omega arith) inside)) in
    c.with_end.ensures.pieces ∙ read_last [] text (record { count = 0; value = 0 }) refl refl ∙ ap answer (sym one)

pub returns-in_err-pieces_of_groups-clause-pieces : goal.returns-in_err-pieces_of_groups-clause-pieces
returns-in_err-pieces_of_groups-clause-pieces c =
    let text = c.args.text.now in
    let last = c.last_part-last.result in
    let found = c.last_part-last.ensures in
    let some : eqb (length text) 0 ≡ false = sym c.is_empty.ensures ∙ c.if-is_empty.false in
    let split = groups_split text last some (omega arith) found.within (found.after (omega arith)) found.last in
    let refused =
    refused_before_last (parts_of colon (take (last - 1) text)) (drop last text)
    (test_failed _ _ c.in_err-pieces_of_groups.ensures.pieces) in
    c.from_residual.ensures ∙ sym (cond-false _ _ _ refused) ∙ ap answer (sym split)

pub returns-clause-pieces : goal.returns-clause-pieces
returns-clause-pieces c =
    let text = c.args.text.now in
    let last = c.last_part-last.result in
    let found = c.last_part-last.ensures in
    let some : eqb (length text) 0 ≡ false = sym c.is_empty.ensures ∙ c.if-is_empty.false in
    let split = groups_split text last some (omega arith) found.within (found.after (omega arith)) found.last in
    let pieces = c.in_ok-pieces_of_groups.field-0 in
    let before = test_passed _ _ _ c.in_ok-pieces_of_groups.ensures.pieces in
    let front = parts_of colon (take (last - 1) text) in
    c.with_end-2.ensures.pieces
    ∙ ap (ended pieces) (take_rest text last)
    ∙ read_last front (drop last text) pieces (and_parts (are_groups front) _ before.0).0 before.1
    ∙ ap answer (sym split)

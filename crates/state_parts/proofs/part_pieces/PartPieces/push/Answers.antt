use Rattle.std.proofs.Common.{◌≡◌, ℕ, ◌+◌, List, [], ◌∷◌, ◌++◌, length, sym, ◌∙◌, ap, subst, arith, length-append}
use Rattle.state_parts.specs.declared.pieces.Piece.{Piece}
use Rattle.state_parts.specs.Slices.{pieces_of, IsPieces}
use Rattle.state_parts.proofs.SliceLaws.{pieces-push, IsPieces-push}
use Rattle.state_parts.proofs.part_pieces.PartPieces.push.Goals as goal

pub invariant_of-self-2 : goal.invariant_of-self-2
invariant_of-self-2 c =
    let xs : List Piece = c.self.inside.pieces.items in
    let more : List Piece = c.args.pieces.now in
    let ends : List ℕ = c.self.inside.ends.items in
    let grown : c.extend_from_slice.new.self.items ≡ xs ++ more = c.in_ok-extend_from_slice.ensures.items in
    let long : c.len.result ≡ length xs + length more =
    omega (arith, c.len.ensures, c.extend_from_slice.new.self.ok, ap length grown, length-append xs more) in
    let ended : c.push.new.self.items ≡ ends ++ (length xs + length more) ∷ [] =
    c.in_ok-push.ensures.items ∙ (λ i. c.in_ok-reserve.ensures.items i ++ long i ∷ []) in
    subst (λ es. IsPieces 0 es (length c.extend_from_slice.new.self.items)) (sym ended)
    (subst (λ ps. IsPieces 0 (ends ++ (length xs + length more) ∷ []) (length ps)) (sym grown)
    (IsPieces-push xs more 0 ends c.self.invariant))

pub returns : goal.returns
returns c =
    let xs : List Piece = c.self.inside.pieces.items in
    let more : List Piece = c.args.pieces.now in
    let ends : List ℕ = c.self.inside.ends.items in
    let grown : c.extend_from_slice.new.self.items ≡ xs ++ more = c.in_ok-extend_from_slice.ensures.items in
    let long : c.len.result ≡ length xs + length more =
    omega (arith, c.len.ensures, c.extend_from_slice.new.self.ok, ap length grown, length-append xs more) in
    let ended : c.push.new.self.items ≡ ends ++ (length xs + length more) ∷ [] =
    c.in_ok-push.ensures.items ∙ (λ i. c.in_ok-reserve.ensures.items i ++ long i ∷ []) in
    (λ i. pieces_of (grown i) 0 (ended i))
    ∙ pieces-push xs more 0 ends c.self.invariant
    ∙ ap (λ old. old ++ more ∷ []) c.self.view_is

use Rattle.std.proofs.Common.{◌≡◌, ◌-◌, List, [], ◌∷◌, ◌++◌, length, get_or, sym, ◌∙◌, ap, subst, arith, Some}
use Rattle.std.proofs.Common.{option_to_list, vec_len}
use Rattle.state_parts.specs.declared.pieces.Piece.{Piece}
use Rattle.state_parts.specs.Pieces.{Pushed}
use Rattle.state_parts.proofs.Covering.{pushed_after, pushed_within}
use Rattle.state_parts.proofs.pieces.push_piece.Goals as goal

pub returns-then-ends_in : goal.returns-then-ends_in
returns-then-ends_in c =
    let all : List Piece = c.args.pieces.now.items in
    let rest : List Piece = c.pop.new.self.items in
    let ends = rw c.as_slice.ensures.value at (c.ends_in.ensures.same c.if-ends_in.true) in
    let p : Piece = get_or all (length all - 1) (record { last = 0; to = 0 }) in
    let long : vec_len c.args.pieces.now ≡ length all = omega (arith, c.args.pieces.now.ok) in
    let popped = c.pop.ensures.value (record { last = 0; to = 0 }) (omega (arith, ends.0, long))
    ∙ ap (λ n. Some (get_or all (n - 1) (record { last = 0; to = 0 }))) long in
    let split : all ≡ rest ++ p ∷ [] = c.pop.ensures.items ∙ ap (λ found. rest ++ option_to_list found) popped in
    subst (λ new. Pushed all new c.args.last c.args.to) (sym c.in_ok-push.ensures.items)
    (subst (λ old. Pushed old (rest ++ record { last = c.args.last; to = c.args.to } ∷ []) c.args.last c.args.to)
    (sym split) (pushed_within rest p c.args.last c.args.to ends.1))

pub returns : goal.returns
returns c =
    subst (λ new. Pushed c.args.pieces.now.items new c.args.last c.args.to) (sym c.in_ok-push-2.ensures.items)
    (pushed_after c.args.pieces.now.items c.args.last c.args.to
    (rw c.as_slice.ensures.value at (c.ends_in.ensures.other c.if-ends_in.false)))

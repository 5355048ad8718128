use Rattle.std.proofs.Common.{◌≡◌, ℕ, ◌+◌, ◌<◌, ◌++◌, false, length, take, map, get_or, List, [], ◌∷◌, arith, sym, ap}
use Rattle.std.proofs.Common.{◌∙◌, append_assoc, length-set}
use Rattle.std.proofs.lemmas.List.{get_or-map, length-map}
use Rattle.std.specs.Fmt.{digits}
use Rattle.std.specs.List.{join_with_byte}
use Rattle.list_lemmas.proofs.Texts.{Holds, Holds_byte, Holds_piece, Holds_text}
use Rattle.text_scan.proofs.digits.put_groups.Goals as goal
use Rattle.text_scan.proofs.digits.put_groups.Goals.{then-place-gt0, else-place-gt0}
use Rattle.list_lemmas.proofs.Joins.{join_with_byte_more, join_with_byte_first, first_part_fits, next_part_fits}

pub bounds-into-len : goal.bounds-into-len
bounds-into-len c =
    let parts : List (List ℕ) = map (digits c.args.base false) c.args.groups.now in
    let lengths = length-map c.args.groups.now (digits c.args.base false) in
    let fits = next_part_fits c.args.separator parts c.loop-place.place (omega arith) (omega arith) in
    omega (arith, c.loop-place.invariant.counted)

pub put_digits-len-requires-clause-room : goal.put_digits-len-requires-clause-room
put_digits-len-requires-clause-room c =
    let write = digits c.args.base false in
    let parts = map write c.args.groups.now in
    let place = c.loop-place.place in
    let lengths = length-map c.args.groups.now write in
    let part = ap length (get_or-map write c.args.groups.now place 0 [] (omega arith)) in
    elim c.if-place-gt0.branch [
      | then-place-gt0 w ↦
          let fits = next_part_fits c.args.separator parts place (omega arith) (omega arith) in
          omega (arith, c.loop-place.invariant.counted)
      | else-place-gt0 w ↦
          let first : place ≡ 0 = omega arith in
          let long = ap (λ k. length (get_or parts k [])) first in
          let before = ap (λ k. length (join_with_byte c.args.separator (take k parts))) first in
          omega (arith, c.loop-place.invariant.counted, first_part_fits c.args.separator parts (omega arith))
    ]

pub loop-place-preserved : goal.loop-place-preserved
loop-place-preserved c =
    let write = digits c.args.base false in
    let parts = map write c.args.groups.now in
    let separator = c.args.separator in
    let place = c.loop-place.place in
    let start = c.args.into.now in
    let joined = join_with_byte separator (take place parts) in
    let part = write (get_or c.args.groups.now place 0) in
    let put = c.put_digits-len in
    let lengths = length-map c.args.groups.now write in
    let is = get_or-map write c.args.groups.now place 0 [] (omega arith) in
    elim c.if-place-gt0.branch [
      | then-place-gt0 w ↦
          let fits = next_part_fits separator parts place (omega arith) (omega arith) in
          let as_long = ap length w.into-is ∙ length-set c.loop-place.into c.loop-place.len separator in
          let room : c.loop-place.len < length c.loop-place.into =
          omega (arith, c.loop-place.invariant.counted) in
          let parted : Holds c.if-place-gt0.into start (joined ++ separator ∷ []) c.if-place-gt0.len =
          rw (w.into-is, w.len-is)
          (Holds_byte c.loop-place.into start joined c.loop-place.len separator c.loop-place.invariant room) in
          Holds_text put.new.into start (joined ++ separator ∷ [] ++ part) _ put.result
          (append_assoc joined (separator ∷ []) part ∙ ap (λ text. joined ++ separator ∷ text) (sym is)
          ∙ sym (join_with_byte_more separator parts place (omega arith) (omega arith)))
          (Holds_piece c.if-place-gt0.into start
          (joined ++ separator ∷ []) part put.new.into c.if-place-gt0.len put.result parted put.ensures.len
          put.ensures.text put.ensures.after)
      | else-place-gt0 w ↦
          let first : place ≡ 0 = omega arith in
          let none : joined ≡ [] = ap (λ k. join_with_byte separator (take k parts)) first in
          let begun : Holds c.if-place-gt0.into start [] c.if-place-gt0.len =
          rw (w.into-is, w.len-is)
          (Holds_text c.loop-place.into start joined [] c.loop-place.len none c.loop-place.invariant) in
          Holds_text put.new.into start part _ put.result
          (sym is ∙ ap (λ k. get_or parts k []) first ∙ sym (join_with_byte_first separator parts (omega arith))
          ∙ ap (λ k. join_with_byte separator (take (k + 1) parts)) (sym first))
          (Holds_piece c.if-place-gt0.into start [] part put.new.into c.if-place-gt0.len put.result begun
          put.ensures.len put.ensures.text put.ensures.after)
    ]

use Rattle.std.proofs.Common.{◌≡◌, ℕ, ◌+◌, ◌-◌, ◌∷◌, length, take, drop, get_or, sym, ◌∙◌, ap, arith}
use Rattle.std.proofs.lemmas.List.{length-take-le, drop-take}
use Rattle.state_parts.proofs.SliceLaws.{piece_at, piece_within}
use Rattle.state_parts.proofs.slices.slice.Goals as goal

pub split_at-requires : goal.split_at-requires
split_at-requires g c = (piece_within 0 c.args.ends.now (length c.args.items.now) c.args.k c.requires.pieces
    c.requires.k).1

pub split_at-requires-2 : goal.split_at-requires-2
split_at-requires-2 g c =
    let within = piece_within 0 c.args.ends.now (length c.args.items.now) c.args.k c.requires.pieces c.requires.k in
    omega (
      arith,
      within.0,
      within.1,
      c.start_of.ensures,
      ap length c.split_at.ensures.front,
      length-take-le
          (get_or c.args.ends.now c.args.k 0) c.args.items.now within.1,
    )

pub returns : goal.returns
returns g c =
    let within = piece_within 0 c.args.ends.now (length c.args.items.now) c.args.k c.requires.pieces c.requires.k in
    let start : ℕ = get_or (0 ∷ c.args.ends.now) c.args.k 0 in
    let end : ℕ = get_or c.args.ends.now c.args.k 0 in
    let e : start + (end - start) ≡ end = omega (arith, within.0) in
    c.split_at-2.ensures.back
    ∙ (λ i. drop (c.start_of.ensures i) (c.split_at.ensures.front i))
    ∙ ap (λ n. drop start (take n c.args.items.now)) (sym e)
    ∙ drop-take start (end - start) c.args.items.now
    ∙ sym (piece_at c.args.items.now 0 c.args.ends.now c.args.k c.requires.k)

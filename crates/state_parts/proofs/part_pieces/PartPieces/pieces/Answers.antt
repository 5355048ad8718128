use Rattle.std.proofs.Common.{◌≡◌, length, sym, ◌∙◌, ap, arith}
use Rattle.state_parts.proofs.SliceLaws.{length-pieces}
use Rattle.state_parts.proofs.part_pieces.PartPieces.pieces.Goals as goal

pub slice-requires-clause-k : goal.slice-requires-clause-k
slice-requires-clause-k c =
    let inside = c.self.inside in
    let long : length c.args.self.now ≡ length inside.ends.items = sym (ap length c.self.view_is)
    ∙ length-pieces inside.pieces.items 0 inside.ends.items in
    omega (arith, long, c.requires, ap length c.as_slice-2.ensures.value)

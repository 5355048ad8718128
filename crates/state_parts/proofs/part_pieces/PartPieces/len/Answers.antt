use Rattle.std.proofs.Common.{◌≡◌, length, sym, ◌∙◌, ap, arith}
use Rattle.state_parts.proofs.SliceLaws.{length-pieces}
use Rattle.state_parts.proofs.part_pieces.PartPieces.len.Goals as goal

pub returns : goal.returns
returns c =
    let inside = c.self.inside in
    let long : length c.args.self.now ≡ length inside.ends.items = sym (ap length c.self.view_is)
    ∙ length-pieces inside.pieces.items 0 inside.ends.items in
    omega (arith, long, c.len.ensures, inside.ends.ok)

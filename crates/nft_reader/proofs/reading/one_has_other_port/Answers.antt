-- The statements are asked by their views.
use Rattle.std.proofs.Common.{◌∙◌, sym}
use Rattle.nft_reader.specs.Readings.{has_other_port}
use Rattle.nft_reader.proofs.Views.{any_view}
use Rattle.nft_reader.proofs.reading.one_has_other_port.Goals as goal

pub returns : goal.returns
returns c =
    c.any_has_other_port.ensures
    ∙ sym (any_view (has_other_port c.args.name.now) c.args.statements.now)

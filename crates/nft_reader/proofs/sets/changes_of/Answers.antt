-- The objects are asked by their views.
use Rattle.std.proofs.Common.{◌∙◌, sym}
use Rattle.nft_reader.specs.Sets.{changes_in}
use Rattle.nft_reader.proofs.Views.{flat_map_views}
use Rattle.nft_reader.proofs.sets.changes_of.Goals as goal

pub returns : goal.returns
returns c = c.in_ok-changes.ensures ∙ sym (flat_map_views changes_in c.args.objects.now)

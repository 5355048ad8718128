-- The statements are asked by their views.
use Rattle.std.proofs.Common.{◌++◌, ◌∙◌, ap, sym}
use Rattle.nft_reader.specs.Sets.{change_of}
use Rattle.nft_reader.proofs.Views.{flat_map_views}
use Rattle.nft_reader.proofs.sets.put_changes.Goals as goal

pub returns : goal.returns
returns c =
    c.in_ok-put_each_change.ensures
    ∙ ap (λ more. c.args.changes.now.items ++ more)
    (sym (flat_map_views (change_of c.args.family.now c.args.table.now) c.args.statements.now))

-- The statements are asked by their views.
use Rattle.std.proofs.Common.{◌∙◌, ap, sym}
use Rattle.nft_reader.specs.Sets.{are_counters, are_quiet, is_counter}
use Rattle.nft_reader.proofs.Views.{all_views}
use Rattle.nft_reader.proofs.sets.has_quiet_statements.Goals as goal

pub returns-in-Some-items_of : goal.returns-in-Some-items_of
returns-in-Some-items_of c =
    c.are_counters.ensures
    ∙ sym (all_views is_counter c.in-Some-items_of.statements.now)
    ∙ ap are_counters c.in-Some-items_of.ensures
    ∙ ap are_quiet c.in-Some.ensures

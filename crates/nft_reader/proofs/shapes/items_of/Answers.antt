-- The items of an array.
use Rattle.std.proofs.Common.{map, Some, sym, ap, ◌∙◌}
use Rattle.json.specs.Value.{value_view}
use Rattle.json.proofs.Trees.{view-Array}
use Rattle.nft_reader.specs.Shapes.{items_of}
use Rattle.nft_reader.proofs.Views.{list_of_view}
use Rattle.nft_reader.proofs.shapes.items_of.Goals as goal

pub returns-in-Array : goal.returns-in-Array
returns-in-Array c =
    sym (ap (λ it. items_of (value_view it)) c.in-Array.is
    ∙ ap items_of (view-Array c.in-Array.items)
    ∙ ap Some (list_of_view c.in-Array.items.items ∙ ap (map value_view) (sym c.as_slice.ensures.value)))

-- How many members an object has.
use Rattle.std.proofs.Common.{ap, ◌∙◌, rules}
use Rattle.json.specs.Value.{value_view}
use Rattle.json.proofs.Trees.{view-Object}
use Rattle.nft_reader.specs.Shapes.{len_of}
use Rattle.nft_reader.proofs.Views.{count_of_view}
use Rattle.nft_reader.proofs.shapes.len_of.Goals as goal

pub returns-in-Object : goal.returns-in-Object
returns-in-Object c =
    let seen = ap (λ it. len_of (value_view it)) c.in-Object.is ∙ ap len_of (view-Object c.in-Object.members)
    ∙ count_of_view c.in-Object.members.items in
    rw seen (search rules)

-- The elements that were read so far.
use Rattle.std.proofs.Common.{[]}
use Rattle.json.specs.Value.{value_view}
use Rattle.nft_reader.specs.Values.{with_element}
use Rattle.nft_reader.proofs.Folding.{Folding}
use Rattle.nft_reader.proofs.values.part_boxes.Given as goal

-- those that are left make what all make
abbrev pub invariant-loop-element : goal.invariant-loop-element
invariant-loop-element l =
    Folding (with_element l.family l.all l.part) value_view l.elements l.element-index [] l.boxes.items

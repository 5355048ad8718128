-- The elements that were read so far.
use Rattle.std.proofs.Common.{[]}
use Rattle.json.specs.Value.{value_view}
use Rattle.nft_reader.specs.Keys.{with_key}
use Rattle.nft_reader.specs.Known.{question_of}
use Rattle.nft_reader.proofs.Folding.{Folding}
use Rattle.nft_reader.proofs.known.Known.elements_boxes.Given as goal

-- those that are left make what all make
abbrev pub invariant-loop-element : goal.invariant-loop-element
invariant-loop-element l =
    Folding (with_key (question_of l.self) (value_view l.key)) value_view l.elements l.element-index [] l.boxes.items

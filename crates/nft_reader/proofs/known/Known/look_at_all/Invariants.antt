-- The elements that were read so far.
use Rattle.json.specs.Value.{value_view}
use Rattle.nft_reader.specs.Maps.{none_looked, with_element}
use Rattle.nft_reader.specs.Known.{known_of}
use Rattle.nft_reader.proofs.Folding.{Folding}
use Rattle.nft_reader.proofs.known.Known.look_at_all.Given as goal

-- those that are left make what all make
abbrev pub invariant-loop-element : goal.invariant-loop-element
invariant-loop-element l =
    Folding (with_element (known_of l.self) (value_view l.key) l.compared) value_view l.elements l.element-index
    none_looked l.looking

-- What the elements so far do.
use Rattle.json.specs.Value.{value_view}
use Rattle.nft_reader.specs.Effects.{with_element_effect}
use Rattle.nft_reader.specs.Known.{known_of}
use Rattle.nft_reader.proofs.Folds.{Made}
use Rattle.nft_reader.proofs.effects.Effects.add_elements.Given as goal

-- those that are left make of it what all make
abbrev pub invariant-loop-element : goal.invariant-loop-element
invariant-loop-element l =
    Made (with_element_effect (known_of l.known)) value_view l.elements l.element-index l.fn.self l.self

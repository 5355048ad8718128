-- The objects that were read so far.
use Rattle.std.proofs.Common.{◌≡◌}
use Rattle.json.specs.Value.{value_view}
use Rattle.nft_reader.specs.Known.{setting_of}
use Rattle.nft_reader.specs.Ruleset.{none_read, with_next}
use Rattle.nft_reader.proofs.Folding.{Folding}
use Rattle.nft_reader.proofs.known.Setting.read.Given as goal

-- those that are left, after the chains so far, make what all objects make
abbrev pub invariant-loop-value : goal.invariant-loop-value
invariant-loop-value l =
    (l.object ≡ l.value-index)
    × Folding (with_next (setting_of l.self)) value_view l.objects l.value-index
    none_read (record { number = l.object; chains = l.chains.items })
